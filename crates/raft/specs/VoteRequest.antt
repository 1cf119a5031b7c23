-- 01, 'Vote request', at a box that is in the request's term. Assumes nothing.
use Rattle.std.specs.Prelude.{ℕ, Bool, cond, ◌&&◌, ◌||◌, [], ◌∷◌, eqb}
use Rattle.frames.specs.Message.{Message, vote_answer}
use Rattle.raft.specs.Newer.{as_new}
use Rattle.raft.specs.Record.{State, last_index, last_term, with_vote}
use Rattle.raft.specs.Outcome.{Outcome, done}
use Rattle.raft.specs.AnyMessage.{reply_of}

-- "Yes exactly when vote is 0 or the asker and the asker's log is at least as new"
abbrev pub is_granted : (vote from index term own-index own-term : ℕ) → Bool
is_granted vote from index term own-index own-term = (eqb vote 0 || eqb vote from) && as_new index term own-index own-term

unfoldable pub grants : State → (from index term : ℕ) → Bool
grants s from index term = is_granted s.vote from index term (last_index s) (last_term s)

-- "A yes sets vote."
unfoldable pub voting : State → ℕ → State
voting s from = with_vote from s

unfoldable pub asked : State → (from index prior : ℕ) → State
asked s from index prior = cond (grants s from index prior) (voting s from) s

-- The answer carries "the box's own term".
abbrev pub vote_answer_to : State → ℕ → Bool → Message
vote_answer_to t to granted = vote_answer t.me to t.term (reply_of granted)

unfoldable pub on_vote_request : State → (from index prior : ℕ) → Outcome
on_vote_request s from index prior =
    done (asked s from index prior) (vote_answer_to (asked s from index prior) from (grants s from index prior) ∷ [])
