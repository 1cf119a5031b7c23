-- 01, 'Append', at a box that is in the append's term. Assumes nothing.
use Rattle.std.specs.Prelude.{ℕ, ◌+◌, max, min, Bool, true, false, not, cond, ◌&&◌, List, [], ◌∷◌, ◌++◌, eqb, ltb, leb, length, take, drop}
use Rattle.frames.specs.declared.Entry.{Entry}
use Rattle.frames.specs.Message.{Message, append_answer}
use Rattle.raft.specs.Record.{State, leader, term_at, with_log, with_commit, as_follower}
use Rattle.raft.specs.Outcome.{Outcome, done, refuse}
use Rattle.raft.specs.AnyMessage.{reply_of}

-- "If previous index is not 0 and the log lacks an entry there with that term"
unfoldable pub lacks : List Entry → (index term : ℕ) → Bool
lacks log index term = leb 1 index && not (leb index (length log) && eqb (term_at log index) term)

-- "the search stops at the first entry whose index holds another term", or past the end: how many offered entries it has passed, the log's
-- entries behind the previous index being held.
unfoldable pub agreed : (held offered : List Entry) → ℕ
agreed held [] = 0
agreed [] (e ∷ es) = 0
agreed (h ∷ held) (e ∷ es) = cond (eqb h.term e.term) (1 + agreed held es) 0

-- The last index before the search's stop.
unfoldable pub stop : List Entry → ℕ → List Entry → ℕ
stop log index es = index + agreed (drop index log) es

-- The search has passed all that is offered: no conflict, and nothing past the end.
unfoldable pub passes : List Entry → ℕ → List Entry → Bool
passes log index es = eqb (agreed (drop index log) es) (length es)

-- "the log is cut there and the rest added. Entries past the end are added. Without a conflict nothing is cut."
unfoldable pub joined : List Entry → ℕ → List Entry → List Entry
joined log index es = cond (passes log index es) log (take (stop log index es) log ++ drop (agreed (drop index log) es) es)

-- Refusal 7: "would cut at or below commit". What is cut first stands behind the stop.
unfoldable pub cuts_committed : State → ℕ → List Entry → Bool
cuts_committed s index es = not (passes s.log index es) && ltb (stop s.log index es) s.commit

-- "A candidate becomes follower."
unfoldable pub following : State → State
following s = as_follower s

-- "Commit becomes the larger of itself and the smaller of (leader's commit, previous index + count)."
abbrev pub commit_after : (own leaders end : ℕ) → ℕ
commit_after own leaders end = max own (min leaders end)

unfoldable pub joining : State → (index commit : ℕ) → List Entry → State
joining s index commit es =
    as_follower (with_commit (commit_after s.commit commit (index + length es)) (with_log (joined s.log index es) s))

-- "Answer yes with previous index + count"; a no names index 0.
abbrev pub append_answer_to : State → (to index : ℕ) → Bool → Message
append_answer_to t to index granted = append_answer t.me to t.term (reply_of granted) index

abbrev pub say_no : State → ℕ → Outcome
say_no t to = done t (append_answer_to t to 0 false ∷ [])

abbrev pub say_yes : State → (to index : ℕ) → Outcome
say_yes t to index = done t (append_answer_to t to index true ∷ [])

abbrev pub accept : State → (from index commit : ℕ) → List Entry → Outcome
accept s from index commit es =
    cond (cuts_committed s index es) (refuse 7) (say_yes (joining s index commit es) from (index + length es))

-- Refusal 6: "append of the box's own term, and it leads".
unfoldable pub on_append : State → (from index prior commit : ℕ) → List Entry → Outcome
on_append s from index prior commit es =
    cond (eqb s.role leader) (refuse 6)
    (cond (lacks s.log index prior) (say_no (following s) from)
    (accept s from index commit es))
