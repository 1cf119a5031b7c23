-- What a box sends: vote requests, appends, in rising box number. Assumes nothing.
use Rattle.std.specs.Prelude.{ℕ, zero, suc, ◌-◌, cond, List, [], ◌∷◌, ◌++◌, take, drop}
use Rattle.frames.specs.Limits.{boxes, entry_limit}
use Rattle.frames.specs.Message.{Message, vote_request, append, text}
use Rattle.raft.specs.Record.{State, last_index, last_term, term_at, of_box, is_other}

-- "vote request to every other member", with the last index and its term
abbrev pub vote_request_to : State → ℕ → Message
vote_request_to s i = vote_request s.me i s.term (last_index s) (last_term s)

-- "Append to j. Previous index = next - 1 with its term (0, 0 at the start), up to 4 entries from next on, the leader's commit."
abbrev pub append_after : State → ℕ → ℕ → Message
append_after s previous i =
    append s.me i s.term previous (term_at s.log previous) s.commit (take entry_limit (drop previous s.log))

abbrev pub append_to : State → ℕ → Message
append_to s i = append_after s (of_box s.lead.next i - 1) i

-- A message to each other member, "in rising box number": from box i on, n boxes.
unfoldable pub to_others : State → (ℕ → Message) → ℕ → ℕ → List Message
to_others s message i zero = []
to_others s message i (suc n) = cond (is_other s.me s.members i) (message i ∷ to_others s message (suc i) n) (to_others s message (suc i) n)

unfoldable pub vote_requests : State → List Message
vote_requests s = to_others s (vote_request_to s) 1 boxes

unfoldable pub appends : State → List Message
appends s = to_others s (append_to s) 1 boxes

-- The bytes of messages, one behind the other.
unfoldable pub texts : List Message → List ℕ
texts [] = []
texts (m ∷ ms) = text m ++ texts ms
