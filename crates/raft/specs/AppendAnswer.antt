-- 01, 'Append answer', at a box that is in the answer's term. Assumes nothing.
use Rattle.std.specs.Prelude.{ℕ, ◌+◌, ◌-◌, max, Bool, cond, ◌&&◌, ◌||◌, List, [], ◌∷◌, eqb, ltb, leb, set}
use Rattle.raft.specs.Record.{State, leader, last_index, of_box, with_lead}
use Rattle.raft.specs.Commit.{settle}
use Rattle.raft.specs.Sends.{append_to}
use Rattle.raft.specs.Outcome.{Outcome, done, refuse}

-- "Yes: match = the larger of match and the index named"
unfoldable pub match_after : (reply index matched : ℕ) → ℕ
match_after reply index matched = cond (eqb reply 1) (max matched index) matched

-- "next = the larger of next and match + 1. No: next = the larger of next - 1 and match + 1."
unfoldable pub next_heard : (reply next matched : ℕ) → ℕ
next_heard reply next matched = cond (eqb reply 1) (max next (matched + 1)) (max (next - 1) (matched + 1))

-- What is kept for box i, replaced.
abbrev pub with_box : List ℕ → ℕ → ℕ → List ℕ
with_box list i n = set list (i - 1) n

unfoldable pub heard : State → (from reply index : ℕ) → State
heard s from reply index =
    with_lead
    (record {
      next = with_box s.lead.next from
          (next_heard reply (of_box s.lead.next from) (match_after reply index (of_box s.lead.matched from)));
      matched = with_box s.lead.matched from (match_after reply index (of_box s.lead.matched from));
    })
    s

-- "After a no, or when next is not past the last index, one append to that box."
unfoldable pub sends_again : State → (to reply : ℕ) → Bool
sends_again t to reply = eqb reply 0 || leb (of_box t.lead.next to) (last_index t)

unfoldable pub answered : State → (to reply : ℕ) → Outcome
answered t to reply = done t (cond (sends_again t to reply) (append_to t to ∷ []) [])

-- At a leader. Refusal 8: "an append answer yes of its term names an index past its log".
unfoldable pub hear : State → (from reply index : ℕ) → Outcome
hear s from reply index =
    cond (eqb reply 1 && ltb (last_index s) index) (refuse 8) (answered (settle (heard s from reply index)) from reply)

unfoldable pub on_append_answer : State → (from reply index : ℕ) → Outcome
on_append_answer s from reply index = cond (eqb s.role leader) (hear s from reply index) (done s [])
