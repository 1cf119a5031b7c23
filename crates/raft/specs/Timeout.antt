-- 01, 'Timeout'. Assumes nothing.
use Rattle.std.specs.Prelude.{ℕ, ◌+◌, cond, [], eqb}
use Rattle.raft.specs.Majority.{bit, majority}
use Rattle.raft.specs.Record.{State, leader, with_term, with_vote, as_candidate}
use Rattle.raft.specs.Sends.{vote_requests}
use Rattle.raft.specs.Outcome.{Outcome, done, refuse}
use Rattle.raft.specs.Winning.{won}

-- The last term there is.
abbrev pub last_of_terms : ℕ
last_of_terms = 4294967295

-- "term + 1, candidate, vote and votes = itself"
unfoldable pub standing : State → State
standing s = as_candidate (bit s.me) (with_vote s.me (with_term (s.term + 1) s))

-- "Timeout. Leader: nothing. Otherwise .. vote request to every other member. A majority already (one member): it leads at once."
-- Refusal 9: "timeout at a non-leader in the last term".
unfoldable pub timeout : State → Outcome
timeout s =
    cond (eqb s.role leader) (done s [])
    (cond (eqb s.term last_of_terms) (refuse 9)
    (cond (majority s.members (bit s.me)) (won (standing s))
    (done (standing s) (vote_requests (standing s)))))
