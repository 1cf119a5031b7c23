-- 01, 'Vote answer', at a box that is in the answer's term. Assumes nothing.
use Rattle.std.specs.Prelude.{ℕ, Bool, cond, ◌&&◌, [], eqb}
use Rattle.std.specs.Int.Bits.{bit_or}
use Rattle.raft.specs.Majority.{bit, majority}
use Rattle.raft.specs.Record.{State, candidate, with_votes}
use Rattle.raft.specs.Outcome.{Outcome, done}
use Rattle.raft.specs.Winning.{won}

-- "At a candidate a yes adds the sender"
unfoldable pub adding : State → ℕ → State
adding s from = with_votes (bit_or s.votes (bit from)) s

-- "a majority wins"
unfoldable pub counted : State → Outcome
counted s = cond (majority s.members s.votes) (won s) (done s [])

-- "Otherwise nothing."
unfoldable pub counts : State → (reply : ℕ) → Bool
counts s reply = eqb s.role candidate && eqb reply 1

unfoldable pub on_vote_answer : State → (from reply : ℕ) → Outcome
on_vote_answer s from reply = cond (counts s reply) (counted (adding s from)) (done s [])
