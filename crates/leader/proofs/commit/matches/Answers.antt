-- The definition's two cases; the struct counts the log's entries.
use mathlib.Core.Path.{sym}
use borrow.Author.Tests.{eq-eqb, ne_eqb}
use Rattle.raft.specs.Commit.{matches}
use Rattle.leader.proofs.commit.matches.Goals as goal

pub returns-then-i-n : goal.returns-then-i-n
unfolding matches
returns-then-i-n c =
    λ log h. rw (eq-eqb _ _ c.if-i-n.true) (sym h)

pub returns : goal.returns
unfolding matches
returns c =
    λ log h. rw (ne_eqb _ _ c.if-i-n.false)
