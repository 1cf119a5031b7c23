-- The test is the definition's own.
use mathlib.Core.Path.{◌∙◌}
use Rattle.raft.specs.Commit.{is_matched}
use Rattle.leader.proofs.commit.is_matched.Goals as goal

pub returns : goal.returns
unfolding is_matched
returns c =
    λ log h. c.is_majority.ensures ∙ rw (c.matching.ensures log h)
