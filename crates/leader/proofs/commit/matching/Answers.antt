-- The sum is the definition's own.
use Rattle.raft.specs.Commit.{matching}
use Rattle.leader.proofs.commit.matching.Goals as goal

pub returns : goal.returns
unfolding matching
returns c =
    λ log h.
    rw (
      c.if_matches.ensures.found log h,
      c.if_matches-2.ensures.found log h,
      c.if_matches-3.ensures.found log h,
      c.if_matches-4.ensures.found log h,
      c.if_matches-5.ensures.found log h,
      c.if_matches-6.ensures.found log h,
      c.if_matches-7.ensures.found log h,
    )
