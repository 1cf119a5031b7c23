-- The chain is the definition's own.
use Rattle.raft.specs.LargestMatch.{largest_matched}
use Rattle.leader.proofs.commit.largest_matched.Goals as goal

pub returns : goal.returns
unfolding largest_matched
returns c =
    λ log h.
    rw (
      c.larger_matched.ensures log h,
      c.larger_matched-f.ensures log h,
      c.larger_matched-e.ensures log h,
      c.larger_matched-d.ensures log h,
      c.larger_matched-c.ensures log h,
      c.larger_matched-b.ensures log h,
      c.larger_matched-a.ensures log h,
    )
