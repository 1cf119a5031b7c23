-- The definition's own tests.
use mathlib.Core.Path.{sym, ◌∙◌}
use borrow.Author.Tests.{lt-ltb, le-ltb}
use Rattle.raft.specs.LargestMatch.{larger_matched}
use Rattle.leader.proofs.commit.larger_matched.Goals as goal

pub returns-then-is_matched : goal.returns-then-is_matched
unfolding larger_matched
returns-then-is_matched c =
    λ log h. rw (← c.matches-m.ensures log h, lt-ltb _ _ c.if-found-m.true, sym (c.is_matched.ensures log h) ∙ c.if-is_matched.true)

pub returns-else-is_matched : goal.returns-else-is_matched
unfolding larger_matched
returns-else-is_matched c =
    λ log h. rw (← c.matches-m.ensures log h, lt-ltb _ _ c.if-found-m.true, sym (c.is_matched.ensures log h) ∙ c.if-is_matched.false)

pub returns-else-found-m : goal.returns-else-found-m
unfolding larger_matched
returns-else-found-m c =
    λ log h. rw (← c.matches-m.ensures log h, le-ltb _ _ c.if-found-m.false)
