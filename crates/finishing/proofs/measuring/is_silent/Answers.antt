-- The test is the definition's own.
use borrow.Author.Rules.{rules}
use Rattle.record.specs.Sizes.{is_silent}
use Rattle.finishing.proofs.measuring.is_silent.Goals as goal

pub returns : goal.returns
unfolding is_silent
returns c = search rules
