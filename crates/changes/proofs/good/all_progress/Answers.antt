-- Seven boxes, one rule.
use Rattle.record.specs.GoodLaws.{all_progress}
use Rattle.changes.proofs.good.all_progress.Goals as goal

pub returns : goal.returns
unfolding all_progress
returns c =
    rw (
      c.progress_of.ensures,
      c.progress_of-2.ensures,
      c.progress_of-3.ensures,
      c.progress_of-4.ensures,
      c.progress_of-5.ensures,
      c.progress_of-6.ensures,
      c.progress_of-7.ensures,
    )
