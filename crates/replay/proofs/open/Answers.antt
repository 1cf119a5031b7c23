-- The log of a head's record fits.
use Rattle.std.proofs.Common.{rules}
use Rattle.opening.specs.BlockCode.{head-fits}
use Rattle.replay.proofs.open.Goals as goal

pub later_lines-requires-clause-continues : goal.later_lines-requires-clause-continues
later_lines-requires-clause-continues g c =
    record {
      held = search rules;
      last = head-fits _ _ _ c.in-Ok.ensures;
    }
