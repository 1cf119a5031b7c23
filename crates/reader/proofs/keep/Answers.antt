-- What is copied is as long as what is held from the place on.
use native.Mathlib.Omega.{arith}
use Prim.Native.Nat.{◌-◌}
use mathlib.Core.Path.{◌∙◌}
use lib.ListN.{drop}
use Rattle.std.proofs.Common.{length-drop, length-take-le}
use Rattle.digits.specs.Room.{over}
use Rattle.reader.proofs.keep.Goals as goal

pub returns-clause-block_after : goal.returns-clause-block_after
unfolding over
returns-clause-block_after c =
    c.copy_within.ensures.after
    ∙ rw (length-take-le (c.args.held - c.args.from) (drop c.args.from c.args.block.now) (omega (arith, length-drop c.args.from c.args.block.now)))
