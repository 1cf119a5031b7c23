-- The digits, and the character behind them.
use native.Mathlib.Omega.{arith}
use Rattle.printing.specs.LookingLaws.{numbered-put}
use Rattle.printing.proofs.looking.put_number.Goals as goal

pub returns : goal.returns
returns c =
    record { puts = numbered-put c.args.room.now c.args.at c.args.n c.args.behind c.requires c.put_decimal-end.ensures.puts; upper_bound = omega (arith, c.put_decimal-end.ensures.upper_bound) }
