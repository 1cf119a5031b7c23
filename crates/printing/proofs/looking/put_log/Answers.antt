-- The entries up to a place are shown; the next goes behind them (`logged_next`).
use native.Mathlib.Omega.{arith}
use Rattle.digits.specs.RoomLaws.{over_nothing}
use Rattle.raft.specs.Lent.{entries_of}
use Rattle.printing.specs.Looking.{log_shown}
use Rattle.printing.specs.LookingLaws.{logged_next}
use Rattle.printing.proofs.looking.put_log.Goals as goal

pub loop-i-init : goal.loop-i-init
unfolding entries_of log_shown
loop-i-init c =
    over_nothing c.args.room.now c.args.at

pub loop-i-preserved : goal.loop-i-preserved
loop-i-preserved c =
    logged_next c.args.room.now c.args.at c.args.terms.now c.args.orders.now c.loop-i.i (omega (arith, c.requires.wide)) c.loop-i.invariant c.put_entry.ensures
