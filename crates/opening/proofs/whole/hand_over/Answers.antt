-- The entries up to a place are handed over; the next goes behind them (`copy_next`).
use Rattle.std.proofs.Common.{arith}
use Rattle.text.specs.Copying.{copy_none, copy_next}
use Rattle.opening.proofs.whole.hand_over.Goals as goal

pub loop-i-init : goal.loop-i-init
loop-i-init c =
    record { terms_hold = copy_none c.args.terms.now c.args.terms_made.now; orders_hold = copy_none c.args.orders.now c.args.orders_made.now }

pub loop-i-preserved : goal.loop-i-preserved
loop-i-preserved c =
    record {
      terms_hold = copy_next c.args.terms.now c.args.terms_made.now c.loop-i.i (omega arith) (omega arith) c.loop-i.invariant.terms_hold;
      orders_hold = copy_next c.args.orders.now c.args.orders_made.now c.loop-i.i (omega arith) (omega arith) c.loop-i.invariant.orders_hold;
    }
