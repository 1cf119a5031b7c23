-- The entries up to a place are stored; the next goes behind them (`store_next`), in the terms and in the orders.
use Rattle.std.proofs.Common.{arith}
use Rattle.digits.specs.RoomLaws.{over_nothing}
use Rattle.raft.specs.Lent.{terms_of, orders_of}
use Rattle.rules.specs.SearchLaws.{store_next}
use Rattle.rules.proofs.entries.store.Goals as goal

pub loop-i-init : goal.loop-i-init
unfolding terms_of orders_of
loop-i-init c = record { terms_hold = over_nothing _ _; orders_hold = over_nothing _ _ }

pub loop-i-preserved : goal.loop-i-preserved
unfolding terms_of orders_of
loop-i-preserved c =
    record {
      terms_hold = store_next (λ e. e.term) c.args.terms.now c.args.added.now c.args.at c.loop-i.i (omega arith) (omega arith) c.loop-i.invariant.terms_hold;
      orders_hold = store_next (λ e. e.order) c.args.orders.now c.args.added.now c.args.at c.loop-i.i (omega arith) (omega arith) c.loop-i.invariant.orders_hold;
    }
