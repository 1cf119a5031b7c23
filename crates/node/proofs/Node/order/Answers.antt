-- 12 where the record breaks a rule; otherwise the event decides.
use mathlib.Core.Path.{◌∙◌}
use Rattle.raft.specs.Event.{takes_order}
use Rattle.node.specs.LookLaws.{looked_good, exit-bad, exit-runs}
use Rattle.node.proofs.Node.order.Goals as goal

pub returns-in_err-look : goal.returns-in_err-look
returns-in_err-look c =
    exit-bad c.args.self _ (takes_order c.args.order) c.args.terms.now c.args.orders.now c.args.journal.now c.args.messages.now
    c.from_residual.result c.from_residual.ensures.1 (c.in_err-look.ensures c.args.orders.now)

pub returns-in_err-run_order : goal.returns-in_err-run_order
returns-in_err-run_order c =
    exit-runs c.args.self _ (takes_order c.args.order) c.args.terms.now c.args.orders.now c.args.journal.now c.args.messages.now
    c.from_residual-in_err-run_order.result c.from_residual-in_err-run_order.ensures.1 (c.in_ok-look.ensures c.args.orders.now) c.in_err-run_order.ensures

pub returns : goal.returns
returns c =
    rw c.boxed.ensures
    (c.in_ok-run_order.ensures
    ∙ looked_good c.args.self.state c.args.terms.now c.args.orders.now (c.in_ok-look.ensures c.args.orders.now) (takes_order c.args.order) c.args.journal.now c.args.messages.now)
