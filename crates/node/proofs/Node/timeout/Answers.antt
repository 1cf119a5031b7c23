-- 12 where the record breaks a rule; otherwise the event decides.
use mathlib.Core.Path.{◌∙◌}
use Rattle.raft.specs.Event.{times_out}
use Rattle.node.specs.LookLaws.{looked_good, exit-bad, exit-runs}
use Rattle.node.proofs.Node.timeout.Goals as goal

pub returns-in_err-look : goal.returns-in_err-look
returns-in_err-look c =
    exit-bad c.args.self _ (times_out) c.args.terms.now c.args.orders.now c.args.journal.now c.args.messages.now
    c.from_residual.result c.from_residual.ensures.1 (c.in_err-look.ensures c.args.orders.now)

pub returns-in_err-run_timeout : goal.returns-in_err-run_timeout
returns-in_err-run_timeout c =
    exit-runs c.args.self _ (times_out) c.args.terms.now c.args.orders.now c.args.journal.now c.args.messages.now
    c.from_residual-in_err-run_timeout.result c.from_residual-in_err-run_timeout.ensures.1 (c.in_ok-look.ensures c.args.orders.now) c.in_err-run_timeout.ensures

pub returns : goal.returns
returns c =
    rw c.boxed.ensures
    (c.in_ok-run_timeout.ensures
    ∙ looked_good c.args.self.state c.args.terms.now c.args.orders.now (c.in_ok-look.ensures c.args.orders.now) (times_out) c.args.journal.now c.args.messages.now)
