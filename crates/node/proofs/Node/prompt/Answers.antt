-- 12 where the record breaks a rule; otherwise the event decides.
use mathlib.Core.Path.{◌∙◌}
use Rattle.raft.specs.Event.{is_prompted}
use Rattle.node.specs.LookLaws.{looked_good, exit-bad, exit-runs}
use Rattle.node.proofs.Node.prompt.Goals as goal

pub returns-in_err-look : goal.returns-in_err-look
returns-in_err-look c =
    exit-bad c.args.self _ (is_prompted) c.args.terms.now c.args.orders.now c.args.journal.now c.args.messages.now
    c.from_residual.result c.from_residual.ensures.1 (c.in_err-look.ensures c.args.orders.now)

pub returns-in_err-run_prompt : goal.returns-in_err-run_prompt
returns-in_err-run_prompt c =
    exit-runs c.args.self _ (is_prompted) c.args.terms.now c.args.orders.now c.args.journal.now c.args.messages.now
    c.from_residual-in_err-run_prompt.result c.from_residual-in_err-run_prompt.ensures.1 (c.in_ok-look.ensures c.args.orders.now) c.in_err-run_prompt.ensures

pub returns : goal.returns
returns c =
    rw c.boxed.ensures
    (c.in_ok-run_prompt.ensures
    ∙ looked_good c.args.self.state c.args.terms.now c.args.orders.now (c.in_ok-look.ensures c.args.orders.now) (is_prompted) c.args.journal.now c.args.messages.now)
