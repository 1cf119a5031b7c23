-- 12 at a record that is not good; otherwise each case is the event that the line asks for.
use mathlib.Core.Path.{sym, ap, ◌∙◌}
use Rattle.raft.specs.Event.{times_out, takes_order, is_prompted, receives}
use Rattle.console.specs.LineLaws.{asks-timeout, asks-prompt, asks-order, asks-receive}
use Rattle.console.specs.GoodLaws.{ready}
use Rattle.console.specs.AnswerLaws.{bad-left, event-left}
use Rattle.console.proofs.lines.step.Goals as goal

pub returns-then-not-known : goal.returns-then-not-known
returns-then-not-known c =
    bad-left c.args.line.now c.args.journal.now c.args.messages.now (sym c.requires.is ∙ c.if-not-known.true)

pub returns-then-is_letter : goal.returns-then-is_letter
returns-then-is_letter c =
    let good = ready c.requires c.if-not-known.false in
    let event = asks-timeout c.args.line.now (sym c.is_letter.ensures ∙ c.if-is_letter.true) in
    event-left c.args.line.now c.args.journal.now c.args.messages.now good times_out event c.run_timeout.result c.run_timeout.ensures

pub returns-then-is_letter-2 : goal.returns-then-is_letter-2
returns-then-is_letter-2 c =
    let good = ready c.requires c.if-not-known.false in
    let event = asks-prompt c.args.line.now (sym c.is_letter.ensures ∙ c.if-is_letter.false) (sym c.is_letter-2.ensures ∙ c.if-is_letter-2.true) in
    event-left c.args.line.now c.args.journal.now c.args.messages.now good is_prompted event c.run_prompt.result c.run_prompt.ensures

pub returns-then-is_order : goal.returns-then-is_order
returns-then-is_order c =
    let good = ready c.requires c.if-not-known.false in
    let no-timeout = sym c.is_letter.ensures ∙ c.if-is_letter.false in
    let no-prompt = sym c.is_letter-2.ensures ∙ c.if-is_letter-2.false in
    let event = asks-order c.args.line.now no-timeout no-prompt (sym c.is_order.ensures ∙ c.if-is_order.true) in
    event-left c.args.line.now c.args.journal.now c.args.messages.now good (takes_order _) (event ∙ ap takes_order (sym c.order_in.ensures))
    c.run_order.result c.run_order.ensures

pub returns : goal.returns
returns c =
    let good = ready c.requires c.if-not-known.false in
    let no-timeout = sym c.is_letter.ensures ∙ c.if-is_letter.false in
    let no-prompt = sym c.is_letter-2.ensures ∙ c.if-is_letter-2.false in
    let event = asks-receive c.args.line.now no-timeout no-prompt (sym c.is_order.ensures ∙ c.if-is_order.false) in
    event-left c.args.line.now c.args.journal.now c.args.messages.now good (receives c.args.line.now) event c.run_bytes.result c.run_bytes.ensures
