-- The tests are the definition's own.
use Rattle.printing.specs.TextLaws.{rest-whole}
use mathlib.Core.Path.{sym, ◌∙◌}
use Rattle.console.specs.LineLaws.{order-long, order_other, order-by}
use Rattle.console.proofs.lines.is_order.Goals as goal

pub returns-then-s-ne18 : goal.returns-then-s-ne18
returns-then-s-ne18 c =
    sym (order-long c.args.s.now c.if-s-ne18.true)

pub returns-then-s-ne111 : goal.returns-then-s-ne111
returns-then-s-ne111 c =
    sym (order_other c.args.s.now c.if-s-ne18.false c.if-s-ne111.true)

pub returns : goal.returns
returns c =
    (rw (rest-whole c.args.s.now 1) at c.is_line.ensures) ∙ sym (order-by c.args.s.now c.if-s-ne18.false c.if-s-ne111.false)
