-- Sixteen digits stand behind the letter (`order-facts`).
use Rattle.printing.specs.TextLaws.{rest-whole}
use Rattle.console.specs.Session.{order_in}
use native.Mathlib.Omega.{arith}
use Rattle.console.specs.LineLaws.{order-facts}
use Rattle.console.proofs.lines.order_in.Goals as goal

pub slice_bounds-get-count : goal.slice_bounds-get-count
slice_bounds-get-count c =
    omega (arith, (order-facts c.args.s.now c.requires).long)

pub slice_bounds-get-start : goal.slice_bounds-get-start
slice_bounds-get-start c =
    omega (arith, (order-facts c.args.s.now c.requires).long)

pub get-requires : goal.get-requires
get-requires c =
    rw (rest-whole c.args.s.now 1) (omega (arith, (order-facts c.args.s.now c.requires).digits))

pub returns : goal.returns
unfolding order_in
returns c =
    rw (rest-whole c.args.s.now 1) at c.get.ensures
