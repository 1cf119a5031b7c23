-- The rules on the numbers, and then the entry rule (`allows-by`).
use native.Mathlib.Omega.{arith}
use mathlib.Core.Path.{sym, ◌∙◌}
use Rattle.frames.specs.Laws.{listed-take}
use Rattle.opening.specs.CodeLaws.{allows-by, numbers}
use Rattle.opening.proofs.lines.is_allowed.Goals as goal

pub returns-then-not-allows_numbers : goal.returns-then-not-allows_numbers
returns-then-not-allows_numbers c =
    let broken = sym c.allows_numbers.ensures ∙ c.if-not-allows_numbers.true in
    λ orders. sym (rw (allows-by c.args.n c.args.l c.args.terms.now orders, broken))

pub returns : goal.returns
returns c =
    let hold = sym c.allows_numbers.ensures ∙ c.if-not-allows_numbers.false in
    let inside = (numbers c.args.n c.args.l hold).inside in
    let by = allows-by c.args.n c.args.l c.args.terms.now in
    let all = listed-take c.args.l.entries c.args.l.count (omega arith) in
    λ orders. c.in_order.ensures ∙ sym (rw (by orders, hold, all, sym (c.term_at.ensures orders c.args.n.last inside)))
