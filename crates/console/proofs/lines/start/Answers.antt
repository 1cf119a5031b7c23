-- By the form of the line (`starts`).
use mathlib.Core.Path.{sym, ◌∙◌}
use native.Mathlib.Omega.{arith}
use Rattle.journal.specs.Lines.{box_in, mask_in}
use Rattle.console.specs.BeginLaws.{head-digits, starts_unshaped, starts-shaped}
use Rattle.console.proofs.lines.start.Goals as goal

pub returns-then-not-is_head_shaped : goal.returns-then-not-is_head_shaped
returns-then-not-is_head_shaped c =
    starts_unshaped c.args.line.now c.args.room.now (sym c.is_head_shaped.ensures ∙ c.if-not-is_head_shaped.true)

pub get-requires : goal.get-requires
get-requires c =
    omega (arith, head-digits c.args.line.now (sym c.is_head_shaped.ensures ∙ c.if-not-is_head_shaped.false))

pub get-requires-2 : goal.get-requires-2
get-requires-2 c =
    omega (arith, head-digits c.args.line.now (sym c.is_head_shaped.ensures ∙ c.if-not-is_head_shaped.false))

pub returns : goal.returns
unfolding box_in mask_in
returns c =
    let shaped = sym c.is_head_shaped.ensures ∙ c.if-not-is_head_shaped.false in
    c.start.ensures ∙ starts-shaped c.args.line.now c.args.room.now shaped c.get.ensures c.get-2.ensures
