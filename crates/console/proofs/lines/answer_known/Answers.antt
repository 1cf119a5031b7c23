-- The journal line at the start, the messages behind it (`line-done`); or the line of the refusal (`line_refused`).
use native.Mathlib.Omega.{arith}
use mathlib.Core.Path.{◌≡◌, refl, sym}
use Rattle.frames.specs.Refusal.{number}
use lib.ListN.{length-take}
use Rattle.frames.specs.RefusalLaws.{not_0}
use Rattle.console.specs.AnswerLaws.{step-sizes, line-done, line_refused}
use Rattle.console.proofs.lines.answer_known.Goals as goal

pub slice_bounds-put-end : goal.slice_bounds-put-end
slice_bounds-put-end c =
    let sizes = step-sizes c.args.line.now c.requires.knows c.requires.roomy c.in-Ok.ensures in
    (omega (arith, sizes.sent, c.step.auto.messages, c.requires.roomy.aside))

pub slice_bounds-put-end-in-Ok : goal.slice_bounds-put-end-in-Ok
slice_bounds-put-end-in-Ok c =
    let sizes = step-sizes c.args.line.now c.requires.knows c.requires.roomy c.in-Ok.ensures in
    simp length-take (omega (arith, sizes.sent, c.step.auto.messages, c.requires.roomy.aside))

pub put-requires : goal.put-requires
put-requires c =
    let sizes = step-sizes c.args.line.now c.requires.knows c.requires.roomy c.in-Ok.ensures in
    simp length-take (omega (arith, sizes.line, sizes.sent, c.step.auto.journal, c.requires.roomy.answers))

pub overflow_add-result : goal.overflow_add-result
overflow_add-result c =
    let sizes = step-sizes c.args.line.now c.requires.knows c.requires.roomy c.in-Ok.ensures in
    omega (arith, sizes.line, sizes.sent)

pub returns-in-Ok : goal.returns-in-Ok
returns-in-Ok c =
    let left = line-done c.args.line.now c.requires.knows c.requires.roomy c.in-Ok.ensures refl c.put.ensures in
    record { answers_line = left.0; known = left.1 }

pub returns-in-Err : goal.returns-in-Err
returns-in-Err c =
    let left = line_refused c.args.line.now c.requires.knows c.requires.roomy c.in-Err.ensures (not_0 c.in-Err.refusal) (rw c.number.ensures at c.put_refusal-bytes.ensures) in
    record { answers_line = left.0; known = left.1 }
