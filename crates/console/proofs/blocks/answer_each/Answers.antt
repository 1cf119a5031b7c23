-- What was answered and what is left make the whole (`block_next`); each turn takes a line.
use native.Mathlib.Omega.{arith}
use mathlib.Core.Path.{refl}
use Rattle.console.specs.BlockLaws.{reached-first, end_inside, block_stops, one-within, block_next}
use Rattle.console.proofs.blocks.answer_each.Goals as goal

pub loop-at-init : goal.loop-at-init
loop-at-init c =
    record { reached = reached-first c.requires.knows; aside = refl }

pub returns-then-end-at : goal.returns-then-end-at
returns-then-end-at c =
    let reached = c.loop-at.invariant.reached in
    record {
      answers_lines = block_stops reached c.line_end-end.ensures c.if-end-at.true;
      within = record { consumed = reached.inside; printed = omega (arith, reached.within, reached.long) };
    }

pub slice_bounds-answer_known-end : goal.slice_bounds-answer_known-end
slice_bounds-answer_known-end c =
    end_inside c.loop-at.invariant.reached c.line_end-end.ensures

pub overflow_add-to : goal.overflow_add-to
overflow_add-to c =
    let within = one-within c.loop-at.invariant.reached c.line_end-end.ensures c.if-end-at.false c.answer_known-one.ensures.answers_line in
    omega (arith, within, c.loop-at.invariant.reached.long, c.well_formed)

pub loop-at-preserved : goal.loop-at-preserved
loop-at-preserved c =
    record {
      reached = block_next c.loop-at.invariant.reached c.line_end-end.ensures c.if-end-at.false c.answer_known-one.ensures.answers_line c.answer_known-one.ensures.known c.answer_known-one.auto.room;
      aside = omega (arith, c.answer_known-one.auto.messages, c.loop-at.invariant.aside);
    }
