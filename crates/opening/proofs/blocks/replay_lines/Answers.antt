-- What was replayed and what is left make the whole (`Counted`); each turn takes a line.
use Rattle.text.specs.LinesLaws.{end_inside}
use Rattle.opening.specs.BlockCode.{counted-first, counted_end, counted_stop, counted_next}
use Rattle.opening.proofs.blocks.replay_lines.Goals as goal

pub loop-at-init : goal.loop-at-init
loop-at-init c = counted-first _ _ _ _

pub slice_bounds-replay-end : goal.slice_bounds-replay-end
slice_bounds-replay-end c =
    end_inside _ c.loop-at.invariant.inside c.line_end-end.ensures

pub loop-at-preserved : goal.loop-at-preserved
loop-at-preserved c =
    counted_next c.loop-at.invariant c.line_end-end.ensures c.if-end-at.false c.in-Ok.ensures

pub returns-then-end-at : goal.returns-then-end-at
returns-then-end-at c =
    counted_end c.loop-at.invariant c.line_end-end.ensures c.if-end-at.true

pub returns-in-Err : goal.returns-in-Err
returns-in-Err c =
    counted_stop c.loop-at.invariant c.line_end-end.ensures c.if-end-at.false c.in-Err.refusal c.in-Err.ensures
