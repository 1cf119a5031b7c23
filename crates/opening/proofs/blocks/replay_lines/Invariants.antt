-- What was replayed and what is left make the whole (`Counted`); each turn takes a line.
use Prim.Native.Nat.{◌-◌}
use lib.ListN.{length}
use Rattle.opening.specs.BlockCode.{Counted}
use Rattle.opening.proofs.blocks.replay_lines.Given as goal

abbrev pub invariant-loop-at : goal.invariant-loop-at
invariant-loop-at l = Counted l.initial.state l.bytes l.initial.terms l.initial.orders l.state l.terms l.orders l.at l.lines

abbrev pub decreases-loop-at : goal.decreases-loop-at
decreases-loop-at l = length l.bytes - l.at
