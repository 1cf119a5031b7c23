-- What is held never passes the block.
use Prim.Native.Nat.{◌≤◌}
use lib.ListN.{length}
use Rattle.reader.proofs.whole_line.Given as goal

abbrev pub invariant-loop : goal.invariant-loop
invariant-loop g l = l.held ≤ length l.block
