-- What is filled never passes the room.
use Rattle.std.proofs.Common.{◌≤◌, length}
use Rattle.frame_cases.proofs.read_full.Given as goal

abbrev pub invariant-loop : goal.invariant-loop
invariant-loop g l = l.filled ≤ length l.room
