-- "When the box says no": the numbers of 01's table, and what an answer's number is. Assumes nothing.
use Rattle.std.specs.Prelude.{ℕ, Result, Ok, Err}
use Rattle.frames.specs.declared.refusal.Refusal.{Refusal}
use Rattle.frames.specs.declared.refusal.Refusal.TheVariants.{NotAFrame, NotForThisBox, NotLeader, LogFull, NoRoom, SecondLeader, CutsCommitted}
use Rattle.frames.specs.declared.refusal.Refusal.TheVariants.{PastLog, LastTerm, BadLine, NoHead, BadRecord, BlankOrder}

abbrev pub number : Refusal → ℕ
number NotAFrame = 1
number NotForThisBox = 2
number NotLeader = 3
number LogFull = 4
number NoRoom = 5
number SecondLeader = 6
number CutsCommitted = 7
number PastLog = 8
number LastTerm = 9
number BadLine = 10
number NoHead = 11
number BadRecord = 12
number BlankOrder = 13

-- "0: done", or the refusal's number.
abbrev pub code : {A : Type 0} → Result A Refusal → ℕ
code (Ok _) = 0
code (Err r) = number r
