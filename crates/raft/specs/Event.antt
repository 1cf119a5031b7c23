-- 01, 'What each event does': the events, and one step for all of them. Assumes nothing.
use Rattle.std.specs.Prelude.{ℕ, ◌<◌, List}
use Rattle.raft.specs.Record.{State}
use Rattle.raft.specs.Outcome.{Outcome}
use Rattle.raft.specs.Timeout.{timeout}
use Rattle.raft.specs.Order.{order}
use Rattle.raft.specs.Prompt.{prompt}
use Rattle.raft.specs.Receive.{receive}

-- What may happen to a box: a timeout, an order, a prompt, or any bytes that arrive.
pub data Event : Type 0 where
  times_out : Event
  takes_order : (o : ℕ) → Event
  is_prompted : Event
  receives : (bytes : List ℕ) → Event

-- What it comes to, at a good record.
unfoldable pub step : Event → State → Outcome
step times_out s = timeout s
step (takes_order o) s = order o s
step is_prompted s = prompt s
step (receives bytes) s = receive bytes s

-- "An entry is a term (4 bytes) and an order (any 8 bytes)": what can be handed to a box.
abbrev pub Typed : Event → Type 0
Typed times_out = Unit {0}
Typed (takes_order o) = o < 18446744073709551616
Typed is_prompted = Unit {0}
Typed (receives bytes) = Unit {0}
