-- What an event comes to. Assumes nothing.
use Rattle.std.specs.Prelude.{ℕ, List}
use Rattle.frames.specs.Message.{Message}
use Rattle.raft.specs.Record.{State}

-- The next record and the messages, or a refusal's number.
pub data Outcome : Type 0 where
  done : (next : State) (messages : List Message) → Outcome
  refuse : (number : ℕ) → Outcome
