-- A box's life as its journal sees it: steps that are not refused, each with the bytes that it adds, and restarts, which add none.
-- Assumes nothing.
use Rattle.std.specs.Prelude.{ℕ, ◌≡◌, List, [], ◌++◌}
use Rattle.frames.specs.Message.{Message}
use Rattle.raft.specs.Record.{State}
use Rattle.raft.specs.Journal.{journaled}
use Rattle.raft.specs.Outcome.{done}
use Rattle.raft.specs.Event.{Event, step, Typed}
use Rattle.journal.specs.Opening.{restarted}

-- A step: a timeout, an order of 8 bytes, a prompt, or any bytes received, where it is not refused.
pub data Step (s t : State) : Type 0 where
  by_event : (e : Event) (messages : List Message) → Typed e → step e s ≡ done t messages → Step s t

-- From one record to another by steps and restarts, with the bytes that they add to the journal.
pub data Run (s : State) : State → List ℕ → Type 0 where
  stays : Run s s []
  steps : {t u : State} {bytes : List ℕ} → Run s t bytes → Step t u → Run s u (bytes ++ journaled t u)
  restarts : {t : State} {bytes : List ℕ} → Run s t bytes → Run s (restarted t) bytes
