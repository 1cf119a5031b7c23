-- Demand 3's run: a park of boxes, over the steps of demand 2 and the restarts of the journal. Assumes nothing.
use Rattle.std.specs.Prelude.{ℕ, ◌<◌, ◌≡◌, true}
use mathlib.Core.List.{List, [], ◌∷◌, ◌++◌, Memᴰ}
use Rattle.frames.specs.Message.{Message, text}
use Rattle.raft.specs.Record.{State, leader, fresh, is_membership}
use Rattle.raft.specs.Outcome.{done}
use Rattle.raft.specs.Event.{Event, times_out, takes_order, is_prompted, receives, step}
use Rattle.journal.specs.Opening.{restarted}
use Rattle.history.specs.Put.{put}

-- A park: the record of each box, by its number, and the bytes of every frame that was ever sent.
pub record Park : Type 0 where
  pub box : ℕ → State
  pub sent : List (List ℕ)

-- "Take any run of fresh boxes with the same fixed membership and different numbers." Nothing was sent. (A number that is no member's takes
-- no step, and a box that is started late is fresh until its first event.)
unfoldable pub start : ℕ → Park
start mask = record { box = λ i. fresh i mask; sent = [] }

-- ---- what may happen to a box

-- An event that may come: a timeout, an order of 8 bytes, a prompt, or a frame that was sent in the run. "Messages sent in the run may be lost,
-- repeated, delayed or reordered, not altered": any frame that was ever sent may come to any box at any time, or never; bytes that nobody sent do
-- not come. (What it comes to is demand 2's own `step`.)
abbrev pub Comes : List (List ℕ) → Event → Type 0
Comes sent times_out = Unit {0}
Comes sent (takes_order o) = o < 18446744073709551616
Comes sent is_prompted = Unit {0}
Comes sent (receives bytes) = Memᴰ bytes sent

-- ---- what becomes of the park

-- The bytes of messages, one frame each.
unfoldable pub frames : List Message → List (List ℕ)
frames [] = []
frames (m ∷ ms) = text m ∷ frames ms

-- Box i has come to a record, and its messages have left. (`put`: what each box has, box i's replaced.)
unfoldable pub after : Park → ℕ → State → List Message → Park
after p i t messages = record { box = put p.box i t; sent = frames messages ++ p.sent }

-- One member's step, or its restart. A refusal changes nothing, so it is no move. "Power may fail at any byte of a journal line; a step counts,
-- and its messages leave, only once its line, if any, is whole. Whole lines stay, and a box comes back only by its journal": a step whose line
-- is not whole has not happened, so it is no move either, and what a journal opens with is `restarted`. (`Disks` tells the run with the bytes on
-- the disks. `DisksLaws` shows that each such run is one of these, record for record, and `ParkOnDisk` that each of these is such a run.)
pub data Move (mask : ℕ) (p : Park) : Park → Type 0 where
  steps : (i : ℕ) → is_membership i mask ≡ true → (e : Event) → Comes p.sent e → (t : State) (messages : List Message)
      → step e (p.box i) ≡ done t messages → Move mask p (after p i t messages)
  restarts : (i : ℕ) → is_membership i mask ≡ true → Move mask p (after p i (restarted (p.box i)) [])

-- From one park to a later one of the same run.
pub data Run (mask : ℕ) (p : Park) : Park → Type 0 where
  stays : Run mask p p
  moves : {q r : Park} → Run mask p q → Move mask q r → Run mask p r

-- One run behind the other.
unfoldable pub run_both : {mask : ℕ} {p q r : Park} → Run mask p q → Run mask q r → Run mask p r
run_both u stays = u
run_both u (moves v m) = moves (run_both u v) m

-- A park that stands at some moment of a run.
abbrev pub Reached : ℕ → Park → Type 0
Reached mask p = Run mask (start mask) p

-- ---- what demand 3 speaks of

-- A box with this record leads in a term.
pub record Leads (s : State) (term : ℕ) : Type 0 where
  pub role : s.role ≡ leader
  pub in_term : s.term ≡ term
