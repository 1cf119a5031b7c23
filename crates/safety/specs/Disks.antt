-- Demand 3's run with the boxes' disks: power fails at any byte, and a box comes back by opening what is there. Assumes nothing.
use Rattle.std.specs.Prelude.{ℕ, ◌+◌, ◌≤◌, ◌<◌, ◌≡◌, true, List, [], ◌++◌, length, take}
use Rattle.digits.specs.Room.{over}
use Rattle.frames.specs.Message.{Message}
use Rattle.raft.specs.Record.{State, fresh, is_membership}
use Rattle.raft.specs.Journal.{head, journaled}
use Rattle.raft.specs.Outcome.{done}
use Rattle.raft.specs.Event.{Event, step}
use Rattle.journal.specs.Opening.{opened, opening}
use Rattle.history.specs.Put.{put}
use Rattle.safety.specs.Park.{Comes, frames}

-- A box with its disk, and the place on it at which the next line is written: 0 while no whole head is on it.
pub record Seat : Type 0 where
  pub now : State
  pub disk : List ℕ
  pub place : ℕ

-- A site: a seat for each box number, and the bytes of every frame that was ever sent.
pub record Site : Type 0 where
  pub seat : ℕ → Seat
  pub sent : List (List ℕ)

-- "Take any run of fresh boxes with the same fixed membership and different numbers." Nothing is on the disks yet: each box is started in the run, at
-- any moment of it, or never. (Its record is fresh until then too; no event comes to it.)
unfoldable pub built : ℕ → Site
built mask = record { seat = λ i. record { now = fresh i mask; disk = []; place = 0 }; sent = [] }

-- The box has been started: its head is whole.
abbrev pub Started : Seat → Type 0
Started b = 1 ≤ b.place

-- A seat's disk with bytes written at the place.
abbrev pub written : Seat → List ℕ → List ℕ
written b bytes = over b.disk b.place bytes

-- Box i is replaced, and messages have left.
unfoldable pub seated : Site → ℕ → Seat → List Message → Site
seated a i b messages = record { seat = put a.seat i b; sent = frames messages ++ a.sent }

-- What may happen at a site, to one member.
pub data Happens (mask : ℕ) (a : Site) : Site → Type 0 where
  -- a box is started, or, its head having been torn, started again: the head is written from the disk's first byte on
  starts : (i : ℕ) → is_membership i mask ≡ true → (a.seat i).place ≡ 0
      → Happens mask a (seated a i (record { now = fresh i mask; disk = over (a.seat i).disk 0 (head i mask); place = length (head i mask) }) [])
  -- and power fails in that, when so many of its bytes are written: opening such a disk answers 11 (`ParkOnDisk.torn-answered`)
  tears : (i : ℕ) → is_membership i mask ≡ true → (a.seat i).place ≡ 0 → (k : ℕ) → k < length (head i mask)
      → Happens mask a (seated a i (record { now = fresh i mask; disk = over (a.seat i).disk 0 (take k (head i mask)); place = 0 }) [])
  -- "a step counts, and its messages leave, only once its line, if any, is whole"; "No event is taken before the head is whole"
  steps : (i : ℕ) → is_membership i mask ≡ true → Started (a.seat i) → (e : Event) → Comes a.sent e → (t : State) (messages : List Message)
      → step e (a.seat i).now ≡ done t messages
      → Happens mask a (seated a i (record {
        now = t;
        disk = written (a.seat i) (journaled (a.seat i).now t);
        place = (a.seat i).place + length (journaled (a.seat i).now t);
      }) messages)
  -- "Power may fail at any byte of a journal line .. Whole lines stay, and a box comes back only by its journal": so many bytes of a step's line
  -- are on the disk, nothing was sent, and the journal is opened
  fails : (i : ℕ) → is_membership i mask ≡ true → Started (a.seat i) → (e : Event) → Comes a.sent e → (t : State) (messages : List Message)
      → step e (a.seat i).now ≡ done t messages → (k : ℕ) (u : State) (n : ℕ)
      → opening i (written (a.seat i) (take k (journaled (a.seat i).now t))) ≡ opened u n
      → Happens mask a (seated a i (record { now = u; disk = written (a.seat i) (take k (journaled (a.seat i).now t)); place = n }) [])
  -- power fails between steps, and the journal is opened
  reopens : (i : ℕ) → is_membership i mask ≡ true → (u : State) (n : ℕ) → opening i (a.seat i).disk ≡ opened u n
      → Happens mask a (seated a i (record { now = u; disk = (a.seat i).disk; place = n }) [])
  -- the host cuts off what is behind the place, or a part of it where power fails in that, and `reopens` follows
  trims : (i : ℕ) → is_membership i mask ≡ true → (k : ℕ)
      → Happens mask a (seated a i (record { now = (a.seat i).now; disk = take ((a.seat i).place + k) (a.seat i).disk; place = (a.seat i).place }) [])

-- From one moment of a run to a later one.
pub data Goes (mask : ℕ) (a : Site) : Site → Type 0 where
  stays : Goes mask a a
  goes : {b c : Site} → Goes mask a b → Happens mask b c → Goes mask a c

-- One run behind the other.
unfoldable pub goes_both : {mask : ℕ} {a b c : Site} → Goes mask a b → Goes mask b c → Goes mask a c
goes_both u stays = u
goes_both u (goes v h) = goes (goes_both u v) h
