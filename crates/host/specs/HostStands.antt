-- How a host stands as a site of demand 3's runs with disks (`safety/specs/Disks`): the same records, disks and places where a box runs, and the same frames.
-- Assumes nothing.
use Rattle.std.specs.Prelude.{ℕ, ◌<◌, ◌≡◌, true, List, ◌⊎◌, length, take}
use Rattle.raft.specs.Record.{fresh, is_membership}
use Rattle.raft.specs.Journal.{head}
use Rattle.journal.specs.Opening.{opened, opening}
use Rattle.safety.specs.Disks.{Seat, Site, Started}
use Rattle.host.specs.Host.{Running, Box, on, off, Host}
use Rattle.host.specs.CallLaws.{record_of_box}

-- A box that runs is a member and was started, and its seat has its record, its file and its place.
pub record Runs (mask i : ℕ) (b : Running) (s : Seat) : Type 0 where
  pub member : is_membership i mask ≡ true
  pub started : Started s
  pub now : s.now ≡ record_of_box b
  pub disk : s.disk ≡ b.disk
  pub place : s.place ≡ b.place

-- One that is off, and was started, has a file that opens; its seat is already what it opens with.
pub record Down (mask i : ℕ) (disk : List ℕ) (s : Seat) : Type 0 where
  pub member : is_membership i mask ≡ true
  pub opens : opening i disk ≡ opened s.now s.place
  pub disk_same : s.disk ≡ disk

-- One that was never started has the first bytes of a head on its file, or none; so has its seat, with the fresh box's record and no place.
pub record Unstarted (mask i : ℕ) (disk : List ℕ) (s : Seat) : Type 0 where
  pub count : ℕ
  pub torn : disk ≡ take count (head i mask)
  pub short : count < length (head i mask)
  pub now : s.now ≡ fresh i mask
  pub disk_same : s.disk ≡ disk
  pub place : s.place ≡ 0

-- So a box stands as a seat.
abbrev pub Stands : (mask i : ℕ) → Box → Seat → Type 0
Stands mask i (on b) s = Runs mask i b s
Stands mask i (off disk) s = Down mask i disk s ⊎ Unstarted mask i disk s

-- So does each box of a host, and the network has the frames that were sent.
pub record HostStands (mask : ℕ) (h : Host) (a : Site) : Type 0 where
  pub boxes : (i : ℕ) → Stands mask i (h.box i) (a.seat i)
  pub network : h.network ≡ a.sent
