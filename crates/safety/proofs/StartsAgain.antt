-- That a head may be torn: power fails at the fifth byte of box 1's head, opening answers 11, the box is started again, and it stands. Assumes nothing.
use Rattle.std.specs.Prelude.{◌+◌, ◌≡◌, refl, [], length, take}
use Rattle.std.proofs.Common.{arith}
use Rattle.digits.specs.Room.{over}
use Rattle.raft.specs.Record.{candidate, fresh}
use Rattle.raft.specs.Journal.{head, journaled}
use Rattle.raft.specs.Sends.{vote_requests}
use Rattle.raft.specs.Event.{times_out}
use Rattle.journal.proofs.LineSpelling.{head_nine}
use Rattle.journal.specs.Opening.{headless, opening}
use Rattle.safety.specs.Disks.{Site, built, written, seated, starts, tears, steps, Goes, stays, goes}
use Rattle.safety.proofs.ParkOnDisk.{torn-answered}
use Rattle.safety.proofs.Elects.{opens, box_1_stands}

-- Four bytes of the head are on the disk,
abbrev torn : Site
torn = seated (built 7) 1 (record { now = fresh 1 7; disk = over [] 0 (take 4 (head 1 7)); place = 0 }) []

torn-reached : Goes 7 (built 7) torn
unfolding opens built seated
torn-reached = goes stays (tears 1 refl refl 4 (omega (arith, head_nine 1 7)))

-- it is started again,
abbrev again : Site
again = seated torn 1 (record { now = fresh 1 7; disk = over (torn.seat 1).disk 0 (head 1 7); place = length (head 1 7) }) []

-- and stands.
abbrev stood : Site
stood =
    seated again 1 (record {
      now = box_1_stands;
      disk = written (again.seat 1) (journaled (again.seat 1).now box_1_stands);
      place = (again.seat 1).place + length (journaled (again.seat 1).now box_1_stands);
    }) (vote_requests box_1_stands)

stood-reached : Goes 7 (built 7) stood
unfolding opens built seated
stood-reached =
    goes (goes torn-reached (starts 1 refl refl)) (steps 1 refl (omega (arith, head_nine 1 7)) times_out tt box_1_stands (vote_requests box_1_stands) refl)

-- **A run in which a torn head is answered 11, and its box is started again.**
pub starts-again : (opening 1 (torn.seat 1).disk ≡ headless) × Goes 7 (built 7) stood × ((stood.seat 1).now.role ≡ candidate)
unfolding opens built seated
starts-again = ((torn-answered 7 torn torn-reached 1 refl refl).0, stood-reached, refl)
