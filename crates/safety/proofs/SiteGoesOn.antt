-- What `GoesOn` says of every run of a park, of every run of a site with its disks. Assumes nothing.
use Rattle.std.specs.Prelude.{ℕ, ◌≤◌, ◌≡◌, true}
use Rattle.frames.specs.Limits.{log_limit}
use Rattle.raft.specs.Record.{last_index, last_term, handed_out}
use Rattle.raft.specs.Commit.{is_matched}
use Rattle.safety.specs.Park.{Leads}
use Rattle.safety.specs.Disks.{Site, built, Goes}
use Rattle.safety.proofs.ParkOnDisk.{as_park}
use Rattle.safety.proofs.GoesOn.{goes_on}

-- **A leader whose last index a majority matches hands out all of its log,** where that is not full, or ends with an entry of its term.
pub site-goes-on : (mask : ℕ) (a : Site) → Goes mask (built mask) a → (i term : ℕ) → Leads (a.seat i).now term
    → (log_limit ≤ last_index (a.seat i).now → last_term (a.seat i).now ≡ term)
    → is_matched (a.seat i).now (last_index (a.seat i).now) ≡ true → handed_out (a.seat i).now ≡ (a.seat i).now.log
site-goes-on mask a g i =
    let x = as_park mask g in
    rw (x.mirrors.same i) (goes_on mask x.park x.reached i)
