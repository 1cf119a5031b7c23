-- **The host theorem: whatever a host does with the calls, its disks and its network, within `Host`, is a run of demand 3's sites,** with the same records, disks and
-- places, the same frames, and the same told of each move, so the same book. Assumes nothing.
use Rattle.std.specs.Prelude.{ℕ, ◌≡◌, refl, List, [], ◌++◌}
use Rattle.std.proofs.Common.{arith, sym, inr}
use Rattle.std.proofs.Math.Path.{ap}
use Rattle.journal.proofs.LineSpelling.{head_nine}
use Rattle.frames.specs.Message.{Message}
use Rattle.history.specs.Put.{put}
use Rattle.history.specs.PutLaws.{put_all, put_both}
use Rattle.safety.specs.Park.{frames}
use Rattle.safety.specs.Disks as disks
use Rattle.safety.specs.Disks.{Seat, Site, built, seated, Happens, Goes, goes_both}
use Rattle.safety.specs.Runs.{happened, happened_in}
use Rattle.host.specs.Host.{Box, Host, nothing, Turns, turns, HostRun, stays, goes, run_both}
use Rattle.host.specs.Seen.{turned, turned_in}
use Rattle.host.specs.HostStands.{Stands, HostStands}
use Rattle.host.proofs.SeenLaws.{seen-seat}
use Rattle.host.proofs.HostActs.{Follows, acts_on}

-- ---- one turn

-- What happened at the site: the same host stands as it, and the same is told of a record.
pub record Onward {mask : ℕ} {h k : Host} (a : Site) (t : Turns mask h k) : Type 0 where
  pub site : Site
  pub happens : Happens mask a site
  pub stands : HostStands mask k site
  pub told : turned t ≡ happened happens

-- Before anything was done a host stands as a site that is built.
pub nothing-stands : (mask : ℕ) → HostStands mask nothing (built mask)
unfolding nothing built
nothing-stands mask =
    record {
      boxes = λ i. inr (record {
        count = 0;
        torn = refl;
        short = rw (head_nine i mask) (omega arith);
        now = refl;
        disk_same = refl;
        place = refl;
      });
      network = refl;
    }

-- One box has become another, and its seat is as it was, or another with it.
module _ (mask : ℕ) (h : Host) (a : Site) (s : HostStands mask h a) (i : ℕ) (b : Box) where
  pub stands_idle : Stands mask i b (a.seat i) → HostStands mask (record { box = put h.box i b; network = [] ++ h.network }) a
  stands_idle st =
      record { boxes = put_all (λ j x. Stands mask j x (a.seat j)) h.box i b st (λ j n. s.boxes j); network = s.network }

  -- where something happened at the site
  pub stands-moved : (q : Seat) (ms : List Message) → Stands mask i b q
      → HostStands mask (record { box = put h.box i b; network = frames ms ++ h.network }) (seated a i q ms)
  unfolding seated
  stands-moved q ms st =
      record { boxes = put_both (Stands mask) h.box a.seat i b q st (λ j n. s.boxes j); network = ap (λ l. frames ms ++ l) s.network }

-- **One turn of a host is one thing that happens at the site.**
pub turns-on : (mask : ℕ) (h k : Host) (a : Site) → Goes mask (built mask) a → HostStands mask h a → (t : Turns mask h k) → Onward a t
unfolding turned
turns-on mask h k a g s (turns i b left act) = go (acts_on mask a g i (h.box i) b left (s.boxes i) (rw s.network at act))
  where
    go : Follows mask a i b left → Onward {mask = mask} {h = h} {k = k} a (turns i b left act)
    go f =
        record {
          site = seated a i f.seat f.messages;
          happens = f.happens;
          stands = rw f.leave (stands-moved mask h a s i b f.seat f.messages f.stands);
          told = rw (seen-seat mask i (h.box i) (a.seat i) (s.boxes i), seen-seat mask i b f.seat f.stands) (sym f.told);
        }

-- ---- a run

-- The site's run that a host's run is: it stands as its end, and the same is told of the records all along.
pub record AsSite {mask : ℕ} {h : Host} (r : HostRun mask nothing h) : Type 0 where
  pub site : Site
  pub run : Goes mask (built mask) site
  pub stands : HostStands mask h site
  pub told : turned_in r ≡ happened_in run

-- And what of it is behind a moment.
pub record Later {mask : ℕ} {h k : Host} (r : HostRun mask nothing h) (x : AsSite r) (v : HostRun mask h k) : Type 0 where
  pub site : Site
  pub run : Goes mask x.site site
  pub stands : HostStands mask k site
  pub told : turned_in (run_both r v) ≡ happened_in (goes_both x.run run)

-- A host's run goes on as the site's does.
pub later : (mask : ℕ) {h k : Host} (r : HostRun mask nothing h) (x : AsSite r) (v : HostRun mask h k) → Later r x v
unfolding run_both goes_both turned_in happened_in
later mask r x stays = record { site = x.site; run = disks.stays; stands = x.stands; told = x.told }
later mask r x (goes {k = k} {l = l} v t) = go (later mask r x v)
  where
    go : Later r x v → Later r x (goes v t)
    go y =
        let o = turns-on mask k l y.site (goes_both x.run y.run) y.stands t in
        record { site = o.site; run = disks.goes y.run o.happens; stands = o.stands; told = rw (o.told, y.told) }

-- Before anything was done.
unfoldable pub nothing_as : (mask : ℕ) → AsSite {mask = mask} stays
unfolding turned_in happened_in
nothing_as mask = record { site = built mask; run = disks.stays; stands = nothing-stands mask; told = refl }

-- **Every run of a host is one of a site.**
unfoldable pub host_theorem : (mask : ℕ) {h : Host} (r : HostRun mask nothing h) → AsSite r
unfolding turned_in happened_in
host_theorem mask stays = nothing_as mask
host_theorem mask (goes {k = k} {l = l} r t) = go (host_theorem mask r)
  where
    go : AsSite r → AsSite (goes r t)
    go x =
        let o = turns-on mask k l x.site x.run x.stands t in
        record { site = o.site; run = disks.goes x.run o.happens; stands = o.stands; told = rw (o.told, x.told) }
