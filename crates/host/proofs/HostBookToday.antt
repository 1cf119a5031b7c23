-- The host's book as it was worded before (`safety/proofs/BookToday`): each beginning of the book is empty, or a beginning of what some box, leading at that very moment of
-- the host's run, hands out. So no more is in the book than leaders hand out. Assumes nothing.
use Rattle.std.specs.Prelude.{ℕ, ◌≡◌, refl, List, ◌⊎◌}
use Rattle.std.proofs.Common.{sym, ap, subst, inl, inr}
use Rattle.frames.specs.declared.Entry.{Entry}
use Rattle.raft.specs.Record.{handed_out}
use Rattle.history.specs.Begins.{Begins}
use Rattle.safety.specs.Park.{Leads}
use Rattle.safety.specs.Disks as disks
use Rattle.safety.specs.Disks.{Site, built, Goes, goes_both}
use Rattle.safety.specs.Book.{book}
use Rattle.safety.specs.Runs.{sites}
use Rattle.safety.proofs.BookToday as today
use Rattle.safety.proofs.BookToday.{InBook, site_as_before}
use Rattle.host.specs.Host.{Host, nothing, Turns, HostRun, stays, goes, run_both}
use Rattle.host.specs.Seen.{seen, turned_in, hosts}
use Rattle.host.specs.HostStands.{HostStands}
use Rattle.host.proofs.SeenLaws.{seen-seat}
use Rattle.host.proofs.HostRuns.{nothing_as, host_theorem}

-- ---- moments of a site's run

-- At some moment of a run of a site something was so.
unfoldable Was : {mask : ℕ} {a b : Site} → (Site → Type 0) → Goes mask a b → Type 0
Was {a = a} P disks.stays = P a
Was P (disks.goes {c = c} g v) = P c ⊎ Was P g

was-last : {mask : ℕ} {a b : Site} (P : Site → Type 0) (g : Goes mask a b) → P b → Was P g
unfolding Was
was-last P disks.stays p = p
was-last P (disks.goes g v) p = inl p

was-there : {mask : ℕ} {a m b : Site} (P : Site → Type 0) (until : Goes mask a m) (on : Goes mask m b) → P m → Was P (goes_both until on)
unfolding Was goes_both
was-there P until disks.stays p = was-last P until p
was-there P until (disks.goes g v) p = inr (was-there P until g p)

-- ---- and of the host's

-- A moment of a host's run, standing as a site of which something is so.
record Moment {mask : ℕ} {now : Host} (run : HostRun mask nothing now) (P : Site → Type 0) : Type 0 where
  moment : Host
  until : HostRun mask nothing moment
  on : HostRun mask moment now
  whole : run_both until on ≡ run
  site : Site
  stands : HostStands mask moment site
  holds : P site

-- The last moment is one,
moment-now : {mask : ℕ} {h : Host} (r : HostRun mask nothing h) {P : Site → Type 0} (a : Site) → HostStands mask h a → P a → Moment r P
unfolding run_both
moment-now {h = h} r a st p = record { moment = h; until = r; on = stays; whole = refl; site = a; stands = st; holds = p }

-- and each is one of each later run.
moment-on : {mask : ℕ} {k l : Host} {r : HostRun mask nothing k} (t : Turns mask k l) {P : Site → Type 0} → Moment r P → Moment (goes r t) P
unfolding run_both
moment-on t m =
    record {
      moment = m.moment;
      until = m.until;
      on = goes m.on t;
      whole = ap (λ x. goes x t) m.whole;
      site = m.site;
      stands = m.stands;
      holds = m.holds;
    }

-- Each moment of the site's run that a host's run is, is one of the host's.
moments : (mask : ℕ) {h : Host} (r : HostRun mask nothing h) (P : Site → Type 0) → Was P (host_theorem mask r).run → Moment r P
unfolding Was host_theorem nothing_as
moments mask stays P w = moment-now stays (built mask) (nothing_as mask).stands w
moments mask (goes r t) P (inl p) = moment-now (goes r t) (host_theorem mask (goes r t)).site (host_theorem mask (goes r t)).stands p
moments mask (goes r t) P (inr w) = moment-on t (moments mask r P w)

-- ---- the book

-- Some leader of a site had committed what a log begins.
record Written (log : List Entry) (a : Site) : Type 0 where
  box : ℕ
  term : ℕ
  leads : Leads (a.seat box).now term
  begun : Begins log (handed_out (a.seat box).now)

moment-book : {mask : ℕ} {h : Host} {r : HostRun mask nothing h} (log : List Entry) → Moment r (Written log) → InBook (hosts mask) r log
moment-book {mask} log m =
    let w = m.holds in
    let same : (m.site.seat w.box).now ≡ seen mask w.box (m.moment.box w.box) =
    sym (seen-seat mask w.box (m.moment.box w.box) (m.site.seat w.box) (m.stands.boxes w.box)) in
    today.begins m.moment m.until m.on m.whole w.box w.term (subst (λ s. Leads s w.term) same w.leads)
    (subst (λ s. Begins log (handed_out s)) same w.begun)

-- **In a host's run each beginning of the book is what a leader hands out at some moment of it, or a beginning of that, or empty.**
pub host_as_before : (mask : ℕ) (h : Host) (r : HostRun mask nothing h) (log : List Entry) → Begins log (book (turned_in r)) → InBook (hosts mask) r log
host_as_before mask h r log b =
    go (site_as_before mask (host_theorem mask r).site (host_theorem mask r).run log (subst (λ cs. Begins log (book cs)) (host_theorem mask r).told b))
  where
    go : InBook (sites mask) (host_theorem mask r).run log → InBook (hosts mask) r log
    go (today.empty e) = today.empty e
    go (today.begins moment until on whole i term l x) =
        moment-book log
        (moments mask r (Written log)
        (subst (Was (Written log)) whole (was-there (Written log) until on (record { box = i; term = term; leads = l; begun = x }))))
