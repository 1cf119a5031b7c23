-- What is seen of a host's boxes is what is so of the site's records: who leads, the log, what is handed out. Assumes nothing.
use Rattle.std.specs.Prelude.{ℕ, ◌≡◌, refl, true, List}
use Rattle.std.proofs.Common.{arith, ap, ◌∙◌, inl, inr}
use Rattle.std.proofs.Math.Path.{sym}
use Rattle.raft.specs.Record.{State, fresh, is_membership, good, handed_out}
use Rattle.journal.specs.Opening.{restarted, opened, opening}
use Rattle.journal.proofs.LifeLaws.{Life, life_opens}
use Rattle.safety.specs.Park as park
use Rattle.safety.proofs.Proper.{reached-good}
use Rattle.safety.proofs.ParkAccount.{fresh-hands, restarted-hands}
use Rattle.safety.specs.Disks.{Seat, Site, built, Started, Goes}
use Rattle.safety.proofs.DisksLaws.{built-mirrors, RunsOn, goes_on, opened-lives, life_started}
use Rattle.record.specs.Calls.{handed}
use Rattle.record.specs.NextRecord.{handed_are}
use Rattle.host.specs.Host.{Running, Box, on, off}
use Rattle.host.specs.CallLaws.{record_of_box}
use Rattle.host.specs.HeadLaws.{torn-headless}
use Rattle.host.specs.Seen.{Leads, log_in, handed_by, found_or, seen}
use Rattle.host.specs.HostStands.{Runs, Down, Stands}

-- Of a good record `handed_out` answers 0.
pub hands_0 : (b : Running) → good (record_of_box b) ≡ true → (handed b.node.state b.terms b.orders).refusal ≡ 0
unfolding handed
hands_0 b g = rw g

-- A box's record is its seat's.
pub seen-seat : (mask i : ℕ) (x : Box) (s : Seat) → Stands mask i x s → seen mask i x ≡ s.now
seen-seat mask i (on b) s r = sym r.now
seen-seat mask i (off disk) s (inl d) = ap (λ o. found_or o (fresh i mask)) d.opens
seen-seat mask i (off disk) s (inr u) =
    ap (λ o. found_or o (fresh i mask)) (ap (opening i) u.torn ∙ torn-headless i mask u.count u.short) ∙ sym u.now

-- A box that leads, by its struct, leads by its record.
pub leads-seen : (mask i : ℕ) (x : Box) (term : ℕ) → Leads x term → park.Leads (seen mask i x) term
leads-seen mask i (on b) term l = record { role = l.0; in_term = l.1 }
leads-seen mask i (off disk) term l = absurd l

-- And its log is its record's.
pub leader-log : (mask i : ℕ) (x : Box) (term : ℕ) → Leads x term → log_in x ≡ (seen mask i x).log
leader-log mask i (on b) term l = refl
leader-log mask i (off disk) term l = absurd l

-- a follower leads nothing
follows-none : (s : State) (term : ℕ) → s.role ≡ 0 → park.Leads s term → ⊥
follows-none s term f l = omega (arith, f, l.role)

module _ (mask : ℕ) (a : Site) (g : Goes mask (built mask) a) (i : ℕ) where
  stood : RunsOn mask (park.start mask) a
  stood = goes_on mask _ (built-mirrors mask) g

  -- A member's record is good.
  pub seat-good : is_membership i mask ≡ true → good (a.seat i).now ≡ true
  seat-good m = ap good (stood.mirrors.same i) ∙ reached-good mask stood.park stood.run i m

  -- So is that of a box that runs,
  pub runs_good : (b : Running) → Runs mask i b (a.seat i) → good (record_of_box b) ≡ true
  runs_good b r = ap good (sym r.now) ∙ seat-good r.member

  -- and what it hands out is what the record hands out.
  hands-same : (b : Running) → Runs mask i b (a.seat i) → handed_by (on b) ≡ handed_out (a.seat i).now
  hands-same b r = handed_are b.node.state b.terms b.orders (hands_0 b (runs_good b r)) ∙ ap handed_out (sym r.now)

  -- A box that is off and was started has its head on its file,
  down-lives : (disk : List ℕ) → Down mask i disk (a.seat i) → Life i mask (a.seat i).now (a.seat i).place (a.seat i).disk
  down-lives disk d = opened-lives {b = a.seat i} (stood.mirrors.stored i d.member) (ap (opening i) d.disk_same ∙ d.opens)

  -- so it was started
  pub down-started : (disk : List ℕ) → Down mask i disk (a.seat i) → Started (a.seat i)
  down-started disk d = life_started i mask _ _ _ (down-lives disk d)

  -- and opens with what has restarted:
  down-restarted : (disk : List ℕ) → Down mask i disk (a.seat i) → (a.seat i).now ≡ restarted (a.seat i).now
  down-restarted disk d =
      let back = life_opens i mask _ _ _ (down-lives disk d) in
      let found : opening i (a.seat i).disk ≡ opened (a.seat i).now (a.seat i).place = ap (opening i) d.disk_same ∙ d.opens in
      let same : (a.seat i).now ≡ restarted (a.seat i).now = cc in
      same

  -- it leads nothing, nor does one that was never started. So who leads at the site leads in the box.
  pub seat-leads : (x : Box) → Stands mask i x (a.seat i) → (term : ℕ) → park.Leads (a.seat i).now term → Leads x term
  unfolding fresh restarted
  seat-leads (on b) r term l = (sym (ap (λ t. t.role) r.now) ∙ l.role, sym (ap (λ t. t.term) r.now) ∙ l.in_term)
  seat-leads (off disk) (inl d) term l = absurd (follows-none (a.seat i).now term (ap (λ t. t.role) (down-restarted disk d)) l)
  seat-leads (off disk) (inr u) term l = absurd (follows-none (a.seat i).now term (ap (λ t. t.role) u.now) l)

  -- What any box hands out is what its record does: nothing where it is off.
  pub hands-seat : (x : Box) → Stands mask i x (a.seat i) → handed_by x ≡ handed_out (a.seat i).now
  hands-seat (on b) r = hands-same b r
  hands-seat (off disk) (inl d) = sym (ap handed_out (down-restarted disk d) ∙ restarted-hands (a.seat i).now)
  hands-seat (off disk) (inr u) = sym (ap handed_out u.now ∙ fresh-hands i mask)
