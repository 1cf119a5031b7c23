-- Runs of a host that are shown: three boxes elect, take an order, hand it out; a second leader holds it; one commits an older leader's order with no new one. They are the runs
-- of `safety/specs`, lifted by `Hosted`. (Power that fails at any byte: `ExampleFails`.) Assumes nothing.
use Rattle.std.specs.Prelude.{ℕ, ◌≡◌, [], ◌∷◌}
use Rattle.std.proofs.Math.Path.{ap}
use Rattle.std.proofs.Common.{◌∙◌}
use Rattle.raft.specs.Record.{handed_out}
use Rattle.safety.specs.Park as park
use Rattle.safety.specs.Park.{Park, Reached}
use Rattle.safety.proofs.ParkOnDisk.{Shown, shown}
use Rattle.safety.proofs.Elects.{blank_of, elects, third_reached}
use Rattle.safety.proofs.Commits.{opens, entry, page, commit_run, commits}
use Rattle.safety.proofs.Succeeds.{succeed_run, still_leads_1, leads_2, succeeds}
use Rattle.safety.proofs.CommitsOlder.{commits_older}
use Rattle.host.specs.Host.{Host, nothing, HostRun}
use Rattle.host.specs.Seen.{Leads, log_in, handed_by}
use Rattle.host.proofs.SeenLaws.{seen-seat, seat-leads, leader-log, hands-seat}
use Rattle.host.proofs.Hosted.{HostOn, host-shown}

-- A run of a park, as one of a host.
module _ (p : Park) (r : Reached 7 p) where
  at-site : Shown 7 r
  at-site = shown 7 r

  at-host : HostOn 7 nothing at-site.site
  at-host = host-shown 7 at-site.site at-site.run

  -- the host that has run so,
  pub lifted : Host
  lifted = at-host.host

  -- and its run
  pub lifted_run : HostRun 7 nothing lifted
  unfolding lifted
  lifted_run = at-host.run

  -- Who leads the park leads there, and holds the same.
  module _ (i term : ℕ) (l : park.Leads (p.box i) term) where
    pub lifted_leads : Leads (lifted.box i) term
    unfolding lifted
    lifted_leads = seat-leads 7 at-site.site at-site.run i (at-host.host.box i) (at-host.stands.boxes i) term (rw (at-site.same i) l)

    -- and holds the same
    pub lifted_holds : log_in (lifted.box i) ≡ (p.box i).log
    unfolding lifted
    lifted_holds =
        leader-log 7 i (at-host.host.box i) term lifted_leads
        ∙ ap (λ s. s.log) (seen-seat 7 i (at-host.host.box i) (at-site.site.seat i) (at-host.stands.boxes i) ∙ at-site.same i)

  -- Each box hands out the same there.
  pub lifted_hands : (i : ℕ) → handed_by (lifted.box i) ≡ handed_out (p.box i)
  unfolding lifted
  lifted_hands i = hands-seat 7 at-site.site at-site.run i (at-host.host.box i) (at-host.stands.boxes i) ∙ ap handed_out (at-site.same i)

-- **A box leads.**
pub host_elects : (h : Host) × HostRun 7 nothing h × Leads (h.box 1) 1
host_elects = (_, lifted_run _ elects.0, lifted_leads _ elects.0 1 1 elects.1)

-- **A follower hands out an order,** behind the leader's blank.
pub host_commits : (h : Host) × HostRun 7 nothing h × (handed_by (h.box 2) ≡ page)
host_commits = (_, lifted_run _ commits.0, lifted_hands _ commits.0 2 ∙ commits.1)

-- **A second leader holds what the first has handed out,** and its own blank behind it.
pub host_succeeds : (h : Host) × HostRun 7 nothing h × Leads (h.box 1) 1 × (handed_by (h.box 1) ≡ page) × Leads (h.box 2) 2
    × (log_in (h.box 2) ≡ blank_of 1 ∷ entry ∷ blank_of 2 ∷ [])
unfolding opens
host_succeeds =
    let r = park.run_both (park.run_both third_reached commit_run) succeed_run in (
      _,
      lifted_run _ r,
      lifted_leads _ r 1 1 still_leads_1,
      lifted_hands _ r 1,
      lifted_leads _ r 2 2 leads_2,
      lifted_holds _ r 2 2 leads_2 ∙ succeeds.1,
    )

-- **A second leader hands out an order of the first that was not committed,** and no new one has come.
pub host_commits_older : (h : Host) × HostRun 7 nothing h × (handed_by (h.box 2) ≡ blank_of 1 ∷ entry ∷ blank_of 2 ∷ [])
host_commits_older = (_, lifted_run _ commits_older.0, lifted_hands _ commits_older.0 2 ∙ commits_older.2)
