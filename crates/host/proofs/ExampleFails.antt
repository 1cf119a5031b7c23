-- A run of a host in which power fails at any byte: an order is committed and handed out, the leader takes a second order, power fails when so many bytes of its line are
-- written, it comes back by its file, holds the first order still, and goes on: it stands in term 2. Assumes nothing.
use Rattle.std.specs.Prelude.{ℕ, ◌+◌, ◌≡◌, ◌⊎◌, List, [], take}
use Rattle.std.proofs.Common.{arith, ◌∙◌, inl, inr}
use Rattle.std.proofs.Math.Path.{refl, sym, ap, subst}
use Rattle.std.proofs.Math.ListN.{length}
use Rattle.frames.specs.Message.{Message}
use Rattle.raft.specs.Record.{State, fresh, handed_out}
use Rattle.raft.specs.Journal.{journaled}
use Rattle.raft.specs.Commit.{settle}
use Rattle.raft.specs.Sends.{vote_requests, appends}
use Rattle.raft.specs.Timeout.{standing}
use Rattle.raft.specs.Order.{ordered}
use Rattle.raft.specs.Outcome.{done}
use Rattle.raft.specs.Event.{Event, times_out, takes_order, step}
use Rattle.journal.specs.Opening.{restarted, opened, opening}
use Rattle.journal.proofs.LifeLaws.{life_fails}
use Rattle.history.specs.Begins.{Begins}
use Rattle.history.specs.PutLaws.{put_same}
use Rattle.safety.specs.Park.{Park, Comes, Reached}
use Rattle.safety.proofs.Proper.{event-steps}
use Rattle.safety.specs.Disks as disks
use Rattle.safety.specs.Disks.{Seat, Site, built, Started, written, seated, Happens, Goes}
use Rattle.safety.proofs.DisksLaws.{Stored, awaits, lives, life_started, started-lives, opened-lives, built-mirrors, goes_on}
use Rattle.safety.proofs.ParkOnDisk.{Shown, shown, always_opens}
use Rattle.safety.proofs.Commits.{opens, page, committed, commits}
use Rattle.host.specs.Host.{Running, on, off, Host, nothing, HostRun, run_both}
use Rattle.host.specs.Seen.{handed_by, log_in}
use Rattle.host.specs.CallLaws.{record_of_box}
use Rattle.host.proofs.SeenLaws.{hands-seat}
use Rattle.host.proofs.Hosted.{HostOn, Awake, wakes, awake_runs, fail_hosted, fail_down, hosted, host-shown}

-- What is shown of each byte.
pub record FailsAt (k : ℕ) : Type 0 where
  -- box 2 hands out the order,
  pub first : Host
  pub run : HostRun 7 nothing first
  pub hands : handed_by (first.box 2) ≡ page
  -- power fails at box 1,
  pub second : Host
  pub fails : HostRun 7 first second
  pub disk : List ℕ
  pub down : second.box 1 ≡ off disk
  -- and it runs again, in term 2, and holds the order.
  pub third : Host
  pub goes_further : HostRun 7 second third
  pub box : Running
  pub up : third.box 1 ≡ on box
  pub in_term : box.node.state.term ≡ 2
  pub holds : Begins page (log_in (on box))

-- The leader's second order,
abbrev second_order : State
second_order = settle (ordered committed 60)

-- and what comes of a timeout where it is back: term 2, the first order held.
record StandsAgain (s : State) : Type 0 where
  next : State
  messages : List Message
  is : step times_out s ≡ done next messages
  in_term : next.term ≡ 2
  holds : Begins page next.log

-- Without the second order, and with it.
before : StandsAgain (restarted committed)
unfolding opens restarted
before = record { next = standing (restarted committed); messages = vote_requests (standing (restarted committed)); is = refl; in_term = refl; holds = record { first = refl } }

behind : StandsAgain (restarted second_order)
unfolding opens restarted
behind = record { next = standing (restarted second_order); messages = vote_requests (standing (restarted second_order)); is = refl; in_term = refl; holds = record { first = refl } }

-- A park that has come so far.
module _ (p : Park) (r : Reached 7 p) (leads : p.box 1 ≡ committed) (gave : handed_out (p.box 2) ≡ page) (k : ℕ) where
  x : Shown 7 r
  x = shown 7 r

  abbrev a : Site
  a = x.site

  abbrev g : Goes 7 (built 7) a
  g = x.run

  y : HostOn 7 nothing a
  y = host-shown 7 a g

  -- the order at box 1
  abbrev e : Event
  e = takes_order 60

  c : Comes a.sent e
  c = omega arith

  now : (a.seat 1).now ≡ committed
  now = x.same 1 ∙ leads

  o : step e (a.seat 1).now ≡ done second_order (appends second_order)
  unfolding opens
  o = ap (step e) now

  -- it was started, for it leads
  up : Started (a.seat 1)
  unfolding opens fresh
  up = go ((goes_on 7 _ (built-mirrors 7) g).mirrors.stored 1 refl)
    where
      go : Stored 1 7 (a.seat 1) → Started (a.seat 1)
      go (awaits w) = absurd (omega (arith, ap (λ (s : State). s.role) (sym now ∙ w.untouched)))
      go (lives l) = life_started 1 7 _ _ _ l

  abbrev torn : List ℕ
  torn = written (a.seat 1) (take k (journaled (a.seat 1).now second_order))

  -- its line is torn, and the file opens with the record before it or behind it
  module _ (u : State) (n : ℕ) (found : opening 1 torn ≡ opened u n) where
    either : StandsAgain u
    unfolding opens
    either = go (life_fails 1 7 _ second_order _ _ (started-lives ((goes_on 7 _ (built-mirrors 7) g).mirrors.stored 1 refl) up) (event-steps a.sent (a.seat 1).now e c second_order _ o) k)
      where
        go : (opening 1 torn ≡ opened (restarted (a.seat 1).now) (a.seat 1).place)
            ⊎ (opening 1 torn ≡ opened (restarted second_order) ((a.seat 1).place + length (journaled (a.seat 1).now second_order)))
            → StandsAgain u
        go (inl h) =
            let same : restarted (a.seat 1).now ≡ u = cc in
            subst StandsAgain (ap restarted (sym now) ∙ same) before
        go (inr h) =
            let same : restarted second_order ≡ u = cc in
            subst StandsAgain same behind

    w : Awake 7 y.host a 1
    unfolding opens
    w = wakes 7 y.host a g y.stands 1 up

    abbrev b : Site
    b = seated a 1 (record { now = u; disk = torn; place = n }) []

    z : HostOn 7 y.host b
    z = fail_hosted 7 y.host a g 1 w e c second_order (appends second_order) o k u n found

    failed : Happens 7 a b
    unfolding opens
    failed = disks.fails 1 refl up e c second_order (appends second_order) o k u n found

    -- it stands again
    here : (b.seat 1).now ≡ u
    unfolding seated
    here = ap (λ (s : Seat). s.now) (put_same a.seat 1 _)

    up-again : Started (b.seat 1)
    unfolding seated opens
    up-again =
        let same : (b.seat 1).disk ≡ torn = ap (λ (s : Seat). s.disk) (put_same a.seat 1 (record { now = u; disk = torn; place = n })) in
        let life = opened-lives {b = b.seat 1} ((goes_on 7 _ (built-mirrors 7) (disks.goes g failed)).mirrors.stored 1 refl) (ap (opening 1) same ∙ found) in
        life_started 1 7 _ _ _ life

    again : step times_out (b.seat 1).now ≡ done either.next either.messages
    again = ap (step times_out) here ∙ either.is

    abbrev d : Site
    d =
        seated b 1 (record {
          now = either.next;
          disk = written (b.seat 1) (journaled (b.seat 1).now either.next);
          place = (b.seat 1).place + length (journaled (b.seat 1).now either.next);
        }) either.messages

    stood : Happens 7 b d
    unfolding opens
    stood = disks.steps 1 refl up-again times_out tt either.next either.messages again

    last : HostOn 7 z.host d
    last = hosted 7 z.host b (disks.goes g failed) z.stands (disks.goes disks.stays stood)

    up_still : Started (d.seat 1)
    unfolding seated
    up_still =
        let there : (d.seat 1).place ≡ (b.seat 1).place + length (journaled (b.seat 1).now either.next) = ap (λ (s : Seat). s.place) (put_same b.seat 1 _) in
        omega (arith, there, up-again)

    v : Awake 7 last.host d 1
    v = wakes 7 last.host d (disks.goes (disks.goes g failed) stood) last.stands 1 up_still

    there : record_of_box v.box ≡ either.next
    unfolding seated
    there = sym (awake_runs 7 last.host d (disks.goes (disks.goes g failed) stood) 1 v).now ∙ ap (λ (s : Seat). s.now) (put_same b.seat 1 _)

    all : FailsAt k
    unfolding z
    all =
        let down = fail_down 7 y.host a g 1 w e c second_order (appends second_order) o k u n found in
        record {
          first = y.host;
          run = y.run;
          hands = hands-seat 7 a g 2 (y.host.box 2) (y.stands.boxes 2) ∙ ap handed_out (x.same 2) ∙ gave;
          second = z.host;
          fails = z.run;
          disk = down.0;
          down = down.1;
          third = v.on_with.host;
          goes_further = run_both last.run v.on_with.run;
          box = v.box;
          up = v.is_on;
          in_term = ap (λ (s : State). s.term) there ∙ either.in_term;
          holds = subst (Begins page) (sym (ap (λ (s : State). s.log) there)) either.holds;
        }

  found_all : FailsAt k
  unfolding opens
  found_all =
      let found = always_opens 7 a g 1 refl up e c second_order (appends second_order) o k in
      all found.0 found.1 found.2

-- **Whatever byte it is.**
pub fails_anywhere : (k : ℕ) → FailsAt k
unfolding opens
fails_anywhere k = found_all _ commits.0 refl commits.1 k
