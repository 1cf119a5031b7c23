-- The other way round: **every run of a site is one of a host,** for each call answers, and with room enough it answers 0 where the step is done. So `Host` leaves out nothing
-- that demand 3's runs allow, and what is claimed of hosts is not empty. Assumes nothing.
use Rattle.std.specs.Prelude.{ℕ, ◌+◌, ◌<◌, ◌≡◌, true, length, take, Result, Ok, Err}
use Rattle.std.proofs.Common.{le_refl, arith, sym, ap, subst, ◌∙◌, inl, inr, le-leb}
use Rattle.std.proofs.Math.Path.{refl}
use mathlib.Core.List.{List, [], ◌++◌}
use Rattle.digits.specs.Room.{over}
use Rattle.frames.specs.Message.{Message}
use Rattle.raft.specs.Record.{State, fresh, is_membership, good}
use Rattle.raft.specs.Journal.{head, journaled}
use Rattle.raft.specs.Sends.{texts}
use Rattle.raft.specs.Outcome.{done}
use Rattle.raft.specs.Event.{Event, step}
use Rattle.journal.specs.Opening as journal
use Rattle.history.specs.Put.{put}
use Rattle.history.specs.PutLaws.{put_same}
use Rattle.safety.specs.Park.{Comes, frames}
use Rattle.safety.specs.Disks as disks
use Rattle.safety.specs.Disks.{Seat, Site, built, Started, written, seated, Happens, Goes, goes_both}
use Rattle.safety.proofs.DisksLaws.{Stored, awaits, lives, life_started, opened-lives, built-mirrors, goes_on}
use Rattle.record.specs.Calls.{state_of, record_of, fit, run, call, begun}
use Rattle.record.specs.Calls as calls
use Rattle.opening.specs.declared.Opened.{Opened}
use Rattle.opening.specs.declared.Unopened.{Unopened}
use Rattle.opening.specs.declared.Unopened.TheVariants.{NoHead, BadLine}
use Rattle.opening.specs.Calls.{told_open, opening_by, opens}
use Rattle.host.specs.Host.{Running, Box, on, off, Host, nothing, Call, line_in, frames_in, Start, Opening, at_once, Acts, Turns, turns, HostRun, stays, goes, run_both}
use Rattle.host.specs.Host as host
use Rattle.host.specs.CallLaws.{record_of_box, call-steps, open_found, open_headless}
use Rattle.host.specs.HeadLaws.{torn-headless}
use Rattle.host.specs.HostStands.{Runs, Unstarted, Stands, HostStands}
use Rattle.host.proofs.HostActs.{started-stands, torn-stands, cleared_stands, on-back, did_step, stepped-stands, failed_stands, reopened_stands, trimmed_stands}
use Rattle.host.proofs.HostRuns.{nothing-stands, stands_idle, stands-moved}
use Rattle.host.proofs.SeenLaws.{runs_good, down-started}

-- ---- each call answers

-- An event at a box, with any room: the answer that the definition gives.
unfoldable pub the_call : (network : List (List ℕ)) (b : Running) (e : Event) → Comes network e → (journal messages : List ℕ) → Call network b
the_call network b e c journal messages =
    let x = call e b.node.state b.terms b.orders journal messages in
    record {
      event = e;
      comes = inl c;
      journal = journal;
      messages = messages;
      answer = record { node = record { state = x.answer.state }; line = x.answer.line; sent = x.answer.sent; refusal = x.answer.refusal };
      terms_left = x.terms;
      orders_left = x.orders;
      journal_left = x.journal;
      messages_left = x.messages;
      contract = refl;
    }

-- A start, with any room.
the_start : (mask i : ℕ) (journal : List ℕ) → Start mask i
the_start mask i journal =
    let x = begun i mask journal in
    record {
      journal = journal;
      answer = record { node = record { state = x.answer.state }; bytes = x.answer.bytes; refusal = x.answer.refusal };
      journal_left = x.journal;
      contract = refl;
    }

-- An opening, into any arrays.
the_answer : journal.Opened → Result Opened Unopened
the_answer (journal.opened s n) = Ok (record { state = record_of s; bytes = n })
the_answer journal.headless = Err NoHead
the_answer (journal.broken line) = Err (BadLine line)

told : (o : journal.Opened) (terms orders : List ℕ) → told_open (the_answer o) ≡ (opening_by o terms orders).answer
unfolding the_answer opening_by
told (journal.opened s n) terms orders = refl
told journal.headless terms orders = refl
told (journal.broken line) terms orders = refl

the_opening : (i : ℕ) (disk terms orders : List ℕ) → Opening i disk
unfolding opens
the_opening i disk terms orders =
    let x = opens i disk terms orders in
    let o = journal.opening i disk in
    record {
      terms = terms;
      orders = orders;
      answer = the_answer o;
      terms_left = x.terms;
      orders_left = x.orders;
      contract = ap (λ a. record { answer = a; terms = x.terms; orders = x.orders }) (told o terms orders);
    }

-- a start with room for its head answers 0,
start_0 : (mask i : ℕ) → is_membership i mask ≡ true → (the_start mask i (head i mask)).answer.refusal ≡ 0
unfolding the_start begun
start_0 mask i m = rw (m, le-leb (length (head i mask)) (length (head i mask)) (le_refl _))

-- and so does a step that is done, with room for its line and its messages.
pub call_0 : (network : List (List ℕ)) (b : Running) (e : Event) (c : Comes network e) (t : State) (ms : List Message) → good (record_of_box b) ≡ true
    → step e (record_of_box b) ≡ done t ms → (the_call network b e c (journaled (record_of_box b) t) (texts ms)).answer.refusal ≡ 0
unfolding the_call call run calls.written fit
call_0 network b e c t ms g o =
    rw (g, o, le-leb (length (journaled (record_of_box b) t)) (length (journaled (record_of_box b) t)) (le_refl _), le-leb (length (texts ms)) (length (texts ms)) (le_refl _))

-- ---- a box comes on

-- A host that has gone on, standing as a site.
pub record HostOn (mask : ℕ) (h : Host) (a : Site) : Type 0 where
  pub host : Host
  pub run : HostRun mask h host
  pub stands : HostStands mask host a

-- One of its boxes runs.
pub record Awake (mask : ℕ) (h : Host) (a : Site) (i : ℕ) : Type 0 where
  pub on_with : HostOn mask h a
  pub box : Running
  pub is_on : on_with.host.box i ≡ on box

module _ (mask : ℕ) (h : Host) (a : Site) (g : Goes mask (built mask) a) (s : HostStands mask h a) (i : ℕ) where
  -- an act of a box that is known
  acted : {x : Box} → h.box i ≡ x → {b : Box} {left : List (List ℕ)} → Acts mask i h.network x b left
      → Turns mask h (record { box = put h.box i b; network = left ++ h.network })
  acted e {b} {left} act = turns i b left (subst (λ y. Acts mask i h.network y b left) (sym e) act)

  woken : (x : Box) → h.box i ≡ x → (b : Running) → Acts mask i h.network x (on b) [] → Stands mask i (on b) (a.seat i) → Awake mask h a i
  woken x e b act st =
      record {
        on_with = record { host = _; run = goes stays (acted e act); stands = stands_idle mask h a s i (on b) st };
        box = b;
        is_on = put_same h.box i (on b);
      }

  -- **A box that was started can run, whatever byte power failed at:** by its file.
  pub wakes : Started (a.seat i) → Awake mask h a i
  wakes up = go (h.box i) refl (s.boxes i)
    where
      go : (x : Box) → h.box i ≡ x → Stands mask i x (a.seat i) → Awake mask h a i
      go (on b) e r = record { on_with = record { host = h; run = stays; stands = s }; box = b; is_on = e }
      go (off disk) e (inl d) =
          let c = the_opening i disk [] [] in
          let found = open_found c _ _ d.opens in
          let back = at_once c found.0 found.1 in
          woken (off disk) e _ (host.comes_back disk _ _ _ _ back) (on-back mask a g i disk d back)
      go (off disk) e (inr u) = absurd (omega (arith, u.place, up))

  -- ---- a box that was not started

  -- Its file has no whole head,
  unstarted : (a.seat i).place ≡ 0 → (disk : List ℕ) × (h.box i ≡ off disk) × Unstarted mask i disk (a.seat i)
  unstarted z = go (h.box i) refl (s.boxes i)
    where
      go : (x : Box) → h.box i ≡ x → Stands mask i x (a.seat i) → (disk : List ℕ) × (h.box i ≡ off disk) × Unstarted mask i disk (a.seat i)
      go (on b) e r = absurd (omega (arith, r.started, z))
      go (off disk) e (inl d) = absurd (omega (arith, down-started mask a g i disk d, z))
      go (off disk) e (inr u) = (disk, e, u)

  -- and opens with 11.
  the_11 : (disk : List ℕ) → Unstarted mask i disk (a.seat i) → (told_open (the_opening i disk [] []).answer).refusal ≡ 11
  the_11 disk u =
      ap (λ x. (told_open x).refusal)
      (open_headless (the_opening i disk [] []) (ap (journal.opening i) u.torn ∙ torn-headless i mask u.count u.short))

  -- An act of it, as something that happens at the site:
  acts_off : {x : Box} → h.box i ≡ x → (b : Box) → Acts mask i h.network x b [] → (q : Seat) → Stands mask i b q → HostOn mask h (seated a i q [])
  unfolding frames
  acts_off e b act q st = record { host = _; run = goes stays (acted e act); stands = stands-moved mask h a s i b q [] st }

  -- a start,
  start_hosted : is_membership i mask ≡ true → (a.seat i).place ≡ 0
      → HostOn mask h (seated a i (record { now = fresh i mask; disk = over (a.seat i).disk 0 (head i mask); place = length (head i mask) }) [])
  start_hosted m z =
      let x = unstarted z in
      let c = the_start mask i (head i mask) in
      acts_off x.1 _ (host.starts x.0 (the_opening i x.0 [] []) (the_11 x.0 x.2) c (start_0 mask i m) [] []) _
      (started-stands mask a g i x.0 x.2 c (start_0 mask i m) [] [])

  -- one in which power fails,
  tear_hosted : is_membership i mask ≡ true → (a.seat i).place ≡ 0 → (k : ℕ) → k < length (head i mask)
      → HostOn mask h (seated a i (record { now = fresh i mask; disk = over (a.seat i).disk 0 (take k (head i mask)); place = 0 }) [])
  tear_hosted m z k l =
      let x = unstarted z in
      let c = the_start mask i (head i mask) in
      acts_off x.1 _ (host.start_fails x.0 (the_opening i x.0 [] []) (the_11 x.0 x.2) c (start_0 mask i m) k) _
      (torn-stands mask a g i x.0 x.2 c (start_0 mask i m) k l)

  -- and a cut.
  clear_hosted : is_membership i mask ≡ true → (a.seat i).place ≡ 0 → (k : ℕ)
      → HostOn mask h (seated a i (record { now = (a.seat i).now; disk = take ((a.seat i).place + k) (a.seat i).disk; place = (a.seat i).place }) [])
  clear_hosted m z k =
      let x = unstarted z in
      acts_off x.1 _ (host.clears x.0 (the_opening i x.0 [] []) (the_11 x.0 x.2) (the_start mask i (head i mask)) (start_0 mask i m) k) _
      (cleared_stands mask a g i x.0 x.2 k)

-- ---- what happens at a site

module _ (mask : ℕ) (h : Host) (a : Site) (g : Goes mask (built mask) a) (i : ℕ) (w : Awake mask h a i) where
  -- the box that runs stands as its seat
  pub awake_runs : Runs mask i w.box (a.seat i)
  awake_runs = rw w.is_on at (w.on_with.stands.boxes i)

  -- an act of it, as something that happens at the site
  acts_there : (b : Box) (left : List (List ℕ)) → Acts mask i a.sent (on w.box) b left → (q : Seat) (ms : List Message) → left ≡ frames ms
      → Stands mask i b q → HostOn mask h (seated a i q ms)
  acts_there b left act q ms e st =
      let k = w.on_with.host in
      let here : Acts mask i k.network (k.box i) b left = rw (w.on_with.stands.network, w.is_on) act in
      record {
        host = record { box = put k.box i b; network = left ++ k.network };
        run = goes w.on_with.run (turns i b left here);
        stands = rw e (stands-moved mask k a w.on_with.stands i b q ms st);
      }

  -- its call, with room enough
  module _ (e : Event) (c : Comes a.sent e) (t : State) (ms : List Message) (o : step e (a.seat i).now ≡ done t ms) where
    same_step : step e (record_of_box w.box) ≡ done t ms
    same_step = ap (step e) (sym awake_runs.now) ∙ o

    called : Call a.sent w.box
    called = the_call a.sent w.box e c (journaled (record_of_box w.box) t) (texts ms)

    called_0 : called.answer.refusal ≡ 0
    unfolding called
    called_0 = call_0 a.sent w.box e c t ms (runs_good mask a g i w.box awake_runs) same_step

    abbrev comes_to : State
    comes_to = state_of called.answer.node.state called.terms_left called.orders_left

    -- comes to the step's record and messages
    called-step : step e (a.seat i).now ≡ done comes_to (call-steps called called_0).messages
    unfolding called the_call
    called-step = did_step mask a g i w.box awake_runs called called_0

    called_record : comes_to ≡ t
    called_record = let x = called-step in cc

    called-sends : frames_in called ≡ frames ms
    called-sends =
        let x = called-step in
        let same : (call-steps called called_0).messages ≡ ms = cc in
        (call-steps called called_0).leave ∙ ap frames same

    step_hosted : HostOn mask h (seated a i (record {
      now = t;
      disk = written (a.seat i) (journaled (a.seat i).now t);
      place = (a.seat i).place + length (journaled (a.seat i).now t);
    }) ms)
    step_hosted =
        acts_there _ (frames_in called) (host.steps w.box called called_0) _ ms called-sends
        (subst (λ (x : State). Stands mask i (on (record {
          node = called.answer.node;
          terms = called.terms_left;
          orders = called.orders_left;
          disk = over w.box.disk w.box.place (line_in called);
          place = w.box.place + called.answer.line;
        })) (record { now = x; disk = written (a.seat i) (journaled (a.seat i).now x); place = (a.seat i).place + length (journaled (a.seat i).now x) }))
        called_record (stepped-stands mask a g i w.box awake_runs called called_0))

    -- power fails at a byte of its line: the box is off
    pub fail_hosted : (k : ℕ) (u : State) (n : ℕ) → journal.opening i (written (a.seat i) (take k (journaled (a.seat i).now t))) ≡ journal.opened u n
        → HostOn mask h (seated a i (record { now = u; disk = written (a.seat i) (take k (journaled (a.seat i).now t)); place = n }) [])
    unfolding frames
    fail_hosted k u n found =
        acts_there _ [] (host.step_fails w.box called called_0 k) _ [] refl
        (subst (λ (x : State). journal.opening i (written (a.seat i) (take k (journaled (a.seat i).now x))) ≡ journal.opened u n
        → Stands mask i (off (over w.box.disk w.box.place (take k (line_in called))))
        (record { now = u; disk = written (a.seat i) (take k (journaled (a.seat i).now x)); place = n }))
        called_record (failed_stands mask a g i w.box awake_runs called called_0 k u n) found)

    -- so it is
    pub fail_down : (k : ℕ) (u : State) (n : ℕ) (found : journal.opening i (written (a.seat i) (take k (journaled (a.seat i).now t))) ≡ journal.opened u n)
        → (disk : List ℕ) × ((fail_hosted k u n found).host.box i ≡ off disk)
    unfolding fail_hosted acts_there
    fail_down k u n found = (_, put_same w.on_with.host.box i _)

  reopen_hosted : (u : State) (n : ℕ) → journal.opening i (a.seat i).disk ≡ journal.opened u n
      → HostOn mask h (seated a i (record { now = u; disk = (a.seat i).disk; place = n }) [])
  unfolding frames
  reopen_hosted u n found = acts_there _ [] (host.fails w.box) _ [] refl (reopened_stands mask a g i w.box awake_runs u n found)

  trim_hosted : (k : ℕ)
      → HostOn mask h (seated a i (record { now = (a.seat i).now; disk = take ((a.seat i).place + k) (a.seat i).disk; place = (a.seat i).place }) [])
  unfolding frames
  trim_hosted k = acts_there _ [] (host.trims w.box k) _ [] refl (trimmed_stands mask a g i w.box awake_runs k)

happens_hosted : (mask : ℕ) (h : Host) (a b : Site) → Goes mask (built mask) a → HostStands mask h a → Happens mask a b → HostOn mask h b
happens_hosted mask h a b g s (disks.starts i m z) = start_hosted mask h a g s i m z
happens_hosted mask h a b g s (disks.tears i m z k l) = tear_hosted mask h a g s i m z k l
happens_hosted mask h a b g s (disks.steps i m up e c t ms o) = step_hosted mask h a g i (wakes mask h a g s i up) e c t ms o
happens_hosted mask h a b g s (disks.fails i m up e c t ms o k u n found) = fail_hosted mask h a g i (wakes mask h a g s i up) e c t ms o k u n found
happens_hosted mask h a b g s (disks.reopens i m u n found) =
    let life = opened-lives {b = a.seat i} ((goes_on mask _ (built-mirrors mask) g).mirrors.stored i m) found in
    reopen_hosted mask h a g i (wakes mask h a g s i (life_started i mask _ _ _ life)) u n found
happens_hosted mask h a b g s (disks.trims i m k) = go ((goes_on mask _ (built-mirrors mask) g).mirrors.stored i m)
  where
    go : Stored i mask (a.seat i)
        → HostOn mask h (seated a i (record { now = (a.seat i).now; disk = take ((a.seat i).place + k) (a.seat i).disk; place = (a.seat i).place }) [])
    go (awaits w) = clear_hosted mask h a g s i m w.nowhere k
    go (lives l) = trim_hosted mask h a g i (wakes mask h a g s i (life_started i mask _ _ _ l)) k

-- **Every run of a site is one of a host:** from any moment on.
pub hosted : (mask : ℕ) (h : Host) (a : Site) {b : Site} → Goes mask (built mask) a → HostStands mask h a → Goes mask a b → HostOn mask h b
hosted mask h a g s disks.stays = record { host = h; run = stays; stands = s }
hosted mask h a g s (disks.goes {b = b} {c = c} r v) = go (hosted mask h a g s r)
  where
    go : HostOn mask h b → HostOn mask h c
    go x =
        let y = happens_hosted mask x.host b c (goes_both g r) x.stands v in
        record { host = y.host; run = run_both x.run y.run; stands = y.stands }

-- **And from the beginning on.**
pub host-shown : (mask : ℕ) (a : Site) → Goes mask (built mask) a → HostOn mask nothing a
host-shown mask a r = hosted mask nothing (built mask) disks.stays (nothing-stands mask) r
