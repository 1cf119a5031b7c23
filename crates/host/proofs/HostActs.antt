-- Whatever a host does with a box is something that happens at the site as which it stands. Assumes nothing.
use Rattle.std.specs.Prelude.{ℕ, ◌+◌, ◌≤◌, ◌<◌, ◌≡◌, refl, true, ◌⊎◌}
use Rattle.std.proofs.Math.Decide.{dec_le, dec_lt}
use Rattle.std.proofs.Common.{arith, sym, ◌∙◌, inl, inr, length-take, take-take}
use Rattle.std.proofs.Math.Path.{ap}
use mathlib.Core.List.{List, []}
use Rattle.std.proofs.Math.ListN.{length, take}
use Rattle.std.proofs.Math.Seq.{take_all}
use Rattle.digits.specs.Room.{over}
use Rattle.frames.specs.Message.{Message}
use Rattle.raft.specs.Record.{State, fresh, is_membership}
use Rattle.raft.specs.Journal.{head, journaled}
use Rattle.raft.specs.Outcome.{done}
use Rattle.raft.specs.Event.{step}
use Rattle.journal.specs.Opening.{restarted, opened, opening}
use Rattle.journal.proofs.LineSpelling.{head_nine}
use Rattle.safety.specs.Park.{frames}
use Rattle.safety.specs.Disks.{Seat, Site, built, written, seated, Happens, Goes}
use Rattle.safety.specs.Runs.{happened}
use Rattle.safety.proofs.ParkOnDisk.{always_opens, started-opens}
use Rattle.record.specs.declared.Record.{Record}
use Rattle.record.specs.Calls.{state_of}
use Rattle.opening.specs.Calls.{told_open}
use Rattle.host.specs.Host.{Running, Box, on, off, Call, line_in, frames_in, Start, head_in, Opening, Back}
use Rattle.host.specs.Host.{Acts, starts, start_fails, clears, steps, step_fails, is_refused, fails, comes_back, trims}
use Rattle.host.specs.CallLaws.{call-comes, Stepped, call-steps, call-refused, start-fresh, open_found, back-opens}
use Rattle.host.specs.HeadLaws.{laid_over, laid_whole, torn-headless, head-opens}
use Rattle.host.specs.HostStands.{Runs, Down, Unstarted, Stands}
use Rattle.host.proofs.SeenLaws.{down-started}

-- What a box has become, and the frames that left: what happened at the site, and that it did to the seat's record what is told of it.
pub record Follows (mask : ℕ) (a : Site) (i : ℕ) (b : Box) (left : List (List ℕ)) : Type 0 where
  pub seat : Seat
  pub messages : List Message
  pub happens : Happens mask a (seated a i seat messages)
  pub told : happened happens ≡ record { before = (a.seat i).now; behind = seat.now }
  pub stands : Stands mask i b seat
  pub leave : left ≡ frames messages

-- a file that opens does not open with 11, and by one without a head nobody comes back
opens-not_11 : {mask i : ℕ} {disk : List ℕ} {s : Seat} → Down mask i disk s → (c : Opening i disk) → (told_open c.answer).refusal ≡ 11 → ⊥
opens-not_11 d c z = let found = open_found c _ _ d.opens in omega (arith, sym (ap (λ a. (told_open a).refusal) found.1) ∙ z)

torn-not-back : {mask i : ℕ} {disk : List ℕ} {s : Seat} → Unstarted mask i disk s → {b : Record} {terms orders : List ℕ} {place : ℕ}
    → Back i disk b terms orders place → ⊥
torn-not-back {mask} {i} u back =
    let found = ap (opening i) u.torn ∙ torn-headless i mask u.count u.short in
    let never : ◌≡◌ {A = ℕ} 0 1 = cc (back-opens back) in
    omega arith

module _ (mask : ℕ) (a : Site) (g : Goes mask (built mask) a) (i : ℕ) where
  -- ---- nothing

  -- What leaves record, file, place and frames as they were, a refused call or an opening, is at the site a cut at the end of the file, which cuts nothing.
  on_idle : is_membership i mask ≡ true → (b : Box) → Stands mask i b (a.seat i) → Follows mask a i b []
  unfolding frames happened
  on_idle m b st =
      let whole : take ((a.seat i).place + length (a.seat i).disk) (a.seat i).disk ≡ (a.seat i).disk = take_all ((a.seat i).place + length (a.seat i).disk) (a.seat i).disk (omega arith) in
      record {
        seat = record { now = (a.seat i).now; disk = take ((a.seat i).place + length (a.seat i).disk) (a.seat i).disk; place = (a.seat i).place };
        messages = [];
        happens = Happens.trims i m (length (a.seat i).disk);
        told = refl;
        stands = rw whole st;
        leave = refl;
      }

  -- ---- a start

  module _ (disk : List ℕ) (u : Unstarted mask i disk (a.seat i)) (c : Start mask i) (z : c.answer.refusal ≡ 0) where
    -- the head's first bytes, over what is on the file
    laid : (k : ℕ) → over (a.seat i).disk 0 (take k (head i mask)) ≡ over disk 0 (take k (head_in c))
    laid k = rw (u.disk_same, (start-fresh c z).written)

    laid_all : over (a.seat i).disk 0 (head i mask) ≡ over disk 0 (head_in c)
    laid_all = rw (u.disk_same, (start-fresh c z).written)

    laid_head : over (a.seat i).disk 0 (head i mask) ≡ head i mask
    laid_head = rw (u.disk_same, u.torn) (laid_whole (head i mask) u.count)

    -- A start is the site's,
    pub started-stands : (terms orders : List ℕ)
        → Stands mask i (on (record { node = c.answer.node; terms = terms; orders = orders; disk = over disk 0 (head_in c); place = c.answer.bytes }))
        (record { now = fresh i mask; disk = over (a.seat i).disk 0 (head i mask); place = length (head i mask) })
    started-stands terms orders =
        let f = start-fresh c z in
        record {
          member = f.member;
          started = omega (arith, head_nine i mask);
          now = sym (f.now terms orders);
          disk = laid_all;
          place = sym f.bytes;
        }

    on-started : (terms orders : List ℕ)
        → Follows mask a i (on (record { node = c.answer.node; terms = terms; orders = orders; disk = over disk 0 (head_in c); place = c.answer.bytes })) []
    unfolding frames happened
    on-started terms orders =
        record {
          seat = record { now = fresh i mask; disk = over (a.seat i).disk 0 (head i mask); place = length (head i mask) };
          messages = [];
          happens = Happens.starts i (start-fresh c z).member u.place;
          told = refl;
          stands = started-stands terms orders;
          leave = refl;
        }

    -- and so is one in which power fails: at a byte of the head,
    pub torn-stands : (k : ℕ) → k < length (head i mask) → Stands mask i (off (over disk 0 (take k (head_in c))))
        (record { now = fresh i mask; disk = over (a.seat i).disk 0 (take k (head i mask)); place = 0 })
    torn-stands k l = go (laid_over (head i mask) u.count k)
      where
        same : over (take u.count (head i mask)) 0 (take k (head i mask)) ≡ over disk 0 (take k (head_in c))
        same = rw (u.torn, (start-fresh c z).written)

        torn-at : (n : ℕ) → n < length (head i mask) → over (take u.count (head i mask)) 0 (take k (head i mask)) ≡ take n (head i mask)
            → Stands mask i (off (over disk 0 (take k (head_in c))))
            (record { now = fresh i mask; disk = over (a.seat i).disk 0 (take k (head i mask)); place = 0 })
        torn-at n s e = inr (record { count = n; torn = sym same ∙ e; short = s; now = refl; disk_same = laid k; place = refl })

        go : (over (take u.count (head i mask)) 0 (take k (head i mask)) ≡ take k (head i mask))
            ⊎ (over (take u.count (head i mask)) 0 (take k (head i mask)) ≡ take u.count (head i mask))
            → Stands mask i (off (over disk 0 (take k (head_in c))))
            (record { now = fresh i mask; disk = over (a.seat i).disk 0 (take k (head i mask)); place = 0 })
        go (inl e) = torn-at k l e
        go (inr e) = torn-at u.count u.short e

    -- or behind its last.
    whole-stands : (k : ℕ) → length (head i mask) ≤ k → Stands mask i (off (over disk 0 (take k (head_in c))))
        (record { now = fresh i mask; disk = over (a.seat i).disk 0 (head i mask); place = length (head i mask) })
    whole-stands k l =
        let all : take k (head i mask) ≡ head i mask = take_all k (head i mask) l in
        let same : over (a.seat i).disk 0 (head i mask) ≡ over disk 0 (take k (head_in c)) = ap (over (a.seat i).disk 0) (sym all) ∙ laid k in
        inl (record {
          member = (start-fresh c z).member;
          opens = ap (opening i) (sym same ∙ laid_head) ∙ head-opens i mask (start-fresh c z).member;
          disk_same = same;
        })

    on-start_failed : (k : ℕ) → Follows mask a i (off (over disk 0 (take k (head_in c)))) []
    unfolding frames happened
    on-start_failed k = go (dec_lt k (length (head i mask)))
      where
        go : Dec (k < length (head i mask)) → Follows mask a i (off (over disk 0 (take k (head_in c)))) []
        go (yes l) =
            record {
              seat = record { now = fresh i mask; disk = over (a.seat i).disk 0 (take k (head i mask)); place = 0 };
              messages = [];
              happens = Happens.tears i (start-fresh c z).member u.place k l;
              told = refl;
              stands = torn-stands k l;
              leave = refl;
            }
        go (no l) =
            record {
              seat = record { now = fresh i mask; disk = over (a.seat i).disk 0 (head i mask); place = length (head i mask) };
              messages = [];
              happens = Happens.starts i (start-fresh c z).member u.place;
              told = refl;
              stands = whole-stands k (omega arith);
              leave = refl;
            }

  -- A file without a whole head that is cut is still one.
  pub cleared_stands : (disk : List ℕ) → Unstarted mask i disk (a.seat i) → (k : ℕ)
      → Stands mask i (off (take k disk)) (record { now = (a.seat i).now; disk = take ((a.seat i).place + k) (a.seat i).disk; place = (a.seat i).place })
  cleared_stands disk u k = go (dec_le k u.count)
    where
      same : take ((a.seat i).place + k) (a.seat i).disk ≡ take k disk
      same = let here : (a.seat i).place + k ≡ k = omega (arith, u.place) in rw (here, u.disk_same)

      cut_at : (n : ℕ) → n < length (head i mask) → take k (take u.count (head i mask)) ≡ take n (head i mask)
          → Stands mask i (off (take k disk)) (record { now = (a.seat i).now; disk = take ((a.seat i).place + k) (a.seat i).disk; place = (a.seat i).place })
      cut_at n l e =
          inr (record { count = n; torn = ap (take k) u.torn ∙ e; short = l; now = u.now; disk_same = same; place = u.place })

      go : Dec (k ≤ u.count)
          → Stands mask i (off (take k disk)) (record { now = (a.seat i).now; disk = take ((a.seat i).place + k) (a.seat i).disk; place = (a.seat i).place })
      go (yes l) = cut_at k (omega (arith, u.short)) (take-take k u.count (head i mask) l)
      go (no l) = cut_at u.count u.short (take_all k (take u.count (head i mask)) (omega (arith, length-take u.count (head i mask))))

  on_cleared : is_membership i mask ≡ true → (disk : List ℕ) → Unstarted mask i disk (a.seat i) → (k : ℕ) → Follows mask a i (off (take k disk)) []
  unfolding frames happened
  on_cleared m disk u k =
      record {
        seat = record { now = (a.seat i).now; disk = take ((a.seat i).place + k) (a.seat i).disk; place = (a.seat i).place };
        messages = [];
        happens = Happens.trims i m k;
        told = refl;
        stands = cleared_stands disk u k;
        leave = refl;
      }

  -- ---- an event

  module _ (b : Running) (r : Runs mask i b (a.seat i)) where
    module _ (c : Call a.sent b) (z : c.answer.refusal ≡ 0) where
      abbrev t : State
      t = state_of c.answer.node.state c.terms_left c.orders_left

      did : Stepped c
      did = call-steps c z

      -- the step of the seat's record, its line and its length
      pub did_step : step c.event (a.seat i).now ≡ done t (call-steps c z).messages
      unfolding did
      did_step = ap (step c.event) r.now ∙ did.steps

      did_line : journaled (a.seat i).now t ≡ line_in c
      did_line = ap (λ (s : State). journaled s t) r.now ∙ sym did.line

      did_long : length (journaled (a.seat i).now t) ≡ c.answer.line
      did_long = ap (λ (s : State). length (journaled s t)) r.now ∙ sym did.long

      -- The box stands behind its step as the site's,
      pub stepped-stands : Stands mask i (on (record {
        node = c.answer.node;
        terms = c.terms_left;
        orders = c.orders_left;
        disk = over b.disk b.place (line_in c);
        place = b.place + c.answer.line;
      })) (record { now = t; disk = written (a.seat i) (journaled (a.seat i).now t); place = (a.seat i).place + length (journaled (a.seat i).now t) })
      stepped-stands =
          record {
            member = r.member;
            started = omega (arith, r.started);
            now = refl;
            disk = rw (r.disk, r.place, did_line);
            place = rw (r.place, did_long);
          }

      -- and its file behind a step that failed.
      pub failed_stands : (k : ℕ) (u : State) (n : ℕ) → opening i (written (a.seat i) (take k (journaled (a.seat i).now t))) ≡ opened u n
          → Stands mask i (off (over b.disk b.place (take k (line_in c))))
          (record { now = u; disk = written (a.seat i) (take k (journaled (a.seat i).now t)); place = n })
      failed_stands k u n h =
          let same : written (a.seat i) (take k (journaled (a.seat i).now t)) ≡ over b.disk b.place (take k (line_in c)) = rw (r.disk, r.place, did_line) in
          inl (record { member = r.member; opens = ap (opening i) (sym same) ∙ h; disk_same = same })

      -- A call that answers 0 is a step,
      on-stepped : Follows mask a i (on (record {
        node = c.answer.node;
        terms = c.terms_left;
        orders = c.orders_left;
        disk = over b.disk b.place (line_in c);
        place = b.place + c.answer.line;
      })) (frames_in c)
      unfolding did happened
      on-stepped =
          record {
            seat = record { now = t; disk = written (a.seat i) (journaled (a.seat i).now t); place = (a.seat i).place + length (journaled (a.seat i).now t) };
            messages = did.messages;
            happens = Happens.steps i r.member r.started c.event (call-comes c z) t did.messages did_step;
            told = refl;
            stands = stepped-stands;
            leave = did.leave;
          }

      -- and a step that fails is one that the site has: its file opens, whatever byte power failed at.
      on-step_failed : (k : ℕ) → Follows mask a i (off (over b.disk b.place (take k (line_in c)))) []
      unfolding frames did happened
      on-step_failed k =
          let found = always_opens mask a g i r.member r.started c.event (call-comes c z) t did.messages did_step k in
          record {
            seat = record { now = found.0; disk = written (a.seat i) (take k (journaled (a.seat i).now t)); place = found.1 };
            messages = [];
            happens = Happens.fails i r.member r.started c.event (call-comes c z) t did.messages did_step k found.0 found.1 found.2;
            told = refl;
            stands = failed_stands k found.0 found.1 found.2;
            leave = refl;
          }

    -- A refused call leaves all as it was.
    on-refused : (c : Call a.sent b) → (c.answer.refusal ≡ 0 → ⊥)
        → Follows mask a i (on (record { node = b.node; terms = c.terms_left; orders = c.orders_left; disk = b.disk; place = b.place })) []
    on-refused c z =
        on_idle r.member _ (record {
          member = r.member;
          started = r.started;
          now = rw ((call-refused c z).0, (call-refused c z).1) r.now;
          disk = r.disk;
          place = r.place;
        })

    -- Power that fails between steps is a file that opens with the stored part,
    pub reopened_stands : (u : State) (n : ℕ) → opening i (a.seat i).disk ≡ opened u n
        → Stands mask i (off b.disk) (record { now = u; disk = (a.seat i).disk; place = n })
    reopened_stands u n h = inl (record { member = r.member; opens = ap (opening i) (sym r.disk) ∙ h; disk_same = r.disk })

    on_failed : Follows mask a i (off b.disk) []
    unfolding frames happened
    on_failed =
        let opens = started-opens mask a g i r.member r.started in
        record {
          seat = record { now = restarted (a.seat i).now; disk = (a.seat i).disk; place = (a.seat i).place };
          messages = [];
          happens = Happens.reopens i r.member _ _ opens;
          told = refl;
          stands = reopened_stands _ _ opens;
          leave = refl;
        }

    -- and a cut is the site's.
    pub trimmed_stands : (k : ℕ)
        → Stands mask i (on (record { node = b.node; terms = b.terms; orders = b.orders; disk = take (b.place + k) b.disk; place = b.place }))
        (record { now = (a.seat i).now; disk = take ((a.seat i).place + k) (a.seat i).disk; place = (a.seat i).place })
    trimmed_stands k = record { member = r.member; started = r.started; now = r.now; disk = rw (r.place, r.disk); place = r.place }

    on_trimmed : (k : ℕ)
        → Follows mask a i (on (record { node = b.node; terms = b.terms; orders = b.orders; disk = take (b.place + k) b.disk; place = b.place })) []
    unfolding frames happened
    on_trimmed k =
        record {
          seat = record { now = (a.seat i).now; disk = take ((a.seat i).place + k) (a.seat i).disk; place = (a.seat i).place };
          messages = [];
          happens = Happens.trims i r.member k;
          told = refl;
          stands = trimmed_stands k;
          leave = refl;
        }

  -- ---- coming back

  -- A box that comes back is what its seat was already.
  pub on-back : (disk : List ℕ) → Down mask i disk (a.seat i) → {b : Record} {terms orders : List ℕ} {place : ℕ} → Back i disk b terms orders place
      → Stands mask i (on (record { node = record { state = b }; terms = terms; orders = orders; disk = disk; place = place })) (a.seat i)
  on-back disk d {b} {terms} {orders} {place} back =
      let found = back-opens back in
      let was = d.opens in
      record {
        member = d.member;
        started = down-started mask a g i disk d;
        now = let same : (a.seat i).now ≡ state_of b terms orders = cc in same;
        disk = d.disk_same;
        place = let same : (a.seat i).place ≡ place = cc in same;
      }

  -- ---- whatever it does

  -- An act of any kind: one clause for each.
  pub acts_on : (before after : Box) (left : List (List ℕ)) → Stands mask i before (a.seat i) → Acts mask i a.sent before after left
      → Follows mask a i after left
  acts_on before after left (inr u) (starts disk o e c z terms orders) = on-started disk u c z terms orders
  acts_on before after left (inl d) (starts disk o e c z terms orders) = absurd (opens-not_11 d o e)
  acts_on before after left (inr u) (start_fails disk o e c z k) = on-start_failed disk u c z k
  acts_on before after left (inl d) (start_fails disk o e c z k) = absurd (opens-not_11 d o e)
  acts_on before after left (inr u) (clears disk o e c z k) = on_cleared (start-fresh c z).member disk u k
  acts_on before after left (inl d) (clears disk o e c z k) = absurd (opens-not_11 d o e)
  acts_on before after left s (steps b c z) = on-stepped b s c z
  acts_on before after left s (step_fails b c z k) = on-step_failed b s c z k
  acts_on before after left s (is_refused b c z) = on-refused b s c z
  acts_on before after left s (fails b) = on_failed b s
  acts_on before after left (inl d) (comes_back disk b terms orders place back) = on_idle d.member _ (on-back disk d back)
  acts_on before after left (inr u) (comes_back disk b terms orders place back) = absurd (torn-not-back u back)
  acts_on before after left s (trims b k) = on_trimmed b s k
