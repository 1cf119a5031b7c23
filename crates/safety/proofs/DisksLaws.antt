-- A run with disks is a run of a park: whatever byte power fails at, a box comes back as `restarted` says. Assumes nothing.
use Rattle.std.specs.Prelude.{ℕ, ◌+◌, ◌≤◌, ◌<◌, ◌≡◌, refl, ◌⊎◌, length, take}
use Rattle.std.proofs.Common.{arith, ◌∙◌, inl, inr, length-append, length-take, length-drop, drop_of_length-le}
use Rattle.std.proofs.Math.Path.{sym, ap}
use Rattle.std.proofs.Math.Bool.{true}
use mathlib.Core.List.Memᴰ
use mathlib.Core.List.{List, [], ◌++◌, append-nil}
use Rattle.digits.specs.Room.{over}
use Rattle.frames.specs.Message.{Message}
use Rattle.raft.specs.Record.{State, fresh, is_membership}
use Rattle.raft.specs.Journal.{head, journaled}
use Rattle.raft.specs.Outcome.{done}
use Rattle.raft.specs.Event.{Event, step}
use Rattle.raft.proofs.SendLaws.{All}
use Rattle.raft.proofs.FitLaws.{all_take, all_drop}
use Rattle.raft.proofs.ReceiveSends.{all_both}
use Rattle.journal.proofs.LinesLaws.{Feedless, lines_none}
use Rattle.journal.proofs.LineSpelling.{head_nine, head-whole}
use Rattle.journal.specs.Opening.{restarted, opened, headless, refusal, opening, open_lines}
use Rattle.journal.specs.Runs.{Step}
use Rattle.journal.proofs.TornLaws.{cut-whole}
use Rattle.journal.proofs.LifeLaws.{Life, life_kept, life_opens, life_fails}
use Rattle.history.specs.Put.{put}
use Rattle.history.specs.PutLaws.{put_same, put_other, put_all}
use Rattle.safety.specs.Park.{Park, start, Comes, frames, after, Move, Run, run_both}
use Rattle.safety.specs.Sent.{Among, wider, among_more}
use Rattle.safety.proofs.Proper.{event-steps}
use Rattle.safety.specs.Disks.{Seat, Site, built, Started, written, seated, Happens, starts, tears, steps, fails, reopens, trims, Goes, stays, goes}

-- ---- a seat

-- A box that waits for its head: nothing of it is whole, and it has taken no event.
pub record Awaits (i mask : ℕ) (b : Seat) : Type 0 where
  pub nowhere : b.place ≡ 0
  pub untouched : b.now ≡ fresh i mask
  pub short : length b.disk < 9
  pub free : Feedless b.disk

-- A seat waits, or has its head and its life.
pub data Stored (i mask : ℕ) (b : Seat) : Type 0 where
  awaits : Awaits i mask b → Stored i mask b
  lives : Life i mask b.now b.place b.disk → Stored i mask b

-- **What waits opens with 11:** the disk has no whole line.
pub torn-head : (i mask : ℕ) (b : Seat) → Awaits i mask b → opening i b.disk ≡ headless
unfolding opening open_lines
torn-head i mask b w = rw (lines_none b.disk w.free)

-- What has a life has its head.
pub life_started : (i mask : ℕ) (s : State) (n : ℕ) (disk : List ℕ) → Life i mask s n disk → 1 ≤ n
life_started i mask s n disk l =
    let d = (life_kept i mask s n disk l).1 in
    omega (arith, d.count, length-append (head i mask) d.journal, head_nine i mask)

-- So a seat that was started, or that opens, lives,
pub started-lives : {i mask : ℕ} {b : Seat} → Stored i mask b → Started b → Life i mask b.now b.place b.disk
started-lives (awaits w) up = absurd (omega (arith, w.nowhere, up))
started-lives (lives l) up = l

pub opened-lives : {i mask : ℕ} {b : Seat} {u : State} {n : ℕ} → Stored i mask b → opening i b.disk ≡ opened u n
    → Life i mask b.now b.place b.disk
unfolding refusal
opened-lives {i} {mask} {b} (awaits w) h = absurd (omega (arith, ap refusal (sym (torn-head i mask b w) ∙ h)))
opened-lives (lives l) h = l

-- and one with no place waits.
pub none-awaits : {i mask : ℕ} {b : Seat} → Stored i mask b → b.place ≡ 0 → Awaits i mask b
none-awaits (awaits w) z = w
none-awaits {i} {mask} {b} (lives l) z = absurd (omega (arith, z, life_started i mask b.now b.place b.disk l))

-- Where the head is written on it, whole, it lives;
pub starts-lives : {i mask : ℕ} {b : Seat} → is_membership i mask ≡ true → Awaits i mask b
    → Life i mask (fresh i mask) (length (head i mask)) (over b.disk 0 (head i mask))
unfolding over
starts-lives {i} {mask} {b} m w =
    let nine = head_nine i mask in
    let past : length b.disk ≤ 0 + length (head i mask) = omega (arith, w.short) in
    rw (drop_of_length-le b.disk past, append-nil (head i mask), nine) (Life.starts m)

-- a part of it, and it waits still,
tears-awaits : {i mask : ℕ} {b : Seat} (k : ℕ) → k < length (head i mask) → Awaits i mask b
    → Awaits i mask (record { now = fresh i mask; disk = over b.disk 0 (take k (head i mask)); place = 0 })
unfolding over
tears-awaits {i} {mask} {b} k l w =
    record {
      nowhere = refl;
      untouched = refl;
      short = simp (length-append, length-take, length-drop) (omega (arith, w.short, head_nine i mask));
      free = all_both _ (take k (head i mask)) _ (cut-whole (head i mask) (head-whole i mask) k l)
          (all_drop _ (0 + length (take k (head i mask))) b.disk w.free);
    }

-- as it does where it is cut.
trims-awaits : {i mask : ℕ} {b : Seat} (k : ℕ) → Awaits i mask b
    → Awaits i mask (record { now = b.now; disk = take (b.place + k) b.disk; place = b.place })
trims-awaits {b = b} k w =
    record {
      nowhere = w.nowhere;
      untouched = w.untouched;
      short = simp length-take (omega (arith, w.short));
      free = all_take _ (b.place + k) b.disk w.free;
    }

-- ---- a site and a park

-- A site stands as a park: the same records, all that was sent, and each seat waits or lives.
pub record Mirrors (mask : ℕ) (a : Site) (p : Park) : Type 0 where
  pub same : (i : ℕ) → (a.seat i).now ≡ p.box i
  pub known : Among a.sent p.sent
  pub stored : (i : ℕ) → is_membership i mask ≡ true → Stored i mask (a.seat i)

-- One seat changes as the park's record does.
mirrors-put : (mask : ℕ) (a : Site) (p : Park) (i : ℕ) (b : Seat) (t : State) (ms ns : List Message)
    → ((j : ℕ) → (j ≡ i → ⊥) → (a.seat j).now ≡ p.box j)
    → ((j : ℕ) → is_membership j mask ≡ true → Stored j mask (a.seat j))
    → b.now ≡ t → Stored i mask b → Among (frames ms ++ a.sent) (frames ns ++ p.sent)
    → Mirrors mask (seated a i b ms) (after p i t ns)
unfolding seated after
mirrors-put mask a p i b t ms ns others stored e l w =
    record {
      same = put_all (λ j x. x.now ≡ put p.box i t j) a.seat i b (e ∙ sym (put_same p.box i t))
          (λ j n. others j n ∙ sym (put_other p.box i t j n));
      known = w;
      stored = put_all (λ j x. is_membership j mask ≡ true → Stored j mask x) a.seat i b (λ m. l) (λ j n. stored j);
    }

-- A site that is built stands as a park at its start.
pub built-mirrors : (mask : ℕ) → Mirrors mask (built mask) (start mask)
unfolding built start All
built-mirrors mask =
    record {
      same = λ i. refl;
      known = λ bytes m. m;
      stored = λ i m. awaits (record { nowhere = refl; untouched = refl; short = omega arith; free = tt });
    }

-- ---- what happens at the site is a run of the park

-- A later park of a park's run, as which a site stands.
pub record RunsOn (mask : ℕ) (p : Park) (b : Site) : Type 0 where
  pub park : Park
  pub run : Run mask p park
  pub mirrors : Mirrors mask b park

module _ (mask : ℕ) (a : Site) (p : Park) (s : Mirrors mask a p) (i : ℕ) (m : is_membership i mask ≡ true) where
  -- A box that is opened with its stored part has restarted.
  on-restarted : (u : State) (n : ℕ) (disk : List ℕ) → u ≡ restarted (a.seat i).now → Life i mask u n disk
      → RunsOn mask p (seated a i (record { now = u; disk = disk; place = n }) [])
  unfolding frames
  on-restarted u n disk e l =
      record {
        park = after p i (restarted (p.box i)) [];
        run = Run.moves Run.stays (Move.restarts i m);
        mirrors = mirrors-put mask a p i _ _ [] [] (λ j k. s.same j) s.stored (e ∙ ap restarted (s.same i)) (lives l) s.known;
      }

  -- What leaves the record is nothing to the park.
  on_same : (b : Seat) → b.now ≡ (a.seat i).now → Stored i mask b → RunsOn mask p (seated a i b [])
  unfolding seated frames
  on_same b e l =
      record {
        park = p;
        run = Run.stays;
        mirrors = record {
          same = put_all (λ j x. x.now ≡ p.box j) a.seat i _ (e ∙ s.same i) (λ j k. s.same j);
          known = s.known;
          stored = put_all (λ j x. is_membership j mask ≡ true → Stored j mask x) a.seat i _ (λ k. l) (λ j k. s.stored j);
        };
      }

  module _ (e : Event) (c : Comes a.sent e) (t : State) (ms : List Message) (o : step e (a.seat i).now ≡ done t ms) where
    -- The event comes to the same in the park.
    on-moved : Move mask p (after p i t ms)
    on-moved = Move.steps i m e (wider s.known e c) t ms (rw (← s.same i) o)

    -- A step is the park's step,
    on-stepped : (n : ℕ) (disk : List ℕ) → Life i mask t n disk
        → RunsOn mask p (seated a i (record { now = t; disk = disk; place = n }) ms)
    on-stepped n disk l =
        record {
          park = after p i t ms;
          run = Run.moves Run.stays on-moved;
          mirrors = mirrors-put mask a p i _ _ ms ms (λ j k. s.same j) s.stored refl (lives l) (among_more (frames ms) a.sent p.sent s.known);
        }

    -- and one whose line was whole when power failed is a step and a restart: its messages were lost.
    on_both : (u : State) (n : ℕ) (disk : List ℕ) → u ≡ restarted t → Life i mask u n disk
        → RunsOn mask p (seated a i (record { now = u; disk = disk; place = n }) [])
    unfolding frames after
    on_both u n disk r l =
        record {
          park = after (after p i t ms) i (restarted (put p.box i t i)) [];
          run = Run.moves (Run.moves Run.stays on-moved) (Move.restarts i m);
          mirrors = mirrors-put mask a (after p i t ms) i _ _ [] [] (λ j k. s.same j ∙ sym (put_other p.box i t j k)) s.stored
              (r ∙ ap restarted (sym (put_same p.box i t))) (lives l) (λ bytes x. Memᴰ.append_right (frames ms) (s.known bytes x));
        }

-- **Whatever happens at a site, its park runs on.**
pub happens-on : (mask : ℕ) (a b : Site) (p : Park) → Mirrors mask a p → Happens mask a b → RunsOn mask p b
happens-on mask a b p s (starts i m z) =
    let w = none-awaits (s.stored i m) z in
    on_same mask a p s i m _ (sym w.untouched) (lives (starts-lives m w))
happens-on mask a b p s (tears i m z k l) =
    let w = none-awaits (s.stored i m) z in
    on_same mask a p s i m _ (sym w.untouched) (awaits (tears-awaits k l w))
happens-on mask a b p s (steps i m up e c t ms o) =
    on-stepped mask a p s i m e c t ms o _ _ (Life.steps (started-lives (s.stored i m) up) (event-steps a.sent (a.seat i).now e c t ms o))
happens-on mask a b p s (fails i m up e c t ms o k u n h) =
    go (life_fails i mask (a.seat i).now t (a.seat i).place (a.seat i).disk life torn-step k)
  where
    life : Life i mask (a.seat i).now (a.seat i).place (a.seat i).disk
    life = started-lives (s.stored i m) up

    torn-step : Step (a.seat i).now t
    torn-step = event-steps a.sent (a.seat i).now e c t ms o

    torn : List ℕ
    torn = written (a.seat i) (take k (journaled (a.seat i).now t))

    go : (opening i torn ≡ opened (restarted (a.seat i).now) (a.seat i).place)
        ⊎ (opening i torn ≡ opened (restarted t) ((a.seat i).place + length (journaled (a.seat i).now t)))
        → RunsOn mask p (seated a i (record { now = u; disk = torn; place = n }) [])
    go (inl before) =
        let same : u ≡ restarted (a.seat i).now = cc in
        on-restarted mask a p s i m u n torn same (Life.fails life torn-step k h)
    go (inr behind) =
        let same : u ≡ restarted t = cc in
        on_both mask a p s i m e c t ms o u n torn same (Life.fails life torn-step k h)
happens-on mask a b p s (reopens i m u n h) =
    let life = opened-lives {b = a.seat i} (s.stored i m) h in
    let was = life_opens i mask (a.seat i).now (a.seat i).place (a.seat i).disk life in
    let same : u ≡ restarted (a.seat i).now = cc in
    on-restarted mask a p s i m u n (a.seat i).disk same (Life.reopens life h)
happens-on mask a b p s (trims i m k) = go (s.stored i m)
  where
    go : Stored i mask (a.seat i) → RunsOn mask p b
    go (awaits w) = on_same mask a p s i m _ refl (awaits (trims-awaits k w))
    go (lives l) = on_same mask a p s i m _ refl (lives (Life.trims l k))

-- So a run of the site is a run of its park.
pub goes_on : (mask : ℕ) {a b : Site} (p : Park) → Mirrors mask a p → Goes mask a b → RunsOn mask p b
goes_on mask p s stays = record { park = p; run = Run.stays; mirrors = s }
goes_on mask p s (goes {b = b} {c = c} g h) = go (goes_on mask p s g)
  where
    go : RunsOn mask p b → RunsOn mask p c
    go x =
        let y = happens-on mask b c x.park x.mirrors h in
        record { park = y.park; run = run_both x.run y.run; mirrors = y.mirrors }
