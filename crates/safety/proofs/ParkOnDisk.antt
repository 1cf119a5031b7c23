-- Each run of a park is one of a site with its disks, for a journal always opens: the telling with disks leaves out nothing that Park allows. And each
-- run of a site is one of a park, of whose book its own is a beginning. Assumes nothing.
use Rattle.std.specs.Prelude.{ℕ, ◌+◌, ◌≡◌, true, ◌⊎◌, take}
use Rattle.std.proofs.Common.{arith, ◌∙◌, inl, inr}
use Rattle.std.proofs.Math.Path.{refl, sym, ap}
use mathlib.Core.List.{List, []}
use Rattle.std.proofs.Math.ListN.{length}
use Rattle.digits.specs.Room.{over}
use Rattle.frames.specs.Message.{Message}
use Rattle.raft.specs.Record.{State, fresh, handed_out, is_membership}
use Rattle.raft.specs.Journal.{head, journaled}
use Rattle.raft.specs.Outcome.{done}
use Rattle.raft.specs.Event.{Event, step}
use Rattle.journal.proofs.LineSpelling.{head_nine}
use Rattle.journal.specs.Opening.{restarted, opened, headless, opening}
use Rattle.journal.proofs.LifeLaws.{life_opens, life_fails}
use Rattle.history.specs.Begins.{Begins}
use Rattle.history.specs.BeginsLaws.{nothing-begins, begins_self, begins_trans}
use Rattle.history.specs.Put.{put}
use Rattle.history.specs.PutLaws.{put_same, put_other, put_all}
use Rattle.safety.specs.Park.{Park, start, Comes, frames, after, Move, steps, restarts, stays, moves, run_both, Reached}
use Rattle.safety.specs.Sent.{Among, wider, among_more}
use Rattle.safety.proofs.Proper.{event-steps}
use Rattle.safety.specs.Disks.{Seat, Site, built, Started, written, seated, Happens, Goes}
use Rattle.safety.specs.Book.{writes, longer, book}
use Rattle.safety.specs.Runs.{moved, moves_of, happened, happened_in}
use Rattle.safety.proofs.Demand3.{park_safe}
use Rattle.safety.proofs.ParkAccount.{fresh-hands}
use Rattle.safety.proofs.BookLaws.{longer_either, writes_either, book_silent}
use Rattle.safety.proofs.DisksLaws.{Stored, awaits, lives, torn-head, life_started, started-lives, none-awaits, Mirrors, built-mirrors, happens-on, goes_on}

-- A site that has run, with the park's records, all that was sent in the park, and its book.
pub record Shown (mask : ℕ) {p : Park} (r : Reached mask p) : Type 0 where
  pub site : Site
  pub run : Goes mask (built mask) site
  pub same : (i : ℕ) → (site.seat i).now ≡ p.box i
  pub known : Among p.sent site.sent
  pub one_book : book (happened_in run) ≡ book (moves_of r)

-- One in which box i was started.
record Ready (mask : ℕ) {p : Park} (r : Reached mask p) (i : ℕ) : Type 0 where
  shown : Shown mask r
  started : Started (shown.site.seat i)

module _ (mask : ℕ) {p : Park} (r : Reached mask p) (x : Shown mask r) (i : ℕ) (m : is_membership i mask ≡ true) where
  -- One seat changes as the park's record does.
  seat-shown : (b : Seat) (t : State) (ms : List Message) → b.now ≡ t → (v : Happens mask x.site (seated x.site i b ms))
      (w : Move mask p (after p i t ms)) → writes (happened v) ≡ writes (moved w) → Shown mask (moves r w)
  unfolding seated after happened_in moves_of book
  seat-shown b t ms e v w same =
      record {
        site = seated x.site i b ms;
        run = Goes.goes x.run v;
        same = put_all (λ j y. y.now ≡ put p.box i t j) x.site.seat i b (e ∙ sym (put_same p.box i t))
            (λ j n. x.same j ∙ sym (put_other p.box i t j n));
        known = among_more (frames ms) p.sent x.site.sent x.known;
        one_book = ap (λ log. longer log (writes (happened v))) x.one_book ∙ ap (longer (book (moves_of r))) same;
      }

  -- A step of a box that was started writes its line,
  step-shown : Started (x.site.seat i) → (e : Event) (c : Comes p.sent e) (t : State) (ms : List Message) (o : step e (p.box i) ≡ done t ms)
      → Shown mask (moves r (steps i m e c t ms o))
  unfolding happened moved
  step-shown up e c t ms o =
      seat-shown _ t ms refl (Happens.steps i m up e (wider x.known e c) t ms (rw (x.same i) o)) (steps i m e c t ms o)
      (ap (λ s. writes (record { before = s; behind = t })) (x.same i))

  -- and its restart opens the disk, which opens.
  restart_shown : Started (x.site.seat i) → Shown mask (moves r (restarts i m))
  unfolding happened moved
  restart_shown up =
      let life = started-lives ((goes_on mask _ (built-mirrors mask) x.run).mirrors.stored i m) up in
      seat-shown _ (restarted (p.box i)) [] (ap restarted (x.same i)) (Happens.reopens i m _ _ (life_opens i mask _ _ _ life)) (restarts i m)
      (ap (λ s. writes (record { before = s; behind = restarted s })) (x.same i))

  -- A box that waits for its head is started first, which writes nothing into the book.
  started-shown : Ready mask r i
  unfolding seated frames happened happened_in book
  started-shown = go ((goes_on mask _ (built-mirrors mask) x.run).mirrors.stored i m)
    where
      go : Stored i mask (x.site.seat i) → Ready mask r i
      go (awaits w) =
          record {
            shown = record {
              site = seated x.site i _ [];
              run = Goes.goes x.run (Happens.starts i m w.nowhere);
              same = put_all (λ j y. y.now ≡ p.box j) x.site.seat i _ (sym w.untouched ∙ x.same i) (λ j n. x.same j);
              known = x.known;
              one_book = sym (book_silent _ (book (happened_in x.run)) (fresh-hands i mask)) ∙ x.one_book;
            };
            started = rw (put_same x.site.seat i (record {
              now = fresh i mask;
              disk = over (x.site.seat i).disk 0 (head i mask);
              place = length (head i mask);
            })) (omega (arith, head_nine i mask));
          }
      go (lives l) = record { shown = x; started = life_started i mask _ _ _ l }

-- **Each run of a park is one of a site, with the same book.**
pub shown : (mask : ℕ) {p : Park} (r : Reached mask p) → Shown mask r
unfolding start built happened_in moves_of book
shown mask stays = record { site = built mask; run = Goes.stays; same = λ i. refl; known = λ bytes m. m; one_book = refl }
shown mask (moves r (steps i m e c t ms o)) =
    let ready = started-shown mask r (shown mask r) i m in
    step-shown mask r ready.shown i m ready.started e c t ms o
shown mask (moves r (restarts i m)) =
    let ready = started-shown mask r (shown mask r) i m in
    restart_shown mask r ready.shown i m ready.started

-- **And a box comes back from power that failed at any byte of any step's line:** what `fails` asks of the opening is always so.
pub always_opens : (mask : ℕ) (a : Site) → Goes mask (built mask) a → (i : ℕ) → is_membership i mask ≡ true → Started (a.seat i) → (e : Event)
    → Comes a.sent e → (t : State) (messages : List Message) → step e (a.seat i).now ≡ done t messages → (k : ℕ)
    → (u : State) × (n : ℕ) × (opening i (written (a.seat i) (take k (journaled (a.seat i).now t))) ≡ opened u n)
always_opens mask a g i m up e c t ms o k =
    let life = started-lives ((goes_on mask _ (built-mirrors mask) g).mirrors.stored i m) up in
    go (life_fails i mask _ t _ _ life (event-steps a.sent (a.seat i).now e c t ms o) k)
  where
    torn : List ℕ
    torn = written (a.seat i) (take k (journaled (a.seat i).now t))

    go : (opening i torn ≡ opened (restarted (a.seat i).now) (a.seat i).place)
        ⊎ (opening i torn ≡ opened (restarted t) ((a.seat i).place + length (journaled (a.seat i).now t)))
        → (u : State) × (n : ℕ) × (opening i torn ≡ opened u n)
    go (inl before) = (_, _, before)
    go (inr behind) = (_, _, behind)

-- **Between steps too a box that was started comes back,** with its stored part and the place of its next line;
pub started-opens : (mask : ℕ) (a : Site) → Goes mask (built mask) a → (i : ℕ) → is_membership i mask ≡ true → Started (a.seat i)
    → opening i (a.seat i).disk ≡ opened (restarted (a.seat i).now) (a.seat i).place
started-opens mask a g i m up =
    life_opens i mask _ _ _ (started-lives ((goes_on mask _ (built-mirrors mask) g).mirrors.stored i m) up)

-- **and one whose head was torn is answered 11,** and has nothing to lose: it is started again.
pub torn-answered : (mask : ℕ) (a : Site) → Goes mask (built mask) a → (i : ℕ) → is_membership i mask ≡ true → (a.seat i).place ≡ 0
    → (opening i (a.seat i).disk ≡ headless) × ((a.seat i).now ≡ fresh i mask)
torn-answered mask a g i m z =
    let w = none-awaits ((goes_on mask _ (built-mirrors mask) g).mirrors.stored i m) z in
    (torn-head i mask (a.seat i) w, w.untouched)

-- ---- the two books

-- The box to which something happened has the record that is told of it.
happened-box : {mask : ℕ} {a b : Site} (v : Happens mask a b) → (i : ℕ) × ((b.seat i).now ≡ (happened v).behind)
unfolding happened seated
happened-box {a = a} (Happens.starts i m z) = (i, ap (λ y. y.now) (put_same a.seat i _))
happened-box {a = a} (Happens.tears i m z k l) = (i, ap (λ y. y.now) (put_same a.seat i _))
happened-box {a = a} (Happens.steps i m up e c t ms o) = (i, ap (λ y. y.now) (put_same a.seat i _))
happened-box {a = a} (Happens.fails i m up e c t ms o k u n h) = (i, ap (λ y. y.now) (put_same a.seat i _))
happened-box {a = a} (Happens.reopens i m u n h) = (i, ap (λ y. y.now) (put_same a.seat i _))
happened-box {a = a} (Happens.trims i m k) = (i, ap (λ y. y.now) (put_same a.seat i _))

-- A park's run as which a site's run stands, of whose book the site's is a beginning.
pub record AsPark (mask : ℕ) {a : Site} (g : Goes mask (built mask) a) : Type 0 where
  pub park : Park
  pub reached : Reached mask park
  pub mirrors : Mirrors mask a park
  pub begins : Begins (book (happened_in g)) (book (moves_of reached))

-- **Each run of a site is one of a park, record for record, and its book is a beginning of the park's:** that one has also what a leader committed by a
-- step whose line was whole when power failed.
pub as_park : (mask : ℕ) {a : Site} (g : Goes mask (built mask) a) → AsPark mask g
unfolding happened_in moves_of book
as_park mask Goes.stays = record { park = start mask; reached = stays; mirrors = built-mirrors mask; begins = begins_self [] }
as_park mask (Goes.goes {b = a} {c = b} g v) =
    let x = as_park mask g in
    let y = happens-on mask a b x.park x.mirrors v in
    let told = happened-box v in
    let now = run_both x.reached y.run in
    let handed : Begins (handed_out (happened v).behind) (book (moves_of now)) =
    rw (← told.1, y.mirrors.same told.0) ((park_safe mask).in_book y.park now told.0) in
    record {
      park = y.park;
      reached = now;
      mirrors = y.mirrors;
      begins = longer_either (λ log. Begins log (book (moves_of now))) (book (happened_in g)) (writes (happened v))
          (begins_trans x.begins ((park_safe mask).book_grows x.park y.park x.reached y.run))
          (writes_either (λ log. Begins log (book (moves_of now))) (happened v) handed (nothing-begins _));
    }
