-- The runs of a site have accounts, power failing at any byte: its book is what leaders had committed in the site's own run. Assumes nothing.
use Rattle.std.specs.Prelude.{ℕ, ◌≡◌, refl, true, List, [], ◌∷◌}
use Rattle.std.proofs.Math.Path.{ap}
use Rattle.std.proofs.Common.{◌∙◌}
use mathlib.Core.List.Memᴰ
use Rattle.frames.specs.Message.{Message}
use Rattle.raft.specs.Record.{State, fresh, handed_out, is_membership}
use Rattle.raft.specs.Outcome.{done}
use Rattle.raft.specs.Event.{Event, step}
use Rattle.journal.specs.Opening.{restarted, opened, opening}
use Rattle.journal.proofs.LifeLaws.{Life, life_opens}
use Rattle.history.specs.BeginsLaws.{nothing-begins}
use Rattle.history.specs.PutLaws.{put_same, put_other}
use Rattle.history.proofs.Steps.{fresh_park}
use Rattle.safety.specs.Park.{start, Comes, Run}
use Rattle.safety.specs.Disks.{Seat, Site, built, Started, seated, Happens, starts, tears, steps, fails, reopens, trims, Goes, stays, goes, goes_both}
use Rattle.safety.specs.Book.{book}
use Rattle.safety.specs.Runs.{happened, happened_in, sites}
use Rattle.safety.proofs.BookLaws.{Wrote}
use Rattle.safety.proofs.Proper.{event-reads, Proper, reached_proper}
use Rattle.safety.proofs.Endings.{event_ending}
use Rattle.safety.proofs.CarriedRun.{start-carried}
use Rattle.safety.proofs.Account.{Account, Further, Accounts, further_self, further-both, Moved, more, quiet-further, step-further}
use Rattle.safety.proofs.ParkAccount.{fresh-hands, restarted-hands}
use Rattle.safety.proofs.DisksLaws.{opened-lives, Mirrors, built-mirrors, happens-on}

-- At the start nothing is handed out.
built-account : (mask : ℕ) → Account mask (sites mask) (Mirrors mask) {now = built mask} stays
unfolding built fresh handed_out happened_in Wrote
built-account mask =
    record {
      park = start mask;
      reached = Run.stays;
      stands = built-mirrors mask;
      same = (built-mirrors mask).same;
      known = (built-mirrors mask).known;
      history = fresh_park;
      carried = start-carried mask;
      wrote = tt;
      booked = record {
        boxes = λ j. nothing-begins _;
        appends = λ from to term index prior commit es s. absurd (Memᴰ.not-nil s.there);
      };
    }

module _ (mask : ℕ) {a : Site} (g : Goes mask (built mask) a) (x : Account mask (sites mask) (Mirrors mask) g) where
  -- One seat changes: the park runs on.
  seat-moved : (i : ℕ) (b : Seat) (ms : List Message) (v : Happens mask a (seated a i b ms))
      → happened v ≡ record { before = (a.seat i).now; behind = b.now } → Moved mask (sites mask) (Mirrors mask) g (goes g v) x.park i b.now ms
  unfolding seated happened_in
  seat-moved i b ms v e =
      let comes = happens-on mask a _ x.park x.stands v in
      record {
        here = ap (λ y. y.now) (put_same a.seat i b);
        others = λ j n. ap (λ y. y.now) (put_other a.seat i b j n);
        sends = refl;
        was = (a.seat i).now;
        changes = ap (λ c. c ∷ happened_in g) e;
        park = comes.park;
        run = comes.run;
        stands = comes.mirrors;
        same = comes.mirrors.same;
        known = comes.mirrors.known;
      }

  -- A box that is opened by its journal hands out nothing.
  pub opened-hands : (i : ℕ) → is_membership i mask ≡ true → (u : State) (n : ℕ) (disk : List ℕ)
      → Happens mask a (seated a i (record { now = u; disk = disk; place = n }) []) → opening i disk ≡ opened u n → handed_out u ≡ []
  unfolding seated
  opened-hands i m u n disk v h =
      let comes = happens-on mask a _ x.park x.stands v in
      let seat : Seat = record { now = u; disk = disk; place = n } in
      let life : Life i mask u n disk = opened-lives {b = seat} (rw (put_same a.seat i seat) at (comes.mirrors.stored i m)) h in
      let back = life_opens i mask u n disk life in
      let same : u ≡ restarted u = cc in
      ap handed_out same ∙ restarted-hands u

  opened-further : (i : ℕ) → is_membership i mask ≡ true → (u : State) (n : ℕ) (disk : List ℕ)
      (v : Happens mask a (seated a i (record { now = u; disk = disk; place = n }) [])) → happened v ≡ record { before = (a.seat i).now; behind = u }
      → opening i disk ≡ opened u n → Further mask (sites mask) (Mirrors mask) x.history (book (happened_in g)) (goes g v)
  opened-further i m u n disk v e h = quiet-further x (seat-moved i _ [] v e) (rw (opened-hands i m u n disk v h) (nothing-begins _))

  -- A box that is started, wholly or not, is fresh, and hands out nothing.
  fresh-further : (i : ℕ) (disk : List ℕ) (n : ℕ) (v : Happens mask a (seated a i (record { now = fresh i mask; disk = disk; place = n }) []))
      → happened v ≡ record { before = (a.seat i).now; behind = fresh i mask }
      → Further mask (sites mask) (Mirrors mask) x.history (book (happened_in g)) (goes g v)
  fresh-further i disk n v e = quiet-further x (seat-moved i _ [] v e) (rw (fresh-hands i mask) (nothing-begins _))

  -- A step.
  stepped-further : (i : ℕ) (m : is_membership i mask ≡ true) (up : Started (a.seat i)) (e : Event) (c : Comes a.sent e) (t : State) (ms : List Message)
      (o : step e (a.seat i).now ≡ done t ms)
      → Further mask (sites mask) (Mirrors mask) x.history (book (happened_in g)) (goes g (steps i m up e c t ms o))
  unfolding happened
  stepped-further i m up e c t ms o =
      let own : Proper mask i (a.seat i).now = rw (x.same i) (reached_proper mask x.park x.reached i) in
      step-further x (seat-moved i _ ms (steps i m up e c t ms o) refl) m
      (event-reads a.sent (a.seat i).now (own.whole m) own.fits e c t ms o) (event_ending a.sent (a.seat i).now e c t ms o)

-- Whatever happens carries the account on,
happens-further : (mask : ℕ) {a b : Site} (g : Goes mask (built mask) a) (v : Happens mask a b) (x : Account mask (sites mask) (Mirrors mask) g)
    → Further mask (sites mask) (Mirrors mask) x.history (book (happened_in g)) (goes g v)
unfolding happened
happens-further mask g (starts i m z) x = fresh-further mask g x i _ _ (starts i m z) refl
happens-further mask g (tears i m z k l) x = fresh-further mask g x i _ _ (tears i m z k l) refl
happens-further mask g (steps i m up e c t ms o) x = stepped-further mask g x i m up e c t ms o
happens-further mask g (fails i m up e c t ms o k u n h) x = opened-further mask g x i m u n _ (fails i m up e c t ms o k u n h) refl h
happens-further mask g (reopens i m u n h) x = opened-further mask g x i m u n _ (reopens i m u n h) refl h
happens-further mask g (trims i m k) x =
    let v = seat-moved mask g x i _ [] (trims i m k) refl in
    quiet-further x v (more x v _ (x.booked.boxes i))

-- **so each run has an account, and later ones are further.**
site-account : (mask : ℕ) {a : Site} (g : Goes mask (built mask) a) → Account mask (sites mask) (Mirrors mask) g
site-account mask stays = built-account mask
site-account mask (goes g v) = (happens-further mask g v (site-account mask g)).account

site-further : (mask : ℕ) {a b : Site} (g : Goes mask (built mask) a) (u : Goes mask a b) (x : Account mask (sites mask) (Mirrors mask) g)
    → Further mask (sites mask) (Mirrors mask) x.history (book (happened_in g)) (goes_both g u)
unfolding goes_both
site-further mask g stays x = further_self x
site-further mask g (goes u v) x =
    let y = site-further mask g u x in
    further-both y (happens-further mask (goes_both g u) v y.account)

pub site_accounts : (mask : ℕ) → Accounts mask (sites mask) (Mirrors mask)
site_accounts mask = record { account = site-account mask; further = site-further mask }
