-- The runs of a park have accounts. Assumes nothing.
use Rattle.std.specs.Prelude.{ℕ, ◌≡◌, refl, List, [], ◌∷◌}
use Rattle.std.proofs.Common.{ap, subst}
use mathlib.Core.List.Memᴰ
use Rattle.frames.specs.Message.{Message}
use Rattle.raft.specs.Record.{State, fresh, handed_out}
use Rattle.journal.specs.Opening.{restarted}
use Rattle.history.specs.PutLaws.{put_same, put_other}
use Rattle.history.specs.BeginsLaws.{nothing-begins}
use Rattle.history.proofs.Steps.{fresh_park}
use Rattle.safety.specs.Park.{Park, start, after, Move, steps, restarts, Run, stays, moves, run_both, Reached}
use Rattle.safety.specs.Book.{book}
use Rattle.safety.specs.Runs.{moved, moves_of, parks}
use Rattle.safety.proofs.BookLaws.{Wrote}
use Rattle.safety.proofs.Proper.{event-reads, reached_proper}
use Rattle.safety.proofs.Endings.{event_ending}
use Rattle.safety.proofs.CarriedRun.{start-carried}
use Rattle.safety.proofs.Account.{StandsAs, Account, Further, Accounts, further_self, further-both, Moved, quiet-further, step-further}

-- What is fresh hands out nothing,
pub fresh-hands : (i mask : ℕ) → handed_out (fresh i mask) ≡ []
unfolding handed_out fresh
fresh-hands i mask = refl

-- nor does what has come back.
pub restarted-hands : (s : State) → handed_out (restarted s) ≡ []
unfolding handed_out restarted
restarted-hands s = refl

-- A park stands as itself.
abbrev pub itself : (mask : ℕ) → StandsAs (parks mask)
itself mask p park = p ≡ park

-- At the start nothing is handed out.
start-account : (mask : ℕ) → Account mask (parks mask) (itself mask) {now = start mask} stays
unfolding start fresh handed_out moves_of Wrote
start-account mask =
    record {
      park = start mask;
      reached = stays;
      stands = refl;
      same = λ i. refl;
      known = λ bytes m. m;
      history = fresh_park;
      carried = start-carried mask;
      wrote = tt;
      booked = record {
        boxes = λ j. nothing-begins _;
        appends = λ from to term index prior commit es s. absurd (Memᴰ.not-nil s.there);
      };
    }

-- A move of the park is itself.
park-moved : (mask : ℕ) {p from : Park} (r : Reached mask p) → p ≡ from → (i : ℕ) (t : State) (ms : List Message) (v : Move mask p (after p i t ms))
    → moved v ≡ record { before = p.box i; behind = t }
    → Moved mask (parks mask) (itself mask) r (moves r v) from i t ms
unfolding after moves_of
park-moved mask {p} {from} r whole i t ms v e =
    record {
      here = put_same p.box i t;
      others = put_other p.box i t;
      sends = refl;
      was = p.box i;
      changes = ap (λ c. c ∷ moves_of r) e;
      park = after p i t ms;
      run = subst (λ z. Run mask z (after p i t ms)) whole (moves stays v);
      stands = refl;
      same = λ j. refl;
      known = λ bytes m. m;
    }

-- Each move carries the account on,
move_further : (mask : ℕ) {p q : Park} (r : Reached mask p) (v : Move mask p q) (x : Account mask (parks mask) (itself mask) r)
    → Further mask (parks mask) (itself mask) x.history (book (moves_of r)) (moves r v)
unfolding moved
move_further mask {p} r (steps i m e c t ms o) x =
    let own = reached_proper mask p r i in
    step-further x (park-moved mask r x.stands i t ms (steps i m e c t ms o) refl) m
    (event-reads p.sent (p.box i) (own.whole m) own.fits e c t ms o) (event_ending p.sent (p.box i) e c t ms o)
move_further mask {p} r (restarts i m) x =
    quiet-further x (park-moved mask r x.stands i _ [] (restarts i m) refl) (rw (restarted-hands (p.box i)) (nothing-begins _))

-- **so each run has an account, and later ones are further.**
park-account : (mask : ℕ) {p : Park} (r : Reached mask p) → Account mask (parks mask) (itself mask) r
park-account mask stays = start-account mask
park-account mask (moves r v) = (move_further mask r v (park-account mask r)).account

park-further : (mask : ℕ) {p q : Park} (r : Reached mask p) (u : Run mask p q) (x : Account mask (parks mask) (itself mask) r)
    → Further mask (parks mask) (itself mask) x.history (book (moves_of r)) (run_both r u)
unfolding run_both
park-further mask r stays x = further_self x
park-further mask r (moves u v) x =
    let y = park-further mask r u x in
    further-both y (move_further mask (run_both r u) v y.account)

pub park_accounts : (mask : ℕ) → Accounts mask (parks mask) (itself mask)
park_accounts mask = record { account = park-account mask; further = park-further mask }
