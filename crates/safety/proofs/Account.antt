-- An account of a run, in either telling: the park as which it stands, their history, and the book, of which all that is handed out is a beginning.
-- And that a move of one box carries it on. What demand 3 claims follows from accounts. Assumes nothing.
use Rattle.std.specs.Prelude.{ℕ, ◌≡◌, true, List, [], ◌∷◌, ◌++◌}
use Rattle.std.proofs.Common.{sym, subst, ◌∙◌}
use Rattle.frames.specs.Message.{Message, text}
use Rattle.frames.specs.Reading.{frame, reading}
use Rattle.frames.specs.declared.Entry.{Entry}
use Rattle.raft.specs.Record.{State, leader, handed_out, is_membership}
use Rattle.raft.proofs.SendLaws.{All}
use Rattle.history.specs.Begins.{Begins}
use Rattle.history.specs.BeginsLaws.{begins_self, begins_trans}
use Rattle.history.specs.InForce.{fixed}
use Rattle.history.specs.History.{History}
use Rattle.history.proofs.Book.{Covered}
use Rattle.history.proofs.Later.{Later, later_self, later_trans}
use Rattle.history.proofs.Told.{Tells}
use Rattle.safety.specs.Park.{Park, frames, Run, run_both, Reached}
use Rattle.safety.specs.Book.{Change, book}
use Rattle.safety.specs.Runs.{Runs}
use Rattle.safety.proofs.BookLaws.{leader-writes, Wrote, covered-writes, wrote-later, book_more, book-has}
use Rattle.safety.specs.Sent.{Sent, Among}
use Rattle.safety.proofs.Proper.{reached_proper}
use Rattle.safety.specs.Carried.{Kept, Carried}
use Rattle.safety.proofs.Endings.{Ending}
use Rattle.safety.proofs.CarriedRun.{Onward, known-box, run-carried}
use Rattle.safety.proofs.Booked.{Booked, quiet-booked, step-booked}

-- What a box of a park hands out is covered, by a term that it has reached.
pub box-covered : (mask : ℕ) {h : History} {p : Park} → Reached mask p → Carried mask h p → (i : ℕ)
    → Covered (fixed mask) h (p.box i).term (handed_out (p.box i))
unfolding handed_out
box-covered mask {p = p} r c i = rw ((reached_proper mask p r i).ours, (c.kept i).log) at (c.kept i).hands.covered

-- As which park a moment of a telling stands.
abbrev pub StandsAs : Runs → Type 1
StandsAs R = R.Moment → Park → Type 0

-- The same records as a park's, frames that were sent there too, a history of that park, in which all that leaders wrote is covered; and what is
-- handed out, or carried by an append, is a beginning of the book.
pub record Account (mask : ℕ) (R : Runs) (S : StandsAs R) {now : R.Moment} (run : R.Run R.first now) : Type 1 where
  pub park : Park
  pub reached : Reached mask park
  pub stands : S now park
  pub same : (i : ℕ) → R.box now i ≡ park.box i
  pub known : Among (R.sent now) park.sent
  pub history : History
  pub carried : Carried mask history park
  pub wrote : Wrote (fixed mask) history (R.changes run)
  pub booked : Booked (λ log. Begins log (book (R.changes run))) history (R.box now) (R.sent now)

-- A later account: its history is later, and its book has grown.
pub record Further (mask : ℕ) (R : Runs) (S : StandsAs R) (h : History) (before : List Entry) {now : R.Moment} (run : R.Run R.first now) : Type 1 where
  pub account : Account mask R S run
  pub later : Later h account.history
  pub grows : Begins before (book (R.changes run))

-- What accounts of all runs are.
pub record Accounts (mask : ℕ) (R : Runs) (S : StandsAs R) : Type 1 where
  pub account : {p : R.Moment} (r : R.Run R.first p) → Account mask R S r
  pub further : {p q : R.Moment} (r : R.Run R.first p) (u : R.Run p q) (x : Account mask R S r)
      → Further mask R S x.history (book (R.changes r)) (R.both r u)

-- An account is no earlier than itself,
pub further_self : {mask : ℕ} {R : Runs} {S : StandsAs R} {p : R.Moment} {r : R.Run R.first p} (x : Account mask R S r)
    → Further mask R S x.history (book (R.changes r)) r
further_self x = record { account = x; later = later_self x.history; grows = begins_self _ }

-- and one behind the other is later still.
pub further-both : {mask : ℕ} {R : Runs} {S : StandsAs R} {h : History} {log : List Entry} {p q : R.Moment} {r : R.Run R.first p} {s : R.Run R.first q}
    (x : Further mask R S h log r) → Further mask R S x.account.history (book (R.changes r)) s → Further mask R S h log s
further-both x y = record { account = y.account; later = later_trans x.later y.later; grows = begins_trans x.grows y.grows }

-- ---- a move

-- Box i has come to a record and its messages have left; the park has run on.
pub record Moved (mask : ℕ) (R : Runs) (S : StandsAs R) {p q : R.Moment} (r : R.Run R.first p) (s : R.Run R.first q) (from : Park) (i : ℕ) (t : State)
    (ms : List Message) : Type 0 where
  pub here : R.box q i ≡ t
  pub others : (j : ℕ) → (j ≡ i → ⊥) → R.box q j ≡ R.box p j
  pub sends : R.sent q ≡ frames ms ++ R.sent p
  pub was : State
  pub changes : R.changes s ≡ record { before = was; behind = t } ∷ R.changes r
  pub park : Park
  pub run : Run mask from park
  pub stands : S q park
  pub same : (j : ℕ) → R.box q j ≡ park.box j
  pub known : Among (R.sent q) park.sent

module _ {mask : ℕ} {R : Runs} {S : StandsAs R} {p q : R.Moment} {r : R.Run R.first p} {s : R.Run R.first q} (x : Account mask R S r) {i : ℕ} {t : State}
    {ms : List Message} (v : Moved mask R S r s x.park i t ms) where
  -- the history goes on with the park,
  on : Onward mask x.history v.park
  on = run-carried mask x.reached x.carried v.run

  now-reached : Reached mask v.park
  now-reached = run_both x.reached v.run

  is_box : t ≡ v.park.box i
  is_box = sym v.here ∙ v.same i

  -- what the move has written is covered,
  change : Change
  change = record { before = v.was; behind = t }

  all-wrote : Wrote (fixed mask) on.history (change ∷ R.changes r)
  unfolding Wrote change
  all-wrote =
      let new = box-covered mask now-reached on.carried i in
      (covered-writes change (subst (λ u. Covered (fixed mask) on.history u.term (handed_out u)) (sym is_box) new), wrote-later (R.changes r) x.carried.facts on.later x.wrote)

  -- so the book has grown,
  pub more : (log : List Entry) → Begins log (book (R.changes r)) → Begins log (book (R.changes s))
  unfolding change
  more log b = rw v.changes (begins_trans b (book_more on.carried.facts change (R.changes r) all-wrote))

  -- and who leads has written it.
  own : t.role ≡ leader → Begins (handed_out t) (book (R.changes s))
  unfolding change
  own l = rw v.changes (rw (leader-writes change l) at (book-has on.carried.facts change (R.changes r) all-wrote))

  kept-box : Kept on.history t
  kept-box = subst (λ u. Kept on.history u) (sym is_box) (on.carried.kept i)

  -- The frames that were sent tell of the history.
  told : (m : Message) → Sent (R.sent p) m → Tells (fixed mask) x.history m
  told m y = x.carried.tells m (record { bytes = y.bytes; there = x.known y.bytes y.there; read = y.read })

  further_with : Booked (λ log. Begins log (book (R.changes s))) on.history (R.box q) (frames ms ++ R.sent p)
      → Further mask R S x.history (book (R.changes r)) s
  unfolding change
  further_with b =
      record {
        account = record {
          park = v.park;
          reached = now-reached;
          stands = v.stands;
          same = v.same;
          known = v.known;
          history = on.history;
          carried = on.carried;
          wrote = rw v.changes all-wrote;
          booked = rw v.sends b;
        };
        later = on.later;
        grows = more _ (begins_self _);
      }

  -- **It took a step:** who leads writes the book, and all others hand out what was in it.
  pub step-further : is_membership i mask ≡ true → All (λ m. reading (text m) ≡ frame m) ms → Ending (R.sent p) (R.box p i) t ms
      → Further mask R S x.history (book (R.changes r)) s
  step-further m reads end =
      further_with
      (step-booked more mask i v.here v.others on.later told x.booked (λ a b. begins_trans)
      (rw (x.same i) (known-box mask x.reached x.carried i m)) (rw (x.same i) (reached_proper mask x.park x.reached i).ours) kept-box own reads
      end)

-- **It sent nothing,** and what it then hands out is in the book.
pub quiet-further : {mask : ℕ} {R : Runs} {S : StandsAs R} {p q : R.Moment} {r : R.Run R.first p} {s : R.Run R.first q} (x : Account mask R S r) {i : ℕ} {t : State}
    → Moved mask R S r s x.park i t [] → Begins (handed_out t) (book (R.changes s)) → Further mask R S x.history (book (R.changes r)) s
unfolding frames
quiet-further {mask} x {i} v b =
    further_with x v (quiet-booked (more x v) mask i v.here v.others (on x v).later (told x v) x.booked b)
