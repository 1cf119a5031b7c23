-- What a leader settles is committed: the boxes that match an index have acknowledged it. Assumes nothing.
use Rattle.std.specs.Prelude.{ℕ, ◌+◌, ◌*◌, ◌/◌, ◌%◌, ◌≤◌, ◌<◌, ◌≡◌, refl, Bool, true, false, cond, ◌&&◌, leb}
use Rattle.std.proofs.Math.Decide.{dec_le}
use Rattle.std.proofs.Common.{le_refl, arith, sym, ap, ◌∙◌}
use Rattle.std.proofs.Math.Path.{subst}
use Rattle.std.proofs.Math.Dec.{eqb}
use borrow.Author.Tests.{eqb-true, leb-true}
use Rattle.digits.specs.Tests.{and_left, and_right}
use Rattle.frames.specs.Limits.{boxes, masks}
use Rattle.raft.specs.Majority.{holds}
use Rattle.raft.proofs.MajorityLaws.{at-box}
use Rattle.raft.specs.Record.{State, last_index, term_at}
use Rattle.raft.proofs.RecordLaws.{Member}
use Rattle.raft.specs.Commit.{matches, matching, is_matched, settled}
use Rattle.raft.proofs.CommitLaws.{Highest, is-highest}
use Rattle.history.specs.Conf.{one, Agrees, Agree}
use Rattle.history.specs.InForce.{Rule, in_force}
use Rattle.history.specs.History.{History, Committed, Facts}
use Rattle.history.proofs.Book.{committed-covered}
use Rattle.history.proofs.Handed.{Hands}

-- ---- a mask of seven tests

-- a test as a digit
abbrev digit : Bool → ℕ
digit b = cond b 1 0

-- it is one digit
low : (b : Bool) → digit b ≤ 1
low true = omega arith
low false = omega arith

-- at its place
times : (b : Bool) (n : ℕ) → cond b n 0 ≡ n * digit b
times true n = omega arith
times false n = omega arith

-- and 1 where the test passed
set : (b : Bool) → digit b ≡ 1 → b ≡ true
set true e = refl
set false e = absurd (omega arith)

-- The digits of a number that is put together from seven.
abbrev sum : (a b c d e f g : ℕ) → ℕ
sum a b c d e f g = a + 2 * b + 4 * c + 8 * d + 16 * e + 32 * f + 64 * g

-- taken apart again,
record Digits (m a b c d e f g : ℕ) : Type 0 where
  of_1 : m / 1 % 2 ≡ a
  of_2 : m / 2 % 2 ≡ b
  of_3 : m / 4 % 2 ≡ c
  of_4 : m / 8 % 2 ≡ d
  of_5 : m / 16 % 2 ≡ e
  of_6 : m / 32 % 2 ≡ f
  of_7 : m / 64 % 2 ≡ g

-- they are the seven
digits : (a b c d e f g : ℕ) → a ≤ 1 → b ≤ 1 → c ≤ 1 → d ≤ 1 → e ≤ 1 → f ≤ 1 → g ≤ 1 → Digits (sum a b c d e f g) a b c d e f g
digits a b c d e f g p q r s t u v = omega arith

-- a box that is held in the mask of those that match an index matches it
matching-held : (s : State) (n i : ℕ) → 1 ≤ i → i ≤ boxes → holds (matching s n) i ≡ true → n ≤ matches s i
unfolding holds matching
matching-held s n =
    at-box (λ i. holds (matching s n) i ≡ true → n ≤ matches s i) (got 1 d.of_1) (got 2 d.of_2) (got 3 d.of_3) (got 4 d.of_4)
    (got 5 d.of_5) (got 6 d.of_6) (got 7 d.of_7)
  where
    at : ℕ → Bool
    at i = leb n (matches s i)

    d : Digits (matching s n) (digit (at 1)) (digit (at 2)) (digit (at 3)) (digit (at 4)) (digit (at 5)) (digit (at 6)) (digit (at 7))
    d =
        rw (times (at 2) 2, times (at 3) 4, times (at 4) 8, times (at 5) 16, times (at 6) 32, times (at 7) 64)
        (digits _ _ _ _ _ _ _ (low (at 1)) (low (at 2)) (low (at 3)) (low (at 4)) (low (at 5)) (low (at 6)) (low (at 7)))

    got : (i : ℕ) {x : ℕ} → x ≡ digit (leb n (matches s i)) → eqb x 1 ≡ true → n ≤ matches s i
    got i p h = leb-true n (matches s i) (set (leb n (matches s i)) (sym p ∙ eqb-true _ _ h))

-- ---- the leader's commit

-- Where one set is in force (today always: `in_force-fixed`).
module _ {rule : Rule} {h : History} (s : State) (f : Facts rule h) (own : h.leaders.log s.term ≡ s.log) (small : s.members < masks)
    (one_set : in_force rule s.log (last_index s) ≡ one s.members)
    (acked : (i : ℕ) → Member i s.members → 1 ≤ matches s i → h.acked i s.term (matches s i)) where
  -- an index of its own term that a majority matches
  pub matched-committed : (n : ℕ) → 1 ≤ n → n ≤ last_index s → term_at s.log n ≡ s.term → is_matched s n ≡ true
      → Committed rule h s.term n (last_index s)
  unfolding is_matched Agrees
  matched-committed n l b e m =
      record {
        least = l;
        within = b;
        reach = rw own (le_refl _);
        own = rw own e;
        agree = subst (λ c. Agree c (λ j. h.acked j s.term n)) (sym (ap (λ z. in_force rule z (last_index s)) own ∙ one_set))
            (record {
              held = record {
                small = small;
                most = record { boxes = matching s n; enough = m; each = λ j b x. held j b (matching-held s n j b.least b.most x) };
              };
            });
      }
    where
      held : (j : ℕ) → Member j s.members → n ≤ matches s j → h.acked j s.term n
      held j b x = f.lower j s.term (matches s j) n (acked j b (omega arith)) x

  -- A leader that settles its commit hands out what is covered.
  pub settled-hands : Hands rule h s.term s.log s.commit → Hands rule h s.term s.log (settled s)
  unfolding settled
  settled-hands x = go (dec_le (settled s) s.commit) (is-highest _ s.commit (last_index s))
    where
      go : Dec (settled s ≤ s.commit) → Highest (λ n. eqb (term_at s.log n) s.term && is_matched s n) s.commit (last_index s) (settled s)
          → Hands rule h s.term s.log (settled s)
      go (yes l) t = rw same x
        where
          same : settled s ≡ s.commit
          same = omega (arith, t.least)
      go (no l) t =
          let p = t.passes (omega arith) in
          let e = eqb-true _ _ (and_left (eqb (term_at s.log (settled s)) s.term) _ p) in
          let b : settled s ≤ last_index s = omega (arith, x.within, t.most) in
          let m = matched-committed (settled s) (omega arith) b e (and_right (eqb (term_at s.log (settled s)) s.term) _ p) in
          record { within = b; covered = rw own at (committed-covered m) }
