-- What is proved of majority, for the code and for safety. Assumes nothing.
use Rattle.std.specs.Prelude.{ℕ, zero, suc, ◌+◌, ◌-◌, ◌*◌, ◌/◌, ◌%◌, ◌^◌, ◌≤◌, ◌<◌, max, min, ◌≡◌, refl, Bool, true, false, not, ◌||◌, eqb}
use Rattle.std.proofs.Math.Decide.{dec_le}
use Rattle.std.proofs.Common.{le_refl, div-one, arith, sym, ap, ◌∙◌, eqb-true, ltb-true, eq-eqb}
use Rattle.std.proofs.Math.Nat.{div-div-eq-div-mul, pow-succ'}
use Rattle.std.specs.Int.Bits.{bit_and, bit_or, and_step, or_step, and_zero_r, or_zero_l}
use Rattle.std.proofs.lemmas.Nat.{or_shr, ones-le}
use Rattle.std.specs.Int.Count.{ones, ones_step}
use Rattle.std.proofs.lemmas.Bool.{not-true}
use Rattle.digits.specs.Tests.{or_right, each_below, at_each}
use Rattle.frames.specs.Limits.{boxes, masks}
use Rattle.raft.specs.Majority.{bit, holds, majority, within}
use Rattle.raft.specs.Record.{is_other}

-- ---- boxes and masks

-- what holds of the seven boxes holds of each number from 1 to 7
pub at-box : (P : ℕ → Type 0) → P 1 → P 2 → P 3 → P 4 → P 5 → P 6 → P 7 → (i : ℕ) → 1 ≤ i → i ≤ boxes → P i
at-box P a b c d e f g zero l h = absurd (omega arith)
at-box P a b c d e f g (suc zero) l h = a
at-box P a b c d e f g (suc (suc zero)) l h = b
at-box P a b c d e f g (suc (suc (suc zero))) l h = c
at-box P a b c d e f g (suc (suc (suc (suc zero)))) l h = d
at-box P a b c d e f g (suc (suc (suc (suc (suc zero))))) l h = e
at-box P a b c d e f g (suc (suc (suc (suc (suc (suc zero)))))) l h = f
at-box P a b c d e f g (suc (suc (suc (suc (suc (suc (suc zero))))))) l h = g
at-box P a b c d e f g (suc (suc (suc (suc (suc (suc (suc (suc i)))))))) l h = absurd (omega arith)

-- the empty membership agrees with nobody
pub majority-empty : (a : ℕ) → majority 0 a ≡ false
unfolding majority ones
majority-empty a = rw (and_zero_r a)

-- a majority is more than half of the members
pub most-held : (members a : ℕ) → majority members a ≡ true → ones members < 2 * ones (bit_and a members)
unfolding majority
most-held members a h = ltb-true (ones members) (2 * ones (bit_and a members)) h

-- ---- masks within masks

-- half of two masks together is their halves together, and so is the lowest digit
and_half : (a m : ℕ) → (bit_and a m / 2 ≡ bit_and (a / 2) (m / 2)) × (bit_and a m % 2 ≡ min (a % 2) (m % 2))
and_half a m = omega (arith, and_step a m)

or_half : (a b : ℕ) → (bit_or a b / 2 ≡ bit_or (a / 2) (b / 2)) × (bit_or a b % 2 ≡ max (a % 2) (b % 2))
or_half a b = omega (arith, or_step a b)

-- what is within a mask is not changed by it
and_again : (k a m : ℕ) → m ≤ k → bit_and (bit_and a m) m ≡ bit_and a m
and_again zero a m l =
    let none : m ≡ 0 = omega arith in
    rw (none, and_zero_r (bit_and a 0), and_zero_r a)
and_again (suc k) a m l =
    omega (
      arith,
      and_step (bit_and a m) m,
      and_half a m,
      ap (λ x. bit_and x (m / 2)) (and_half a m).0,
      and_again k (a / 2) (m / 2) (omega arith),
    )

-- two parts of a mask are together a part of it
or-again : (k a b m : ℕ) → a ≤ k → b ≤ k → bit_and a m ≡ a → bit_and b m ≡ b → bit_and (bit_or a b) m ≡ bit_or a b
or-again zero a b m l h p q =
    let none : a ≡ 0 = omega arith in
    rw (none, or_zero_l b) q
or-again (suc k) a b m l h p q =
    omega (
      arith,
      and_step (bit_or a b) m,
      or_half a b,
      ap (λ x. bit_and x (m / 2)) (or_half a b).0,
      and_half a m,
      and_half b m,
      or-again k (a / 2) (b / 2) (m / 2) (omega arith) (omega arith) (halves a p) (halves b q),
    )
  where
    halves : (n : ℕ) → bit_and n m ≡ n → bit_and (n / 2) (m / 2) ≡ n / 2
    halves n e = omega (arith, and_half n m)

-- as a test
pub within-or : (a b m : ℕ) → within a m ≡ true → within b m ≡ true → within (bit_or a b) m ≡ true
within-or a b m p q = eq-eqb _ _ (or-again (a + b) a b m (omega arith) (omega arith) (eqb-true _ _ p) (eqb-true _ _ q))

-- and hold what one of them holds
pub holds-or : (a b i : ℕ) → holds a i ≡ true → holds (bit_or a b) i ≡ true
unfolding holds
holds-or a b i h =
    eq-eqb (bit_or a b / bit i % 2) 1
    (omega (arith, or_shr a b (i - 1), or_half (a / bit i) (b / bit i), eqb-true (a / bit i % 2) 1 h))

-- "only members count"
pub strangers : (members agreed : ℕ) → majority members agreed ≡ majority members (bit_and agreed members)
unfolding majority
strangers members agreed = rw (and_again members agreed members (le_refl _))

-- ---- one member

-- A box, counted from 0, that is a majority alone is the only member.
only : ℕ → ℕ → Bool
only members k = not (majority members (bit (suc k))) || eqb members (bit (suc k))

-- so it is for each mask and each box, by a computed test
only-each : each_below (λ m. each_below (only m) boxes) masks ≡ true
unfolding only majority ones
only-each = refl

-- a box that is a majority alone is the only member
pub one-member : (members i : ℕ) → members < masks → 1 ≤ i → i ≤ boxes → majority members (bit i) ≡ true → members ≡ bit i
unfolding only
one-member members zero l a b h = absurd (omega arith)
one-member members (suc k) l a b h =
    let test = at_each (only members) boxes (at_each (λ m. each_below (only m) boxes) masks only-each members l) k (omega arith) in
    eqb-true members (bit (suc k)) (or_right (majority members (bit (suc k))) _ h test)

-- so one box is held
pub one-held : (members i : ℕ) → members < masks → 1 ≤ i → i ≤ boxes → majority members (bit i) ≡ true → ones members ≡ 1
unfolding ones
one-held members i l a b h =
    rw (one-member members i l a b h) (at-box (λ j. ones (bit j) ≡ 1) refl refl refl refl refl refl refl i a b)

-- A box's own mask holds no other, both counted from 0.
apart : ℕ → ℕ → Bool
apart k n = not (is_other (suc k) (bit (suc k)) (suc n))

-- and no other
pub none_other : (members i j : ℕ) → members < masks → 1 ≤ i → i ≤ boxes → majority members (bit i) ≡ true → 1 ≤ j → j ≤ boxes
    → is_other i members j ≡ false
unfolding apart is_other holds
none_other members zero j l a b h c d = absurd (omega arith)
none_other members (suc k) zero l a b h c d = absurd (omega arith)
none_other members (suc k) (suc n) l a b h c d =
    rw (one-member members (suc k) l a b h)
    (not-true _ (at_each (apart k) boxes (at_each (λ x. each_below (apart x) boxes) boxes refl k (omega arith)) n (omega arith)))

-- ---- two majorities

-- a digit of two masks together, and the digits above it
and-digits : (a m : ℕ) → ones (bit_and a m) ≡ min (a % 2) (m % 2) + ones (bit_and (a / 2) (m / 2))
and-digits a m = rw (ones_step (bit_and a m), (and_half a m).1, (and_half a m).0)

-- a digit of half a number is the next digit of the number
half_digit : (m i : ℕ) → m / 2 / 2 ^ i % 2 ≡ m / 2 ^ suc i % 2
half_digit m i = rw (div-div-eq-div-mul m 2 (2 ^ i), pow-succ' 2 i)

-- A digit that three numbers have set.
record Common (k m a b : ℕ) : Type 0 where
  at : ℕ
  below : at < k
  of_m : m / 2 ^ at % 2 ≡ 1
  of_a : a / 2 ^ at % 2 ≡ 1
  of_b : b / 2 ^ at % 2 ≡ 1

-- one of their halves is one of the numbers
common_up : (k m a b : ℕ) → Common k (m / 2) (a / 2) (b / 2) → Common (suc k) m a b
common_up k m a b c =
    record {
      at = suc c.at;
      below = omega (arith, c.below);
      of_m = sym (half_digit m c.at) ∙ c.of_m;
      of_a = sym (half_digit a c.at) ∙ c.of_a;
      of_b = sym (half_digit b c.at) ∙ c.of_b;
    }

-- two parts of m that together count more than m have a digit in common: the lowest, or one of the halves
common : (k m a b : ℕ) → m < 2 ^ k → ones m < ones (bit_and a m) + ones (bit_and b m) → Common k m a b
common zero m a b l h =
    let none : m ≡ 0 = omega arith in
    absurd (omega (arith, ones-le 0 0 (omega arith), rw (none, and_zero_r a, and_zero_r b) at h))
common (suc k) m a b l h = go (dec_le 3 (m % 2 + a % 2 + b % 2)) (common k (m / 2) (a / 2) (b / 2) (omega (arith, pow-succ' 2 k)))
  where
    lowest : (n : ℕ) → 1 ≤ n % 2 → n / 2 ^ 0 % 2 ≡ 1
    lowest n d = rw (div-one n) (omega arith)

    go : Dec (3 ≤ m % 2 + a % 2 + b % 2)
        → (ones (m / 2) < ones (bit_and (a / 2) (m / 2)) + ones (bit_and (b / 2) (m / 2)) → Common k (m / 2) (a / 2) (b / 2))
        → Common (suc k) m a b
    go (yes s) halves =
        record {
          at = 0;
          below = omega arith;
          of_m = lowest m (omega arith);
          of_a = lowest a (omega arith);
          of_b = lowest b (omega arith);
        }
    go (no s) halves = common_up k m a b (halves (omega (arith, ones_step m, and-digits a m, and-digits b m)))

-- A member that is in both masks.
pub record Shared (members a b : ℕ) : Type 0 where
  pub box : ℕ
  pub least : 1 ≤ box
  pub most : box ≤ boxes
  pub member : holds members box ≡ true
  pub first : holds a box ≡ true
  pub second : holds b box ≡ true

-- a mask holds the box of a digit that is set
digit-held : (m k : ℕ) → m / 2 ^ k % 2 ≡ 1 → holds m (suc k) ≡ true
unfolding holds
digit-held m k e = rw (same, e)
  where
    same : suc k - 1 ≡ k
    same = omega arith

-- two majorities of one membership share a member
pub meet : (members a b : ℕ) → members < masks → majority members a ≡ true → majority members b ≡ true → Shared members a b
meet members a b l p q =
    let c = common boxes members a b l (omega (arith, most-held members a p, most-held members b q)) in
    record {
      box = suc c.at;
      least = omega arith;
      most = c.below;
      member = digit-held members c.at c.of_m;
      first = digit-held a c.at c.of_a;
      second = digit-held b c.at c.of_b;
    }
