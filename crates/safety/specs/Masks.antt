-- The boxes of two masks together, and of a box's own mask. Assumes nothing.
use Rattle.std.specs.Prelude.{ℕ, zero, suc, ◌-◌, ◌/◌, ◌%◌, ◌≤◌, ◌≡◌, refl, Bool, true, not, ◌||◌, ◌⊎◌, eqb}
use Rattle.std.proofs.Math.Decide.{ℕ_discrete}
use Rattle.std.proofs.Common.{arith, inl, inr, eqb-true, eq-eqb}
use Rattle.std.specs.Int.Bits.{bit_or, or_step}
use Rattle.std.proofs.lemmas.Nat.{or_shr}
use Rattle.digits.specs.Tests.{or_right, each_below, at_each}
use Rattle.frames.specs.Limits.{boxes}
use Rattle.raft.specs.Majority.{bit, holds}

-- What two masks together hold, one of them holds.
pub holds_either : (a b i : ℕ) → holds (bit_or a b) i ≡ true → (holds a i ≡ true) ⊎ (holds b i ≡ true)
unfolding holds
holds_either a b i h = go (ℕ_discrete (a / bit i % 2) 1)
  where
    go : Dec (a / bit i % 2 ≡ 1) → (holds a i ≡ true) ⊎ (holds b i ≡ true)
    go (yes e) = inl (eq-eqb _ _ e)
    go (no n) =
        inr (eq-eqb (b / bit i % 2) 1
        (omega (arith, eqb-true (bit_or a b / bit i % 2) 1 h, or_shr a b (i - 1), or_step (a / bit i) (b / bit i))))

-- a box's own mask holds it alone, both counted from 0, by a computed test
alone : ℕ → ℕ → Bool
alone k n = not (holds (bit (suc k)) (suc n)) || eqb n k

-- A box's own mask holds no other.
pub bit-holds : (i j : ℕ) → 1 ≤ i → i ≤ boxes → 1 ≤ j → j ≤ boxes → holds (bit i) j ≡ true → j ≡ i
unfolding alone holds
bit-holds zero j a b c d h = absurd (omega arith)
bit-holds (suc k) zero a b c d h = absurd (omega arith)
bit-holds (suc k) (suc n) a b c d h =
    let test = at_each (alone k) boxes (at_each (λ x. each_below (alone x) boxes) boxes refl k (omega arith)) n (omega arith) in
    let same : n ≡ k = eqb-true n k (or_right (holds (bit (suc k)) (suc n)) _ h test) in
    omega arith
