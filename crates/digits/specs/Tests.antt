-- Tests put together, and a test that antt computes at every number below a bound. Assumes nothing.
use Rattle.std.specs.Prelude.{ℕ, zero, suc, ◌<◌, ◌≡◌, refl, Bool, true, false, not, ◌&&◌, ◌||◌, eqb}
use Rattle.std.proofs.Common.{arith, sym, eqb-true}
use Rattle.std.specs.Bool.{beq}
use Rattle.std.proofs.lemmas.Bool.{eqb-false}

pub and_left : (a b : Bool) → (a && b) ≡ true → a ≡ true
and_left true b h = refl
and_left false b h = h

pub and_right : (a b : Bool) → (a && b) ≡ true → b ≡ true
and_right true b h = h
and_right false true h = refl
and_right false false h = h

pub and_both : (a b : Bool) → a ≡ true → b ≡ true → (a && b) ≡ true
and_both true b p q = q
and_both false b p q = p

-- where `not a or b` passes and a does, b does
pub or_right : (a b : Bool) → a ≡ true → (not a || b) ≡ true → b ≡ true
or_right true b p h = h
or_right false true p h = refl
or_right false false p h = p

pub beq-true : (a b : Bool) → beq a b ≡ true → a ≡ b
beq-true true true h = refl
beq-true true false h = sym h
beq-true false true h = h
beq-true false false h = refl

-- the test at each number below a bound
abbrev pub each_below : (ℕ → Bool) → ℕ → Bool
each_below f zero = true
each_below f (suc n) = f n && each_below f n

-- where the test passes at each, it passes at one of them
pub at_each : (f : ℕ → Bool) (n : ℕ) → each_below f n ≡ true → (k : ℕ) → k < n → f k ≡ true
at_each f zero t k h = absurd (omega arith)
at_each f (suc n) t k h = go (eqb k n) refl (at_each f n (and_right (f n) (each_below f n) t) k)
  where
    go : (b : Bool) → eqb k n ≡ b → (k < n → f k ≡ true) → f k ≡ true
    go true e below = rw (eqb-true k n e) (and_left (f n) (each_below f n) t)
    go false e below = below (omega (arith, eqb-false k n e))
