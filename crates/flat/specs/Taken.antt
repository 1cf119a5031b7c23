-- What is known of numbers once they are taken, or not. Assumes nothing.
use Rattle.std.specs.Prelude.{◌≡◌, Bool, true, false, cond, Option, Some, None, refl}
use Rattle.std.proofs.Common.{ap, sym, true≢false}

module _ {A : Type 0} where
  some_or : A → Option A → A
  some_or x (Some y) = y
  some_or x None = x

  is_taken : Option A → Bool
  is_taken (Some x) = true
  is_taken None = false

  pub taken : (b : Bool) (x : A) {y : A} → Some y ≡ cond b (Some x) None → (b ≡ true) × (y ≡ x)
  unfolding some_or is_taken
  taken true x e = (refl, ap (some_or x) e)
  taken false x e = absurd (true≢false (ap is_taken e))

  pub not_taken : (b : Bool) (x : A) → None ≡ cond b (Some x) None → b ≡ false
  unfolding is_taken
  not_taken true x e = absurd (true≢false (sym (ap is_taken e)))
  not_taken false x e = refl
