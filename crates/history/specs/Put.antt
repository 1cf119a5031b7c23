-- What each number has, one of them replaced. (Its laws: PutLaws.) Assumes nothing.
use Rattle.std.specs.Prelude.{ℕ, cond, eqb}

-- What each box has, box i's replaced.
unfoldable pub put : {A : Type 0} → (ℕ → A) → ℕ → A → ℕ → A
put box i t j = cond (eqb j i) t (box j)
