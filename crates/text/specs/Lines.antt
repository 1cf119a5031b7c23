-- Where a line ends. Assumes nothing.
use Rattle.std.specs.Prelude.{ℕ, suc, ◌+◌, ◌-◌, ◌≤◌, ◌≡◌, Bool, true, cond, not, ◌&&◌, List, [], ◌∷◌, eqb, length, drop}
use Rattle.frames.specs.Message.{line_feed}

-- The bytes up to and with the first line feed; 0 where there is none.
unfoldable pub first_line : List ℕ → ℕ
first_line [] = 0
first_line (b ∷ bytes) = cond (eqb b line_feed) 1 (cond (eqb (first_line bytes) 0) 0 (suc (first_line bytes)))

-- No line feed among some bytes.
unfoldable pub has_none : List ℕ → Bool
has_none [] = true
has_none (b ∷ bytes) = not (eqb b line_feed) && has_none bytes

-- A line that ends so much further on, or nowhere.
unfoldable pub further : ℕ → ℕ → ℕ
further k m = cond (eqb m 0) 0 (k + m)

-- From a place up to another there is no line feed: the line that begins at the one ends where it would from the other.
pub record Passed (bytes : List ℕ) (at i : ℕ) : Type 0 where
  pub from : at ≤ i
  pub inside : i ≤ length bytes
  pub same : first_line (drop at bytes) ≡ further (i - at) (first_line (drop i bytes))
