-- Room that a caller lends: what it holds once something is written into it. Assumes nothing.
use Rattle.std.specs.Prelude.{ℕ, ◌+◌, ◌≤◌, ◌≡◌, List, ◌++◌, length, take, drop}
use Rattle.digits.specs.Digits.{digits}

-- The room d with the text s in it from a place on: every other byte as it was.
unfoldable pub over : List ℕ → ℕ → List ℕ → List ℕ
over d at s = take at d ++ s ++ drop (at + length s) d

-- What a writer of so many bytes is lent: the sixteen digits, and room from a place on.
pub record Lent (width : ℕ) (table room : List ℕ) (at : ℕ) : Type 0 where
  pub sixteen : table ≡ digits
  pub long : at + (width + width) ≤ length room
