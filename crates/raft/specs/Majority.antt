-- 01, 'The box's record': sets of boxes as masks, and what a majority is. Assumes nothing.
use Rattle.std.specs.Prelude.{ℕ, ◌-◌, ◌*◌, ◌/◌, ◌%◌, ◌^◌, Bool, eqb, ltb}
use Rattle.std.specs.Int.Bits.{bit_and}
use Rattle.std.specs.Int.Count.{ones}

-- "box i has bit i-1"
abbrev pub bit : ℕ → ℕ
bit i = 2 ^ (i - 1)

-- A mask holds a box.
unfoldable pub holds : ℕ → ℕ → Bool
holds mask i = eqb (mask / bit i % 2) 1

-- "Twice the number of ones in the yes mask exceeds the number of ones in the membership; only members count."
unfoldable pub majority : ℕ → ℕ → Bool
majority members agreed = ltb (ones members) (2 * ones (bit_and agreed members))

-- Every box of one mask is in the other.
abbrev pub within : ℕ → ℕ → Bool
within part whole = eqb (bit_and part whole) part
