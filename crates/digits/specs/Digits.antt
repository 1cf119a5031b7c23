-- 01, 'Frames and journal lines': lower-case hexadecimal, two digits a byte, fields big_endian. Assumes nothing.
use Rattle.std.specs.Prelude.{ℕ, zero, suc, ◌+◌, ◌*◌, ◌/◌, ◌%◌, Bool, true, cond, ◌&&◌, List, [], ◌∷◌, ◌++◌, eqb, ltb, get_or, take, drop}

-- The sixteen digit characters, `0` to `9` and `a` to `f`, each at the place of its number.
abbrev pub digits : List ℕ
digits = 48 ∷ 49 ∷ 50 ∷ 51 ∷ 52 ∷ 53 ∷ 54 ∷ 55 ∷ 56 ∷ 57 ∷ 97 ∷ 98 ∷ 99 ∷ 100 ∷ 101 ∷ 102 ∷ []

-- The digit character of a number below sixteen.
unfoldable pub digit : ℕ → ℕ
digit n = get_or digits n 0

-- The first place of a character in a list, or the list's length where it has none.
unfoldable pub place : ℕ → List ℕ → ℕ
place c [] = 0
place c (d ∷ ds) = cond (eqb c d) 0 (suc (place c ds))

-- One of the sixteen characters is a digit, and nothing else is.
unfoldable pub is_digit : ℕ → Bool
is_digit c = ltb (place c digits) 16

-- The number of a digit character. (What is no digit counts as 0: whoever reads asks `is_digit` first.)
unfoldable pub worth : ℕ → ℕ
worth c = place c digits % 16

-- Bytes as text: two digits a byte, the high one first.
unfoldable pub hex : List ℕ → List ℕ
hex [] = []
hex (b ∷ bs) = digit (b / 16) ∷ digit (b % 16) ∷ hex bs

-- A number as a field of w bytes, big_endian: the lowest byte last.
unfoldable pub big_endian : ℕ → ℕ → List ℕ
big_endian zero n = []
big_endian (suc w) n = big_endian w (n / 256) ++ (n % 256 ∷ [])

-- The text of a field of w bytes.
unfoldable pub spelt : ℕ → ℕ → List ℕ
spelt w n = hex (big_endian w n)

-- The number that digits spell, read from the left, n being the number read so far.
unfoldable pub numeral : ℕ → List ℕ → ℕ
numeral n [] = n
numeral n (c ∷ cs) = numeral (n * 16 + worth c) cs

-- The number of the field of w bytes whose text starts at a place.
unfoldable pub field : List ℕ → ℕ → ℕ → ℕ
field s at w = numeral 0 (take (w + w) (drop at s))

-- How many digits a text begins with.
unfoldable pub run : List ℕ → ℕ
run [] = 0
run (c ∷ cs) = cond (is_digit c) (suc (run cs)) 0

-- Nothing but digits.
unfoldable pub all_digits : List ℕ → Bool
all_digits [] = true
all_digits (c ∷ cs) = is_digit c && all_digits cs
