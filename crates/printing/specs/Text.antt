-- A number in decimal, and the line of a refusal. Assumes nothing.
use Rattle.std.specs.Prelude.{ℕ, zero, suc, ◌+◌, ◌/◌, ◌%◌, cond, List, [], ◌∷◌, ◌++◌, ltb}
use Rattle.frames.specs.Message.{line_feed}

-- A number in decimal, its last so many places. 20 places hold every number of 64 bits.
unfoldable pub decimal_in : ℕ → ℕ → List ℕ
decimal_in zero n = []
decimal_in (suc places) n = cond (ltb n 10) ((48 + n) ∷ []) (decimal_in places (n / 10) ++ ((48 + n % 10) ∷ []))

unfoldable pub decimal : ℕ → List ℕ
decimal n = decimal_in 20 n

-- The letter n.
abbrev pub letter_n : ℕ
letter_n = 110

-- "`n` and the refusal's decimal number"
unfoldable pub refusal_line : ℕ → List ℕ
refusal_line number = letter_n ∷ (decimal number ++ (line_feed ∷ []))
