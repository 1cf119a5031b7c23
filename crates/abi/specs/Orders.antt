-- An order is "any 8 bytes". Where C and Rust hand it over as a number, the first byte is the highest, as in a frame's field. Assumes nothing.
use Rattle.std.specs.Prelude.{ℕ, zero, suc, ◌+◌, ◌*◌, ◌<◌, ◌≡◌, List, length, get_or}
use Rattle.digits.specs.Digits.{big_endian}

-- The number that the first w of some bytes are: the way back from `big_endian`.
abbrev pub number : ℕ → List ℕ → ℕ
number zero bytes = 0
number (suc w) bytes = number w bytes * 256 + get_or bytes w 0

-- The order that 8 bytes are, and the 8 bytes that an order is.
abbrev pub order_of : List ℕ → ℕ
order_of bytes = number 8 bytes

abbrev pub bytes_of : ℕ → List ℕ
bytes_of order = big_endian 8 order

-- Any 8 bytes, for the laws: what a caller lends is always that.
pub record EightBytes (bytes : List ℕ) : Type 0 where
  pub long : length bytes ≡ 8
  pub small : (i : ℕ) → get_or bytes i 0 < 256
