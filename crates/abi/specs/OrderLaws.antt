-- What is proved of an order's bytes: each way undoes the other, and a frame shows the bytes as they stand. Over the width. Assumes nothing.
use Rattle.std.specs.Int.{byte_at, bytes_high_first}
use Rattle.std.specs.Prelude.{ℕ, zero, suc, ◌/◌, ◌%◌, ◌^◌, ◌≤◌, ◌<◌, ◌≡◌, refl, List, [], ◌∷◌, ◌++◌, length, get_or, take}
use Rattle.std.proofs.Common.{div-one, pow-suc, div-lt_iff_lt-mul, arith, sym, ap, ◌∙◌, length-append, take-suc, take_all}
use Rattle.std.proofs.Math.Nat.{pow-zero}
use Rattle.std.proofs.Math.Arith.{digits_div, digits_mod}
use Rattle.std.proofs.Math.ListN.{get_or-append}
use Rattle.std.proofs.lemmas.List.{get_or_at}
use Rattle.digits.specs.Digits.{hex, big_endian, spelt}
use Rattle.digits.specs.Laws.{big_endian-front}
use Rattle.abi.specs.Orders.{number, order_of, bytes_of, EightBytes}

-- ---- there and back

-- bytes that were read as a number are written as they stood
big_endian-number : (w : ℕ) (bytes : List ℕ) → w ≤ length bytes → ((i : ℕ) → get_or bytes i 0 < 256) → big_endian w (number w bytes) ≡ take w bytes
unfolding big_endian
big_endian-number zero bytes h small = refl
big_endian-number (suc w) bytes h small =
    rw (digits_div (number w bytes) (small w), digits_mod (number w bytes) (small w), big_endian-number w bytes (omega arith) small)
    (sym (take-suc bytes w 0 h))

-- a field of w bytes has w bytes
length-big_endian : (w n : ℕ) → length (big_endian w n) ≡ w
unfolding big_endian
length-big_endian zero n = refl
length-big_endian (suc w) n = simp (length-append, length-big_endian w (n / 256)) (omega arith)

-- what stands behind the bytes is not read
number-front : (w : ℕ) (a b : List ℕ) → w ≤ length a → number w (a ++ b) ≡ number w a
number-front zero a b h = refl
number-front (suc w) a b h = rw (number-front w a b (omega arith), get_or-append a b 0 w h)

-- a number that fits the width is read as it was written
number-big_endian : (w n : ℕ) → n < 256 ^ w → number w (big_endian w n) ≡ n
unfolding big_endian
number-big_endian zero n h = omega (arith, pow-zero 256)
number-big_endian (suc w) n h =
    rw (
      number-front w (big_endian w (n / 256)) (n % 256 ∷ []) (omega (arith, length-big_endian w (n / 256))),
      number-big_endian w (n / 256) high,
      get_or_at (big_endian w (n / 256)) (n % 256) [] 0 w (length-big_endian w (n / 256)),
    )
    (omega arith)
  where
    high : n / 256 < 256 ^ w
    high = (div-lt_iff_lt-mul {k = 256} {x = n} {y = 256 ^ w} (omega arith)).1 (rw (pow-suc 256 w) at h)

-- Each way undoes the other: 8 bytes are those of the order that they are, and a number below 2^64 is the order of its bytes.
pub bytes-again : (bytes : List ℕ) → EightBytes bytes → bytes_of (order_of bytes) ≡ bytes
bytes-again bytes e = big_endian-number 8 bytes (omega (arith, e.long)) e.small ∙ take_all 8 bytes (omega (arith, e.long))

pub order-again : (order : ℕ) → order < 18446744073709551616 → order_of (bytes_of order) ≡ order
order-again order h = number-big_endian 8 order h

-- A frame's field shows an order's 8 bytes as they stand, two digits a byte: so it is by the field's own definition, and who gives 8 bytes finds those there.
pub field-of-order : (order : ℕ) → spelt 8 order ≡ hex (bytes_of order)
unfolding spelt
field-of-order order = refl

pub field-of-bytes : (bytes : List ℕ) → EightBytes bytes → spelt 8 (order_of bytes) ≡ hex bytes
field-of-bytes bytes e = field-of-order (order_of bytes) ∙ ap hex (bytes-again bytes e)

-- ---- the bytes as the library writes them, the highest first

pub written-high_first : (w n : ℕ) → bytes_high_first w n ≡ big_endian w n
unfolding big_endian
written-high_first zero n = refl
written-high_first (suc w) n = rw (big_endian-front w n, ← written-high_first w n) (highest w)
  where
    highest : (w : ℕ) → byte_at w n ∷ bytes_high_first w n ≡ n / 256 ^ w % 256 ∷ bytes_high_first w n
    highest zero = rw (pow-zero, div-one)
    highest (suc w) = refl
