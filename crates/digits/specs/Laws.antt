-- What is proved of digits and fields, once and over the width. Callers use these and never the definitions' text. Assumes nothing.
use Rattle.std.specs.Prelude.{ℕ, zero, suc, ◌+◌, ◌-◌, ◌*◌, ◌/◌, ◌%◌, ◌^◌, ◌≤◌, ◌<◌, ◌≡◌, refl, Bool}
use Rattle.std.specs.Prelude.{true, false, not, ◌&&◌, ◌||◌, List, [], ◌∷◌, ◌++◌, eqb, leb, length, get_or, take, drop}
use Rattle.std.proofs.Common.{add-zero, add-suc, suc-add, div-one, pow-suc, mod-lt, mod-eq_of_lt, div-lt_iff_lt-mul, mul_comm, mul-le-mul_right, one-add, add-one, arith, sym, ap, ◌∙◌, subst}
use Rattle.std.proofs.Common.{append_assoc, append-nil, length-append, length-take, length-drop, drop_of_length-le, drop-cons, drop-drop, take-add, length-take-le, eqb-true, ltb-true}
use Rattle.std.proofs.Math.Nat.{pow-zero, div-div-eq-div-mul}
use Rattle.std.specs.Bool.{beq}
use Rattle.std.proofs.Math.Bool.{and-true, and_assoc}
use Rattle.std.proofs.Math.Arith.{digits_div, digits_mod, mod-mul}
use Rattle.std.proofs.Math.Seq.{split_at}
use Rattle.std.proofs.lemmas.Bool.{eqb-false}
use Rattle.digits.specs.Digits.{digits, digit, place, is_digit, worth, hex, big_endian, spelt, numeral, field, run, all_digits}
use Rattle.digits.specs.Tests.{and_left, and_right, and_both, or_right, beq-true, at_each}

-- ---- the sixteen characters

-- the tests and the sum that the code makes, at every byte: 0 to 9 are 48 to 57, a to f are 97 to 102
pub is_digit-by : (c : ℕ) → c < 256 → is_digit c ≡ ((leb 48 c && leb c 57) || (leb 97 c && leb c 102))
unfolding is_digit place
is_digit-by c h = beq-true _ _ (at_each (λ k. beq (is_digit k) ((leb 48 k && leb k 57) || (leb 97 k && leb k 102))) 256 refl c h)

pub worth-by : (c : ℕ) → c < 256 → is_digit c ≡ true → worth c ≡ c % 16 + c / 64 * 9
unfolding is_digit worth place
worth-by c h d =
    eqb-true _ _
    (or_right (is_digit c) (eqb (worth c) (c % 16 + c / 64 * 9)) d (at_each (λ k. not (is_digit k) || eqb (worth k) (k % 16 + k / 64 * 9)) 256 refl c h))

pub worth-digit : (n : ℕ) → n < 16 → worth (digit n) ≡ n
unfolding worth place digit
worth-digit n h = eqb-true _ _ (at_each (λ k. eqb (worth (digit k)) k) 16 refl n h)

pub digit-is : (n : ℕ) → n < 16 → is_digit (digit n) ≡ true
unfolding is_digit place digit
digit-is n h = at_each (λ k. is_digit (digit k)) 16 refl n h

pub worth-lt : (c : ℕ) → worth c < 16
unfolding worth
worth-lt c = omega arith

-- ---- a field is its high half and its low half

powers_pos : (w : ℕ) → 0 < 256 ^ w
powers_pos zero = omega arith
powers_pos (suc w) = rw pow-suc (omega (arith, powers_pos w))

pub big_endian_split : (a b n : ℕ) → big_endian (a + b) n ≡ big_endian a (n / 256 ^ b) ++ big_endian b n
unfolding big_endian
big_endian_split a zero n = rw (add-zero, pow-zero, div-one, append-nil)
big_endian_split a (suc b) n =
    rw (add-suc, big_endian_split a b (n / 256), div-div-eq-div-mul n 256 (256 ^ b), mul_comm 256 (256 ^ b), ← pow-suc 256 b)
    (append_assoc (big_endian a (n / 256 ^ suc b)) (big_endian b (n / 256)) (n % 256 ∷ []))

-- only the low w bytes of a number are written
pub big_endian-mod : (w n : ℕ) → big_endian w (n % 256 ^ w) ≡ big_endian w n
unfolding big_endian
big_endian-mod zero n = refl
big_endian-mod (suc w) n =
    rw (pow-suc, mod-mul n (powers_pos w) byte, digits_div (n / 256 % 256 ^ w) low, digits_mod (n / 256 % 256 ^ w) low)
    (rw (big_endian-mod w (n / 256)))
  where
    byte : 0 < 256
    byte = omega arith

    low : n % 256 < 256
    low = omega arith

pub hex-append : (a b : List ℕ) → hex (a ++ b) ≡ hex a ++ hex b
unfolding hex
hex-append [] b = refl
hex-append (x ∷ a) b = rw (hex-append a b)

-- The one fact of the widths: a field of w + w bytes is written as its high half and then its low half.
pub spelt_halves : (w n : ℕ) → spelt (w + w) n ≡ spelt w (n / 256 ^ w) ++ spelt w (n % 256 ^ w)
unfolding spelt
spelt_halves w n = rw (big_endian_split w w n, hex-append, big_endian-mod w n)

length-big_endian : (w n : ℕ) → length (big_endian w n) ≡ w
unfolding big_endian
length-big_endian zero n = refl
length-big_endian (suc w) n = simp (length-append, length-big_endian w (n / 256)) (omega arith)

length-hex : (bs : List ℕ) → length (hex bs) ≡ length bs + length bs
unfolding hex
length-hex [] = refl
length-hex (b ∷ bs) = omega (arith, length-hex bs)

pub length-spelt : (w n : ℕ) → length (spelt w n) ≡ w + w
unfolding spelt
length-spelt w n = rw (length-hex, length-big_endian)

numeral-append : (n : ℕ) (a b : List ℕ) → numeral n (a ++ b) ≡ numeral (numeral n a) b
unfolding numeral
numeral-append n [] b = refl
numeral-append n (c ∷ a) b = numeral-append (n * 16 + worth c) a b

numeral_shift : (n : ℕ) (a : List ℕ) → numeral n a ≡ n * 16 ^ length a + numeral 0 a
unfolding numeral
numeral_shift n [] = omega (arith, pow-zero 16)
numeral_shift n (c ∷ a) =
    rw (pow-suc 16 (length a))
    (omega (arith, numeral_shift (n * 16 + worth c) a, numeral_shift (0 * 16 + worth c) a))

-- a field of one byte is two digits
pub field_byte : (s : List ℕ) (at : ℕ) → at + 2 ≤ length s → field s at 1 ≡ worth (get_or s at 0) * 16 + worth (get_or s (at + 1) 0)
unfolding field numeral
field_byte s at h = rw (drop-cons s at 0 (omega arith), drop-cons s (suc at) 0 (omega arith), add-one at) (omega arith)

-- The same fact for reading: the number of w + w bytes is made of those of its halves.
pub field_halves : (s : List ℕ) (at w : ℕ) → at + (w + w) + (w + w) ≤ length s
    → field s at (w + w) ≡ field s at w * 16 ^ (w + w) + field s (at + (w + w)) w
unfolding field
field_halves s at w h =
    rw (take-add (w + w) (w + w) (drop at s), drop-drop (w + w) at s, numeral-append)
    (numeral_shift (numeral 0 (take (w + w) (drop at s))) (take (w + w) (drop (at + (w + w)) s))
    ∙ ap (λ (k : ℕ). numeral 0 (take (w + w) (drop at s)) * 16 ^ k + numeral 0 (take (w + w) (drop (at + (w + w)) s))) long)
  where
    long : length (take (w + w) (drop (at + (w + w)) s)) ≡ w + w
    long = simp (length-take, length-drop) (omega arith)

-- ---- reading what was written

-- a number that fits the width is read as it was written
pub numeral-spelt : (w n : ℕ) → n < 256 ^ w → numeral 0 (spelt w n) ≡ n
unfolding spelt big_endian hex numeral
numeral-spelt zero n h = omega (arith, pow-zero 256)
numeral-spelt (suc w) n h =
    rw (hex-append, numeral-append, numeral-spelt w (n / 256) high, worth-digit (n % 256 / 16) (omega arith), worth-digit (n % 256 % 16) (omega arith))
    (omega arith)
  where
    high : n / 256 < 256 ^ w
    high = (div-lt_iff_lt-mul {k = 256} {x = n} {y = 256 ^ w} (omega arith)).1 (rw (pow-suc 256 w) at h)

pub all_digits-append : (a b : List ℕ) → all_digits a ≡ true → all_digits b ≡ true → all_digits (a ++ b) ≡ true
unfolding all_digits
all_digits-append [] b p q = q
all_digits-append (c ∷ a) b p q =
    and_both (is_digit c) _ (and_left (is_digit c) _ p) (all_digits-append a b (and_right (is_digit c) _ p) q)

-- a field is written with digits alone
pub spelt-digits : (w n : ℕ) → all_digits (spelt w n) ≡ true
unfolding spelt big_endian hex all_digits
spelt-digits zero n = refl
spelt-digits (suc w) n =
    rw hex-append
    (all_digits-append (spelt w (n / 256)) _ (spelt-digits w (n / 256))
    (simp (digit-is (n % 256 / 16) (omega arith), digit-is (n % 256 % 16) (omega arith))))

-- ---- writing what was read

place_getD : (c : ℕ) (ds : List ℕ) → place c ds < length ds → get_or ds (place c ds) 0 ≡ c
unfolding place
place_getD c [] h = absurd (omega arith)
place_getD c (d ∷ ds) h = go (eqb c d) refl (place_getD c ds)
  where
    go : (b : Bool) → eqb c d ≡ b → (place c ds < length ds → get_or ds (place c ds) 0 ≡ c) → get_or (d ∷ ds) (place c (d ∷ ds)) 0 ≡ c
    go true e rest = rw e (sym (eqb-true c d e))
    go false e rest = rw e (rest (omega (arith, rw e at h)))

digit-worth : (c : ℕ) → is_digit c ≡ true → digit (worth c) ≡ c
unfolding digit worth is_digit
digit-worth c h = rw (mod-eq_of_lt (ltb-true _ _ h)) (place_getD c digits (ltb-true _ _ h))

sixteens : (w : ℕ) → 16 ^ (w + w) ≡ 256 ^ w
sixteens zero = refl
sixteens (suc w) = rw (suc-add, add-suc, pow-suc 16 (suc (w + w)), pow-suc 16 (w + w), pow-suc 256 w, sixteens w) (omega arith)

numeral-lt : (ds : List ℕ) → numeral 0 ds < 16 ^ length ds
unfolding numeral
numeral-lt [] = omega arith
numeral-lt (c ∷ ds) =
    rw (numeral_shift (0 * 16 + worth c) ds, pow-suc 16 (length ds))
    (omega (arith, numeral-lt ds, mul-le-mul_right (16 ^ length ds) (worth-lt c)))

-- the highest byte first
pub big_endian-front : (w n : ℕ) → big_endian (suc w) n ≡ n / 256 ^ w % 256 ∷ big_endian w n
unfolding big_endian
big_endian-front w n = ap (λ (k : ℕ). big_endian k n) (sym (one-add w)) ∙ big_endian_split 1 w n

-- a byte in front of w bytes is written in front of them
spelt-front : (w b r : ℕ) → b < 256 → r < 256 ^ w → spelt (suc w) (b * 256 ^ w + r) ≡ digit (b / 16) ∷ digit (b % 16) ∷ spelt w r
unfolding spelt hex
spelt-front w b r hb hr =
    rw (big_endian-front w (b * 256 ^ w + r), ← big_endian-mod w (b * 256 ^ w + r), digits_div b hr, digits_mod b hr, mod-eq_of_lt hb)

-- digits are written as they were read
pub spelt-numeral : (w : ℕ) (ds : List ℕ) → length ds ≡ w + w → all_digits ds ≡ true → spelt w (numeral 0 ds) ≡ ds
unfolding all_digits numeral spelt big_endian hex
spelt-numeral zero [] h d = refl
spelt-numeral zero (c ∷ ds) h d = absurd (omega arith)
spelt-numeral (suc w) [] h d = absurd (omega (arith, suc-add w (suc w)))
spelt-numeral (suc w) (c ∷ []) h d = absurd (omega (arith, suc-add w (suc w), add-suc w w))
spelt-numeral (suc w) (c ∷ e ∷ ds) h d =
    rw (numeral_shift ((0 * 16 + worth c) * 16 + worth e) ds, long, sixteens w)
    (spelt-front w ((0 * 16 + worth c) * 16 + worth e) (numeral 0 ds) (omega (arith, worth-lt c, worth-lt e)) low
    ∙ rw (
      high,
      last,
      digit-worth c (and_left (is_digit c) _ d),
      digit-worth e (and_left (is_digit e) _ (and_right (is_digit c) _ d)),
      spelt-numeral w ds long (and_right (is_digit e) _ (and_right (is_digit c) _ d)),
    ))
  where
    high : ((0 * 16 + worth c) * 16 + worth e) / 16 ≡ worth c
    high = omega (arith, worth-lt e)

    last : ((0 * 16 + worth c) * 16 + worth e) % 16 ≡ worth e
    last = omega (arith, worth-lt e)

    long : length ds ≡ w + w
    long = omega (arith, suc-add w (suc w), add-suc w w)

    low : numeral 0 ds < 256 ^ w
    low = rw (long, sixteens w) at (numeral-lt ds)

-- ---- how many digits a text begins with

pub run-le : (s : List ℕ) → run s ≤ length s
unfolding run
run-le [] = omega arith
run-le (c ∷ s) = go (is_digit c) refl (run-le s)
  where
    go : (b : Bool) → is_digit c ≡ b → run s ≤ length s → run (c ∷ s) ≤ suc (length s)
    go true e rest = rw e (omega arith)
    go false e rest = rw e (omega arith)

-- what stands in the run is a digit
pub run_at : (s : List ℕ) (i : ℕ) → i < run s → is_digit (get_or s i 0) ≡ true
unfolding run
run_at [] i h = absurd (omega arith)
run_at (c ∷ s) zero h = go (is_digit c) refl h
  where
    go : (b : Bool) → is_digit c ≡ b → 0 < run (c ∷ s) → is_digit c ≡ true
    go true e l = e
    go false e l = absurd (omega (arith, rw e at l))
run_at (c ∷ s) (suc i) h = go (is_digit c) refl (run_at s i)
  where
    go : (b : Bool) → is_digit c ≡ b → (i < run s → is_digit (get_or s i 0) ≡ true) → is_digit (get_or s i 0) ≡ true
    go true e rest = rest (omega (arith, rw e at h))
    go false e rest = absurd (omega (arith, rw e at h))

all_digits-suc : (s : List ℕ) (i : ℕ) → i < length s → all_digits (take (suc i) s) ≡ (all_digits (take i s) && is_digit (get_or s i 0))
unfolding all_digits
all_digits-suc [] i h = absurd (omega arith)
all_digits-suc (c ∷ s) zero h = and-true (is_digit c)
all_digits-suc (c ∷ s) (suc i) h =
    rw (all_digits-suc s i (omega arith)) (sym (and_assoc (is_digit c) (all_digits (take i s)) (is_digit (get_or s i 0))))

pub all_digits_more : (s : List ℕ) (i : ℕ) → i < length s → all_digits (take (i + 1) s) ≡ (all_digits (take i s) && is_digit (get_or s i 0))
all_digits_more s i h = rw (add-one i) (all_digits-suc s i h)

-- the digits that a text begins with are digits
pub run-digits : (s : List ℕ) → all_digits (take (run s) s) ≡ true
unfolding run all_digits
run-digits [] = refl
run-digits (c ∷ s) = go (is_digit c) refl (run-digits s)
  where
    go : (b : Bool) → is_digit c ≡ b → all_digits (take (run s) s) ≡ true → all_digits (take (run (c ∷ s)) (c ∷ s)) ≡ true
    go true e rest = simp e rest
    go false e rest = simp e

-- digits that a line feed ends are the digits that the text begins with
pub run-line : (ds : List ℕ) → all_digits ds ≡ true → (rest : List ℕ) → run (ds ++ (10 ∷ rest)) ≡ length ds
unfolding run all_digits is_digit place
run-line [] d rest = refl
run-line (c ∷ ds) d rest = rw (and_left (is_digit c) _ d, run-line ds (and_right (is_digit c) _ d) rest)

-- digits up to a place and a line feed there: the run ends at that place
run-there : (s : List ℕ) (n : ℕ) → length s ≡ n + 1 → all_digits (take n s) ≡ true → get_or s n 0 ≡ 10 → run s ≡ n
run-there s n l d e =
    ap run whole ∙ run-line (take n s) d [] ∙ length-take-le n s (omega arith)
  where
    whole : s ≡ take n s ++ (10 ∷ [])
    whole = split_at s n 0 (omega arith) ∙ rw (e, drop_of_length-le s {i = suc n} (omega arith))

-- a text is one line exactly when all but the last of its characters are digits and the last is a line feed
pub run_ends : (s : List ℕ) (n : ℕ) → length s ≡ n + 1
    → (eqb (run s + 1) (length s) && eqb (get_or s (run s) 0) 10) ≡ (all_digits (take n s) && eqb (get_or s n 0) 10)
run_ends s n l = go (eqb (run s + 1) (length s)) refl (all_digits (take n s)) refl (eqb (get_or s n 0) 10) refl
  where
    go : (a : Bool) → eqb (run s + 1) (length s) ≡ a → (b : Bool) → all_digits (take n s) ≡ b → (c : Bool) → eqb (get_or s n 0) 10 ≡ c
        → (eqb (run s + 1) (length s) && eqb (get_or s (run s) 0) 10) ≡ (all_digits (take n s) && eqb (get_or s n 0) 10)
    go true p b q c r =
        let there : run s ≡ n = omega (arith, eqb-true (run s + 1) (length s) p) in
        let digits : all_digits (take n s) ≡ true = rw there at (run-digits s) in
        rw (p, digits, there)
    go false p true q true r =
        absurd (eqb-false (run s + 1) (length s) p (omega (arith, run-there s n l q (eqb-true (get_or s n 0) 10 r))))
    go false p true q false r = rw (p, q, r)
    go false p false q c r = rw (p, q)

-- ---- a part of a text's digits, and a field read off it

-- each of two parts of digits is digits
pub all_digits-left : (a b : List ℕ) → all_digits (a ++ b) ≡ true → all_digits a ≡ true
unfolding all_digits
all_digits-left [] b d = refl
all_digits-left (c ∷ a) b d = and_both (is_digit c) _ (and_left (is_digit c) _ d) (all_digits-left a b (and_right (is_digit c) _ d))

pub all_digits-right : (a b : List ℕ) → all_digits (a ++ b) ≡ true → all_digits b ≡ true
unfolding all_digits
all_digits-right [] b d = d
all_digits-right (c ∷ a) b d = all_digits-right a b (and_right (is_digit c) _ d)

module _ (s : List ℕ) (at : ℕ) where
  -- any part of the digits that a text begins with is digits
  pub within-digits : (n : ℕ) → at + n ≤ run s → all_digits (take n (drop at s)) ≡ true
  within-digits n h =
      all_digits-left _ _
      (rw take-add at (all_digits-right (take at s) _ (rw take-add at front)))
    where
      split : run s ≡ at + (n + (run s - at - n))
      split = omega arith

      front : all_digits (take (at + (n + (run s - at - n))) s) ≡ true
      front = subst (λ (k : ℕ). all_digits (take k s) ≡ true) split (run-digits s)

  module _ (w : ℕ) (h : at + (w + w) ≤ run s) where
    -- a field among the digits is written as it stands there
    pub spelt-field : spelt w (field s at w) ≡ take (w + w) (drop at s)
    unfolding field
    spelt-field =
        spelt-numeral w (take (w + w) (drop at s)) (simp (length-take, length-drop) (omega (arith, run-le s))) (within-digits (w + w) h)

    -- and its number fits its bytes: it is the number that w bytes of it spell
    pub field_lt : field s at w < 256 ^ w
    unfolding field spelt
    field_lt = rw (← low) (mod-lt _ pos)
      where
        pos : 0 < 256 ^ w
        pos = powers_pos w

        low : field s at w % 256 ^ w ≡ field s at w
        low =
            sym (numeral-spelt w (field s at w % 256 ^ w) (mod-lt _ pos))
            ∙ rw (big_endian-mod w (field s at w)) (ap (numeral 0) spelt-field)
