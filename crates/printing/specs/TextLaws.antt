-- What the code's proofs use of texts: one put at a place, a number's places, the line of a refusal. Assumes nothing.
use Rattle.std.specs.Prelude.{ℕ, zero, suc, ◌+◌, ◌-◌, ◌/◌, ◌%◌, ◌^◌, ◌≤◌, ◌<◌, ◌≡◌}
use Rattle.std.specs.Prelude.{refl, Bool, true, false, cond, List, [], ◌∷◌, ◌++◌, ltb, length, set, take, drop}
use Rattle.std.proofs.Common.{arith, ◌∙◌, length-append, length-drop, take_at, ltb-true, lt-ltb, le-ltb, pow-suc, div-lt_iff_lt-mul, ap}
use Rattle.std.proofs.Math.Seq.{take-length}
use Rattle.std.specs.Fmt as library
use Rattle.std.proofs.lemmas.Bool.{ltb-false}
use Rattle.std.proofs.lemmas.Fmt.{decimal_digit, decimal_step}
use Rattle.digits.specs.Room.{over}
use Rattle.digits.specs.RoomLaws.{length_over, over_nothing, over-over}
use Rattle.frames.specs.Message.{line_feed}
use Rattle.frames.specs.WritingLaws.{stored_one}
use Rattle.printing.specs.Text.{letter_n, decimal_in, decimal, refusal_line}
use Rattle.printing.specs.Putting.{Puts}

-- what is lent from a place on is all that is left
pub rest-whole : (s : List ℕ) (at : ℕ) → take (length s - at) (drop at s) ≡ drop at s
rest-whole s at = rw (← length-drop at s) (take-length (drop at s))

-- ---- a text put at a place

-- all of it
pub put_all : (s : List ℕ) (i : ℕ) → i ≡ length s → take i s ≡ s
put_all s i e = rw e (take-length s)

-- what was written at the start is read back
pub taken_back : (d s : List ℕ) → take (length s) (over d 0 s) ≡ s
unfolding over
taken_back d s = take_at s (drop (0 + length s) d) (length s) refl

-- one character behind a text
pub put-behind : {d s d₁ : List ℕ} {at end : ℕ} (c : ℕ) → end < length d → Puts d at s end d₁ → Puts d at (s ++ (c ∷ [])) (end + 1) (set d₁ end c)
put-behind {d} {s} {d₁} {at} {end} c h p =
    record { behind = rw (length-append s (c ∷ [])) (omega (arith, p.behind)); holds = holds }
  where
    long : length (over d at s) ≡ length d
    long = length_over d at s (omega (arith, p.behind))

    holds : set d₁ end c ≡ over d at (s ++ (c ∷ []))
    holds =
        rw (p.holds, p.behind, stored_one (over d at s) (at + length s) c (omega (arith, p.behind, long)))
        (over-over d at s (c ∷ []) (omega (arith, p.behind)))

-- two texts, one behind the other
pub put_both : {d a b d₁ d₂ : List ℕ} {at mid end : ℕ} → at + length a + length b ≤ length d → Puts d at a mid d₁ → Puts d₁ mid b end d₂
    → Puts d at (a ++ b) end d₂
put_both {d} {a} {b} {at = at} h p q =
    record {
      behind = rw (length-append a b) (omega (arith, p.behind, q.behind));
      holds = q.holds ∙ rw (p.holds, p.behind) (over-over d at a b h);
    }

-- ---- a number's places

pub decimal-long : (places n : ℕ) → length (decimal_in places n) ≤ places
unfolding decimal_in
decimal-long zero n = omega arith
decimal-long (suc places) n = go (ltb n 10) (decimal-long places (n / 10))
  where
    go : (b : Bool) → length (decimal_in places (n / 10)) ≤ places
        → length (cond b ((48 + n) ∷ []) (decimal_in places (n / 10) ++ ((48 + n % 10) ∷ []))) ≤ suc places
    go true h = omega arith
    go false h = rw (length-append (decimal_in places (n / 10)) ((48 + n % 10) ∷ [])) (omega (arith, h))

-- no places left: nothing
pub decimal-none : (d : List ℕ) (at places n : ℕ) → places ≡ 0 → Puts d at (decimal_in places n) at d
unfolding decimal_in
decimal-none d at places n e = rw e (record { behind = omega arith; holds = over_nothing d at })

-- a number of one place
one_place : (places n : ℕ) → 1 ≤ places → n < 10 → decimal_in places n ≡ (48 + n) ∷ []
unfolding decimal_in
one_place zero n p h = absurd (omega arith)
one_place (suc places) n p h = rw (lt-ltb n 10 h)

pub decimal-one : (d : List ℕ) (at places n : ℕ) → 1 ≤ places → n < 10 → at < length d → Puts d at (decimal_in places n) (at + 1) (set d at (48 + n))
decimal-one d at places n p h k = rw (one_place places n p h) (record { behind = omega arith; holds = stored_one d at (48 + n) k })

-- a longer one: the places of its tenth, and its last
more_places : (places n : ℕ) → 1 ≤ places → 10 ≤ n → decimal_in places n ≡ decimal_in (places - 1) (n / 10) ++ ((48 + n % 10) ∷ [])
unfolding decimal_in
more_places zero n p h = absurd (omega arith)
more_places (suc places) n p h = rw (le-ltb n 10 h, ← below)
  where
    below : places ≡ suc places - 1
    below = omega arith

pub decimal_more : (d : List ℕ) {d₁ : List ℕ} (at places n : ℕ) {end : ℕ} → 1 ≤ places → 10 ≤ n → end < length d
    → Puts d at (decimal_in (places - 1) (n / 10)) end d₁ → Puts d at (decimal_in places n) (end + 1) (set d₁ end (48 + n % 10))
decimal_more d at places n p h k e = rw (more_places places n p h) (put-behind (48 + n % 10) k e)

-- The library's decimal is the definition's, where the places hold the number: digit by digit, as both are told.
library_in : (places n : ℕ) → n < 10 ^ suc places → n < 2 ^ 64 → library.decimal n ≡ decimal_in (suc places) n
unfolding decimal_in
library_in zero n h k = rw (lt-ltb n 10 (omega arith)) (decimal_digit n (omega arith))
library_in (suc places) n h k = go (ltb n 10) refl (library_in places (n / 10) tenth (omega arith))
  where
    tenth : n / 10 < 10 ^ suc places
    tenth = (div-lt_iff_lt-mul {k = 10} {x = n} {y = 10 ^ suc places} (omega arith)).1 (rw (pow-suc 10 (suc places)) at h)

    go : (b : Bool) → ltb n 10 ≡ b → library.decimal (n / 10) ≡ decimal_in (suc places) (n / 10)
        → library.decimal n ≡ cond b ((48 + n) ∷ []) (decimal_in (suc places) (n / 10) ++ ((48 + n % 10) ∷ []))
    go true e rest = decimal_digit n (ltb-true n 10 e)
    go false e rest = decimal_step n (ltb-false n 10 e) k ∙ ap (λ (ds : List ℕ). ds ++ ((48 + n % 10) ∷ [])) rest

pub library-decimal : (n : ℕ) → n < 2 ^ 64 → library.decimal n ≡ decimal n
unfolding decimal
library-decimal n h = library_in 19 n (omega arith) h

-- ---- the line of a refusal

refusal-long : (number : ℕ) → length (refusal_line number) ≡ 2 + length (decimal_in 20 number)
unfolding refusal_line decimal
refusal-long number = rw (length-append (decimal_in 20 number) (line_feed ∷ [])) (omega arith)

pub refusal-most : (number : ℕ) → length (refusal_line number) ≤ 22
refusal-most number = omega (arith, refusal-long number, decimal-long 20 number)

-- the letter, the number behind it, the line feed behind both
pub refusal-put : (d : List ℕ) {d₁ : List ℕ} (number : ℕ) {end : ℕ} → 22 ≤ length d → Puts (set d 0 letter_n) 1 (decimal number) end d₁
    → Puts d 0 (refusal_line number) (end + 1) (set d₁ end line_feed)
unfolding refusal_line decimal
refusal-put d {d₁} number {end} h p = put-behind line_feed (omega (arith, p.behind, decimal-long 20 number)) (put_both room first p)
  where
    room : 0 + length (letter_n ∷ []) + length (decimal_in 20 number) ≤ length d
    room = omega (arith, decimal-long 20 number)

    first : Puts d 0 (letter_n ∷ []) 1 (set d 0 letter_n)
    first = record { behind = omega arith; holds = stored_one d 0 letter_n (omega arith) }
