-- What is proved of room that a caller lends. Assumes nothing.
use Rattle.std.specs.Prelude.{ℕ, ◌+◌, ◌/◌, ◌%◌, ◌^◌, ◌≤◌, ◌<◌, ◌≡◌, List, [], ◌∷◌, ◌++◌, length, take, drop, set}
use Rattle.std.proofs.Common.{add-zero, add_assoc, mod-eq_of_lt, add-one, arith, sym, ◌∙◌, append_assoc, append-nil}
use Rattle.std.proofs.Common.{length-append, length-take, length-drop, take-append-drop, take_at, drop-drop}
use Rattle.std.proofs.Math.Seq.{drop-append-add}
use Rattle.std.proofs.lemmas.List.Edits.{sets-eq}
use Rattle.digits.specs.Digits.{digit, hex, big_endian, spelt}
use Rattle.digits.specs.Room.{over}
use Rattle.digits.specs.Laws.{spelt_halves, length-spelt}

-- what is written stays within the room
pub length_over : (d : List ℕ) (at : ℕ) (s : List ℕ) → at + length s ≤ length d → length (over d at s) ≡ length d
unfolding over
length_over d at s h = simp (length-append, length-take, length-drop) (omega arith)

-- nothing written
pub over_nothing : (d : List ℕ) (at : ℕ) → d ≡ over d at []
unfolding over
over_nothing d at = rw (append-nil, add-zero) (sym (take-append-drop at d))

-- two texts written one behind the other are one text
pub over-over : (d : List ℕ) (at : ℕ) (a b : List ℕ) → at + length a + length b ≤ length d
    → over (over d at a) (at + length a) b ≡ over d at (a ++ b)
unfolding over
over-over d at a b h =
    rw (
      take_at (take at d ++ a) (drop (at + length a) d) (at + length a) front,
      ← front,
      drop-append-add (take at d ++ a) (drop (length (take at d ++ a)) d) (length b),
      drop-drop,
      front,
      length-append a b,
      append_assoc (take at d) a b,
    )
    (rw (← add_assoc at (length a) (length b)))
  where
    front : length (take at d ++ a) ≡ at + length a
    front = simp (length-append, length-take) (omega arith)

-- one byte's two digits, stored one after the other
pub stored_byte : (d : List ℕ) (at n : ℕ) → n < 256 → at + 2 ≤ length d
    → set (set d at (digit (n / 16))) (at + 1) (digit (n % 16)) ≡ over d at (spelt 1 n)
unfolding over spelt hex big_endian
stored_byte d at n b h = rw (add-one at, mod-eq_of_lt b) (sets-eq (digit (n / 16) ∷ digit (n % 16) ∷ []) d at h)

-- a field whose high half and then low half were written
pub stored_halves : (w : ℕ) (d : List ℕ) {d₁ d₂ : List ℕ} (at n : ℕ) → at + (w + w) + (w + w) ≤ length d
    → d₁ ≡ over d at (spelt w (n / 256 ^ w)) → d₂ ≡ over d₁ (at + (w + w)) (spelt w (n % 256 ^ w)) → d₂ ≡ over d at (spelt (w + w) n)
stored_halves w d {d₁} {d₂} at n h p q =
    q ∙ rw (p, spelt_halves w n, ← length-spelt w (n / 256 ^ w))
    (over-over d at (spelt w (n / 256 ^ w)) (spelt w (n % 256 ^ w))
    (omega (arith, length-spelt w (n / 256 ^ w), length-spelt w (n % 256 ^ w))))
