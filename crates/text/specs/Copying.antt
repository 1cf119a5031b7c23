-- Numbers copied one by one into a list, from a place on. Assumes nothing.
use Rattle.std.specs.Prelude.{ℕ, ◌+◌, ◌<◌, ◌≡◌, List, [], ◌∷◌, length, get_or, set, take}
use Rattle.std.proofs.Common.{zero-add, add-one, arith, sym, ap, ◌∙◌, take-suc, length-take-le}
use Rattle.digits.specs.Room.{over}
use Rattle.digits.specs.RoomLaws.{length_over, over_nothing, over-over}
use Rattle.frames.specs.WritingLaws.{stored_one}

-- one more is copied,
pub copied_next : (d s : List ℕ) {d₁ : List ℕ} (at i : ℕ) → at + i < length d → i < length s → d₁ ≡ over d at (take i s)
    → set d₁ (at + i) (get_or s i 0) ≡ over d at (take (i + 1) s)
copied_next d s at i h k e =
    rw (e, add-one i, take-suc s i 0 k, stored_one (over d at (take i s)) (at + i) (get_or s i 0) (omega (arith, length_over d at (take i s) (omega (arith, long)))))
    (ap (λ (n : ℕ). over (over d at (take i s)) (at + n) (get_or s i 0 ∷ [])) (sym long) ∙ over-over d at (take i s) (get_or s i 0 ∷ []) (omega (arith, long)))
  where
    long : length (take i s) ≡ i
    long = length-take-le i s (omega arith)

-- at the start of the list: none,
pub copy_none : (d l : List ℕ) → d ≡ over d 0 (take 0 l)
copy_none d l = over_nothing d 0

-- and one more
pub copy_next : (d l : List ℕ) {d₁ : List ℕ} (i : ℕ) → i < length d → i < length l → d₁ ≡ over d 0 (take i l)
    → set d₁ i (get_or l i 0) ≡ over d 0 (take (i + 1) l)
copy_next d l i h k e = rw zero-add at (copied_next d l 0 i (omega arith) k e)
