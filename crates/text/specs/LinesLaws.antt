-- What is proved of where a line ends. Assumes nothing.
use Rattle.std.specs.Prelude.{ℕ, zero, suc, ◌+◌, ◌-◌, ◌*◌, ◌/◌, ◌≤◌, ◌<◌, ◌≡◌, refl, Bool, true}
use Rattle.std.specs.Prelude.{false, cond, not, Some, None, ◌&&◌, List, [], ◌∷◌, eqb, ltb, length, get_or, take, drop}
use Rattle.std.proofs.Common.{add-zero, zero-add, add_assoc, add-one, arith, sym, subst, ◌∙◌, length-drop, drop-drop, drop_of_length-le, drop-cons, get_or-drop, eqb-true, eq-eqb, ne_eqb}
use Rattle.std.proofs.Math.Path.{ap}
use Rattle.std.proofs.Math.Bool.{and-true, and_assoc}
use Rattle.std.proofs.lemmas.Bool.{eqb-false, ltb-false, not-true}
use Rattle.std.specs.List.{prefix_len, take_while, position, position_or_len}
use Rattle.std.specs.Simd.{first_chunks}
use Rattle.std.proofs.lemmas.List.Folds.{length-prefix_len}
use Rattle.std.proofs.lemmas.List.Quantifiers.{position-Some}
use Rattle.std.proofs.lemmas.List.Sums.{fails_before_first}
use Rattle.digits.specs.Tests.{and_left, and_right}
use Rattle.frames.specs.Message.{line_feed}
use Rattle.text.specs.Lines.{first_line, has_none, further, Passed}

-- ---- the first line

-- it lies within the bytes
pub first-most : (bytes : List ℕ) → first_line bytes ≤ length bytes
unfolding first_line
first-most [] = omega arith
first-most (b ∷ bytes) = go (eqb b line_feed) (eqb (first_line bytes) 0) (first-most bytes)
  where
    go : (x y : Bool) → first_line bytes ≤ length bytes → cond x 1 (cond y 0 (suc (first_line bytes))) ≤ suc (length bytes)
    go true y l = omega arith
    go false true l = omega arith
    go false false l = omega arith

-- so it ends within them
pub end_inside : (bytes : List ℕ) {at end : ℕ} → at ≤ length bytes → end ≡ at + first_line (drop at bytes) → end ≤ length bytes
end_inside bytes {at} h e = omega (arith, h, e, first-most (drop at bytes), length-drop at bytes)

-- a line feed ends it
first-here : (bytes : List ℕ) (i : ℕ) → i < length bytes → get_or bytes i 0 ≡ line_feed → first_line (drop i bytes) ≡ 1
unfolding first_line
first-here bytes i h e = rw (drop-cons bytes i 0 h, eq-eqb (get_or bytes i 0) line_feed e)

-- past the end there is none
first_past : (bytes : List ℕ) (i : ℕ) → length bytes ≤ i → first_line (drop i bytes) ≡ 0
unfolding first_line
first_past bytes i h = rw (drop_of_length-le bytes {i = i} h)

-- ---- what has no line feed is passed

further-none : (m : ℕ) → m ≡ further 0 m
unfolding further
further-none m = go (eqb m 0) refl
  where
    go : (b : Bool) → eqb m 0 ≡ b → m ≡ cond b 0 (0 + m)
    go true e = eqb-true m 0 e
    go false e = omega arith

-- a byte that is no line feed
further-next : (bytes : List ℕ) (i k : ℕ) → i < length bytes → (get_or bytes i 0 ≡ line_feed → ⊥)
    → further k (first_line (drop i bytes)) ≡ further (k + 1) (first_line (drop (i + 1) bytes))
unfolding further first_line
further-next bytes i k h n =
    rw (drop-cons bytes i 0 h, ne_eqb (get_or bytes i 0) line_feed n, add-one i)
    (go (eqb (first_line (drop (suc i) bytes)) 0))
  where
    go : (b : Bool) → cond (eqb (cond b 0 (suc (first_line (drop (suc i) bytes)))) 0) 0 (k + cond b 0 (suc (first_line (drop (suc i) bytes))))
        ≡ cond b 0 (k + 1 + first_line (drop (suc i) bytes))
    go true = refl
    go false = rw (ne_eqb (suc (first_line (drop (suc i) bytes))) 0 (λ e. omega arith)) (omega arith)

-- none is passed yet
pub passed_none : (bytes : List ℕ) (at : ℕ) → at ≤ length bytes → Passed bytes at at
passed_none bytes at h =
    let none : 0 ≡ at - at = omega arith in
    record {
      from = omega arith;
      inside = h;
      same = further-none _ ∙ ap (λ (k : ℕ). further k (first_line (drop at bytes))) none;
    }

module _ {bytes : List ℕ} {at i : ℕ} (p : Passed bytes at i) where
  -- a byte more
  pub passed_next : i < length bytes → (get_or bytes i 0 ≡ line_feed → ⊥) → Passed bytes at (i + 1)
  passed_next h n =
      let one : i - at + 1 ≡ i + 1 - at = omega (arith, p.from) in
      record {
        from = omega (arith, p.from);
        inside = omega arith;
        same = p.same ∙ further-next bytes i (i - at) h n ∙ ap (λ (k : ℕ). further k (first_line (drop (i + 1) bytes))) one;
      }

  -- the line feed is here
  pub passed_here : i < length bytes → get_or bytes i 0 ≡ line_feed → i + 1 ≡ at + first_line (drop at bytes)
  unfolding further
  passed_here h e =
      let found : first_line (drop at bytes) ≡ i - at + 1 = p.same ∙ ap (further (i - at)) (first-here bytes i h e) in
      omega (arith, p.from, found)

  -- all bytes are passed
  pub passed_all : length bytes ≤ i → at ≡ at + first_line (drop at bytes)
  unfolding further
  passed_all h =
      let none : first_line (drop at bytes) ≡ 0 = p.same ∙ ap (further (i - at)) (first_past bytes i h) in
      omega (arith, none)

-- ---- sixteen at a time

-- what is not among the first bytes, and is not the next
has_none-suc : (s : List ℕ) (i : ℕ) → i < length s → has_none (take (suc i) s) ≡ (has_none (take i s) && not (eqb (get_or s i 0) line_feed))
unfolding has_none
has_none-suc [] i h = absurd (omega arith)
has_none-suc (b ∷ s) zero h = and-true (not (eqb b line_feed))
has_none-suc (b ∷ s) (suc i) h =
    rw (has_none-suc s i (omega arith)) (sym (and_assoc (not (eqb b line_feed)) (has_none (take i s)) (not (eqb (get_or s i 0) line_feed))))

pub has_none_more : (s : List ℕ) (i : ℕ) → i < length s → has_none (take (i + 1) s) ≡ (has_none (take i s) && not (eqb (get_or s i 0) line_feed))
has_none_more s i h = rw (add-one i) (has_none-suc s i h)

pub has_none_more-behind : (bytes : List ℕ) (at i : ℕ) → i < length (drop at bytes)
    → has_none (take (i + 1) (drop at bytes)) ≡ (has_none (take i (drop at bytes)) && not (eqb (get_or bytes (at + i) 0) line_feed))
has_none_more-behind bytes at i h = rw (← get_or-drop at bytes i 0) (has_none_more (drop at bytes) i h)

-- so many bytes with no line feed are passed
pub passed_many : {bytes : List ℕ} {at i : ℕ} (n : ℕ) → Passed bytes at i → i + n ≤ length bytes → has_none (take n (drop i bytes)) ≡ true
    → Passed bytes at (i + n)
passed_many zero p h e = rw add-zero p
passed_many {bytes} {at} {i} (suc n) p h e =
    rw (← add-one n) (rw (← add_assoc i n 1) (passed_next (passed_many n p (omega arith) (and_left _ _ both)) (omega arith) other))
  where
    both : (has_none (take n (drop i bytes)) && not (eqb (get_or bytes (i + n) 0) line_feed)) ≡ true
    both = rw (← get_or-drop i bytes n 0) (sym (has_none_more (drop i bytes) n (omega (arith, length-drop i bytes))) ∙ rw (add-one n) e)

    other : get_or bytes (i + n) 0 ≡ line_feed → ⊥
    other = eqb-false _ _ (not-true _ (and_right (has_none (take n (drop i bytes))) _ both))

-- The sixteens before the first that has a line feed are passed,
sixteens-passed : (k : ℕ) {bytes : List ℕ} {at i : ℕ} → Passed bytes at i → i + 16 * k ≤ length bytes
    → Passed bytes at (i + 16 * prefix_len has_none (first_chunks 16 k (drop i bytes)))
sixteens-passed zero p h = rw add-zero p
sixteens-passed (suc k) {bytes} {at} {i} p h = go (has_none (take 16 (drop i bytes))) refl (λ q. sixteens-passed k q (omega arith))
  where
    go : (b : Bool) → has_none (take 16 (drop i bytes)) ≡ b
        → (Passed bytes at (i + 16) → Passed bytes at (i + 16 + 16 * prefix_len has_none (first_chunks 16 k (drop (i + 16) bytes))))
        → Passed bytes at (i + 16 * cond b (1 + prefix_len has_none (first_chunks 16 k (drop 16 (drop i bytes)))) 0)
    go true e rest =
        rw (drop-drop 16 i bytes)
        (subst (Passed bytes at) (sum i (prefix_len has_none (first_chunks 16 k (drop (i + 16) bytes)))) (rest (passed_many 16 p (omega arith) e)))
      where
        sum : (i n : ℕ) → i + 16 + 16 * n ≡ i + 16 * (1 + n)
        sum i n = omega arith
    go false e rest = rw add-zero p

-- counted as the code does
pub plain-passed : (bytes : List ℕ) {sixteens : List (List ℕ)} {n : ℕ} → sixteens ≡ first_chunks 16 (length bytes / 16) bytes
    → n ≡ length (take_while has_none sixteens) → Passed bytes 0 (16 * n)
plain-passed bytes e f =
    rw (f, e, length-prefix_len)
    (rw zero-add at (sixteens-passed (length bytes / 16) (passed_none bytes 0 (omega arith)) (omega arith)))

-- ---- the rest, byte by byte

-- so many bytes of which none is a line feed are passed
passed_bytes : {bytes : List ℕ} {at i : ℕ} (k : ℕ) → Passed bytes at i → i + k ≤ length bytes
    → ((j : ℕ) → j < k → eqb (get_or (drop i bytes) j 0) line_feed ≡ false) → Passed bytes at (i + k)
passed_bytes zero p h none = rw add-zero p
passed_bytes {bytes} {at} {i} (suc k) p h none =
    rw (← add-one k) (rw (← add_assoc i k 1) (passed_next (passed_bytes k p (omega arith) (λ j l. none j (omega arith))) (omega arith) other))
  where
    other : get_or bytes (i + k) 0 ≡ line_feed → ⊥
    other = eqb-false _ _ (rw (get_or-drop i bytes k 0) at (none k (omega arith)))

module _ {bytes : List ℕ} {at i : ℕ} (p : Passed bytes at i) where
  -- the first line feed is here
  pub feed-found : (k : ℕ) → position (λ b. eqb b line_feed) (drop i bytes) ≡ Some k → i + k + 1 ≡ at + first_line (drop at bytes)
  feed-found k e =
      let found = position-Some (λ b. eqb b line_feed) (drop i bytes) k 0 e in
      let inside : i + k < length bytes = omega (arith, found.0, length-drop i bytes) in
      passed_here (passed_bytes k p (omega arith) found.2) inside (rw (get_or-drop i bytes k 0) at (eqb-true _ _ found.1))

  -- there is none
  pub feed-none : position (λ b. eqb b line_feed) (drop i bytes) ≡ None → at ≡ at + first_line (drop at bytes)
  feed-none e =
      passed_all (passed_bytes (length rest) p (omega (arith, p.inside, length-drop i bytes)) (λ j l. fails_before_first feed rest j 0 (omega (arith, all))))
      (omega (arith, length-drop i bytes))
    where
      feed : ℕ → Bool
      feed b = eqb b line_feed

      rest : List ℕ
      rest = drop i bytes

      all : length rest ≤ position_or_len feed rest
      all = go (ltb (position_or_len feed rest) (length rest)) refl e
        where
          go : (b : Bool) → ltb (position_or_len feed rest) (length rest) ≡ b → cond b (Some (position_or_len feed rest)) None ≡ None
              → length rest ≤ position_or_len feed rest
          go true q n = cc
          go false q n = ltb-false _ _ q
