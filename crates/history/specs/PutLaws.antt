-- The laws of one of them replaced (Put). Assumes nothing.
use Rattle.std.specs.Prelude.{ℕ, ◌≤◌, ◌≡◌, refl, Bool, true, false, cond, eqb}
use Rattle.std.proofs.Common.{le_refl, eqb-true, eq-eqb, ne_eqb}
use Rattle.std.proofs.lemmas.Bool.{eqb-false}
use Rattle.history.specs.Put.{put}

-- What was put is there,
pub put_same : {A : Type 0} (box : ℕ → A) (i : ℕ) (t : A) → put box i t i ≡ t
unfolding put
put_same box i t = rw (eq-eqb i i refl)

-- and nowhere else.
pub put_other : {A : Type 0} (box : ℕ → A) (i : ℕ) (t : A) (j : ℕ) → (j ≡ i → ⊥) → put box i t j ≡ box j
unfolding put
put_other box i t j n = rw (ne_eqb j i n)

-- What holds of two new ones, and of each other as they were, holds of all;
pub put_both : {A B : Type 0} (P : ℕ → A → B → Type 0) (f : ℕ → A) (g : ℕ → B) (i : ℕ) (x : A) (y : B) → P i x y
    → ((j : ℕ) → (j ≡ i → ⊥) → P j (f j) (g j)) → (j : ℕ) → P j (put f i x j) (put g i y j)
unfolding put
put_both P f g i x y p q j = go (eqb j i) refl
  where
    go : (b : Bool) → eqb j i ≡ b → P j (cond b x (f j)) (cond b y (g j))
    go true e = rw (eqb-true j i e) p
    go false e = q j (eqb-false j i e)

-- and so of one.
pub put_all : {A : Type 0} (P : ℕ → A → Type 0) (f : ℕ → A) (i : ℕ) (x : A) → P i x → ((j : ℕ) → (j ≡ i → ⊥) → P j (f j))
    → (j : ℕ) → P j (put f i x j)
put_all P f i x p q j = put_both (λ k a b. P k a) f f i x x p q j

-- A number put higher is no lower anywhere.
pub put_up : (term : ℕ → ℕ) (i s : ℕ) → term i ≤ s → (j : ℕ) → term j ≤ put term i s j
put_up term i s l = put_all (λ j x. term j ≤ x) term i s l (λ j n. le_refl (term j))
