-- What 'given exactly when' says of a table of refusals whose rows are checked in an order: the answer is a row's number exactly when that row holds
-- and none of those that are checked before it. Assumes nothing.
use Rattle.std.specs.Prelude.{ℕ, ◌≡◌, refl, Bool, true, false, not, cond, ◌&&◌, List, [], ◌∷◌, ◌++◌, eqb}
use Rattle.std.proofs.lemmas.Bool.{eqb-false, not-true}
use Rattle.digits.specs.Tests.{and_left, and_right}

-- The one holds exactly when the other does.
pub record Exactly (P Q : Type 0) : Type 0 where
  pub only : P → Q
  pub when : Q → P

-- A row: its number, and its condition on what was asked.
pub record Row (A : Type 0) : Type 0 where
  pub number : ℕ
  pub holds : A → Bool

abbrev pub row : {A : Type 0} → ℕ → (A → Bool) → Row A
row number holds = record { number = number; holds = holds }

-- The number of the first row that holds, or 0, "done".
unfoldable pub first : {A : Type 0} → List (Row A) → A → ℕ
first [] a = 0
first (r ∷ rs) a = cond (r.holds a) r.number (first rs a)

-- None of these conditions holds,
abbrev pub None : {A : Type 0} → A → List (A → Bool) → Type 0
None a [] = Unit {0}
None a (t ∷ ts) = (t a ≡ false) × None a ts

-- and one does, but none of those before it.
pub record First {A : Type 0} (a : A) (test : A → Bool) (earlier : List (A → Bool)) : Type 0 where
  pub holds : test a ≡ true
  pub before : None a earlier

-- The conditions of rows.
abbrev pub tests : {A : Type 0} → List (Row A) → List (A → Bool)
tests [] = []
tests (r ∷ rs) = r.holds ∷ tests rs

-- No row has a number.
abbrev pub absent : {A : Type 0} → ℕ → List (Row A) → Bool
absent n [] = true
absent n (r ∷ rs) = not (eqb r.number n) && absent n rs

-- What no row has is not answered,
absent-first : {A : Type 0} (n : ℕ) (rs : List (Row A)) (a : A) → eqb 0 n ≡ false → absent n rs ≡ true → first rs a ≡ n → ⊥
unfolding first
absent-first n [] a z h e = eqb-false 0 n z e
absent-first n (r ∷ rs) a z h e = go (r.holds a) e (absent-first n rs a z (and_right (not (eqb r.number n)) (absent n rs) h))
  where
    go : (b : Bool) → cond b r.number (first rs a) ≡ n → (first rs a ≡ n → ⊥) → ⊥
    go true q rest = eqb-false r.number n (not-true (eqb r.number n) (and_left (not (eqb r.number n)) (absent n rs) h)) q
    go false q rest = rest q

-- **and a number that one row alone has is answered exactly when that row holds and none of those before it.**
pub at_row : {A : Type 0} (n : ℕ) (t : A → Bool) (front back : List (Row A)) → eqb 0 n ≡ false → absent n front ≡ true → absent n back ≡ true
    → (a : A) → Exactly (first (front ++ (row n t ∷ back)) a ≡ n) (First a t (tests front))
unfolding first
at_row n t [] back z f b a =
    record { only = λ e. go (t a) refl e; when = λ q. rw q.holds }
  where
    go : (c : Bool) → t a ≡ c → cond c n (first back a) ≡ n → First a t []
    go true h e = record { holds = h; before = tt }
    go false h e = absurd (absent-first n back a z b e)
at_row n t (r ∷ front) back z f b a =
    let rest = at_row n t front back z (and_right (not (eqb r.number n)) (absent n front) f) b a in
    record { only = λ e. go (r.holds a) refl e rest.only; when = λ q. rw q.before.0 (rest.when (record { holds = q.holds; before = q.before.1 })) }
  where
    go : (c : Bool) → r.holds a ≡ c → cond c r.number (first (front ++ (row n t ∷ back)) a) ≡ n
        → (first (front ++ (row n t ∷ back)) a ≡ n → First a t (tests front)) → First a t (r.holds ∷ tests front)
    go true h e rest =
        absurd (eqb-false r.number n (not-true (eqb r.number n) (and_left (not (eqb r.number n)) (absent n front) f)) e)
    go false h e rest = let q = rest e in record { holds = q.holds; before = (h, q.before) }

-- 0 is answered exactly when no row holds, where no row has that number.
pub at_none : {A : Type 0} (rs : List (Row A)) → absent 0 rs ≡ true → (a : A) → Exactly (first rs a ≡ 0) (None a (tests rs))
unfolding first
at_none [] h a = record { only = λ e. tt; when = λ q. refl }
at_none (r ∷ rs) h a =
    let rest = at_none rs (and_right (not (eqb r.number 0)) (absent 0 rs) h) a in
    record { only = λ e. go (r.holds a) refl e rest.only; when = λ q. rw q.0 (rest.when q.1) }
  where
    go : (c : Bool) → r.holds a ≡ c → cond c r.number (first rs a) ≡ 0 → (first rs a ≡ 0 → None a (tests rs)) → (r.holds a ≡ false) × None a (tests rs)
    go true p e rest = absurd (eqb-false r.number 0 (not-true (eqb r.number 0) (and_left (not (eqb r.number 0)) (absent 0 rs) h)) e)
    go false p e rest = (p, rest e)
