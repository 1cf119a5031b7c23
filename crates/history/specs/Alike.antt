-- Two logs that are the same up to an index. Assumes nothing.
use Rattle.std.specs.Prelude.{ℕ, ◌≤◌, ◌<◌, ◌≡◌, refl, List, length, get_or, take}
use Rattle.std.proofs.Common.{arith, sym, ap, ◌∙◌, get_or-take, take-take, length-take-le}
use Rattle.frames.specs.declared.Entry.{Entry}
use Rattle.frames.specs.Fields.{no_entry}
use Rattle.history.specs.Begins.{Begins}
use Rattle.history.specs.BeginsLaws.{begins-same, begins-take}

-- Their first p entries are the same.
pub record Alike (p : ℕ) (a b : List Entry) : Type 0 where
  pub first : take p a ≡ take p b

pub alike_none : (a b : List Entry) → Alike 0 a b
alike_none a b = record { first = refl }

pub alike_swap : {p : ℕ} {a b : List Entry} → Alike p a b → Alike p b a
alike_swap x = record { first = sym x.first }

pub alike_both : {p : ℕ} {a b c : List Entry} → Alike p a b → Alike p b c → Alike p a c
alike_both x y = record { first = x.first ∙ y.first }

-- and so fewer
pub alike_less : {p : ℕ} {a b : List Entry} → Alike p a b → (q : ℕ) → q ≤ p → Alike q a b
alike_less {p} {a} {b} x q l = record { first = sym (take-take q p a l) ∙ ap (take q) x.first ∙ take-take q p b l }

-- a beginning is the same up to where it ends
pub begins_alike : {a b : List Entry} → Begins a b → (p : ℕ) → p ≤ length a → Alike p a b
begins_alike x p l = record { first = begins-same x p l }

-- so the first n of one, where they begin another
pub first_alike : {n : ℕ} {a b : List Entry} → Begins (take n a) b → n ≤ length a → Alike n a b
first_alike {n} {a} {b} x l =
    record { first = sym (take-take n n a (omega arith)) ∙ begins-same x n (omega (arith, length-take-le n a l)) }

-- and the other way
pub alike_first : {n : ℕ} {a b : List Entry} → Alike n a b → Begins (take n a) b
alike_first {n} {a} {b} x = rw x.first (begins-take n b)

-- they hold the same entries
pub alike_entry : {p : ℕ} {a b : List Entry} → Alike p a b → (i : ℕ) → i < p → get_or a i no_entry ≡ get_or b i no_entry
alike_entry {p} {a} {b} x i l =
    sym (get_or-take p a i no_entry l) ∙ ap (λ z. get_or z i no_entry) x.first ∙ get_or-take p b i no_entry l

-- Index p is at most l, and up to it two logs are the same.
pub record Shared (p l : ℕ) (a b : List Entry) : Type 0 where
  pub reach : p ≤ l
  pub first : Alike p a b

pub shared-none : {p l : ℕ} (a b : List Entry) → p ≡ 0 → Shared p l a b
shared-none a b e = rw e (record { reach = omega arith; first = alike_none a b })
