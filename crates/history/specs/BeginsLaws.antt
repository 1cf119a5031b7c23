-- The laws of 'is a beginning of' (Begins). Assumes nothing.
use Rattle.std.specs.Prelude.{ℕ, zero, suc, ◌-◌, ◌≤◌, ◌≡◌, refl, length, get_or, take, drop}
use Rattle.std.proofs.Math.Decide.{ℕ_discrete, dec_le}
use Rattle.std.proofs.Common.{arith, sym, ap, ◌∙◌, inl, inr, length-take, length-drop, take-take, take_all, get_or-take, length-take-le}
use mathlib.Core.List.{List, [], ◌∷◌, ◌++◌, List-discrete}
use Rattle.std.proofs.Math.Seq.{take-length, take-nil, take-append_seam}
use Rattle.frames.specs.declared.Entry.{Entry}
use Rattle.frames.specs.Fields.{no_entry}
use Rattle.raft.specs.Record.{term_at}
use Rattle.history.specs.Begins.{Begins, OneBegins}

-- a beginning is no longer than the whole
pub begins-long : {a b : List Entry} → Begins a b → length a ≤ length b
begins-long {a} {b} p = omega (arith, ap length p.first, length-take (length a) b)

-- up to where it ends both hold the same
pub begins-same : {a b : List Entry} → Begins a b → (n : ℕ) → n ≤ length a → take n a ≡ take n b
begins-same {a} {b} p n l = ap (take n) (sym p.first) ∙ take-take n (length a) b l

-- and so the same terms
pub begins-term : {a b : List Entry} → Begins a b → (k : ℕ) → k ≤ length a → term_at a k ≡ term_at b k
unfolding term_at
begins-term {a} {b} p zero l = refl
begins-term {a} {b} p (suc i) l = ap (λ e. e.term) (ap (λ z. get_or z i no_entry) (sym p.first) ∙ get_or-take (length a) b i no_entry l)

-- nothing begins every log,
pub nothing-begins : (a : List Entry) → Begins [] a
nothing-begins a = record { first = refl }

-- and only nothing begins nothing
pub begins-nothing : {a : List Entry} → Begins a [] → a ≡ []
begins-nothing {a} p = sym p.first ∙ take-nil (length a)

-- every log begins itself
pub begins_self : (a : List Entry) → Begins a a
begins_self a = record { first = take-length a }

-- what begins a beginning begins the whole
pub begins_trans : {a b c : List Entry} → Begins a b → Begins b c → Begins a c
begins_trans {a} p q = record { first = sym (begins-same q (length a) (begins-long p)) ∙ p.first }

-- the first n are a beginning
pub begins-take : (n : ℕ) (a : List Entry) → Begins (take n a) a
begins-take n a = go (dec_le n (length a))
  where
    go : Dec (n ≤ length a) → Begins (take n a) a
    go (yes l) = record { first = rw (length-take-le n a l) }
    go (no l) = rw (take_all n a (omega arith)) (begins_self a)

-- and so is what stands before what was added
pub begins-added : (a b : List Entry) → Begins a (a ++ b)
begins-added a b = record { first = take-append_seam a b }

-- of two beginnings of one log the one that is no longer begins the other
pub begins-both : {a b c : List Entry} → Begins a c → Begins b c → length a ≤ length b → Begins a b
begins-both {a} p q l = record { first = begins-same q (length a) l ∙ p.first }

-- so one of them begins the other
pub begins_either : {a b c : List Entry} → Begins a c → Begins b c → OneBegins a b
begins_either {a} {b} p q = go (dec_le (length a) (length b))
  where
    go : Dec (length a ≤ length b) → OneBegins a b
    go (yes l) = inl (begins-both p q l)
    go (no l) = inr (begins-both q p (omega arith))

-- a log that begins another and is no shorter is that log
pub begins-whole : {a b : List Entry} → Begins a b → length b ≤ length a → a ≡ b
begins-whole {a} {b} p l = sym p.first ∙ take_all (length a) b l

-- behind an index the first m are the first m - n
pub drop-take : (n m : ℕ) (a : List Entry) → drop n (take m a) ≡ take (m - n) (drop n a)
drop-take zero m a = rw same
  where
    same : m - 0 ≡ m
    same = omega arith
drop-take (suc n) m [] = simp take-nil
drop-take (suc n) zero (x ∷ a) = rw none
  where
    none : 0 - suc n ≡ 0
    none = omega arith
drop-take (suc n) (suc m) (x ∷ a) = rw less (drop-take n m a)
  where
    less : suc m - suc n ≡ m - n
    less = omega arith

-- so a beginning stays one behind an index
pub begins-drop : {a b : List Entry} → Begins a b → (n : ℕ) → Begins (drop n a) (drop n b)
begins-drop {a} {b} p n = record { first = rw (length-drop n a, ← drop-take n (length a) b, p.first) }

-- two entries are equal where their terms and orders are, and that is known
entry_known : Discrete Entry
entry_known x y = go (ℕ_discrete x.term y.term) (ℕ_discrete x.order y.order)
  where
    go : Dec (x.term ≡ y.term) → Dec (x.order ≡ y.order) → Dec (x ≡ y)
    go (yes p) (yes q) = yes (λ i. record { term = p i; order = q i })
    go (yes p) (no q) = no (λ e. q (ap (λ z. z.order) e))
    go (no p) q = no (λ e. p (ap (λ z. z.term) e))

-- so whether a log begins another is known
pub begins-known : (a b : List Entry) → Dec (Begins a b)
begins-known a b = go (List-discrete entry_known (take (length a) b) a)
  where
    go : Dec (take (length a) b ≡ a) → Dec (Begins a b)
    go (yes p) = yes (record { first = p })
    go (no p) = no (λ q. p q.first)
