-- What both logs begin with: `kept` and the rest make the later log again. Assumes nothing.
use Rattle.std.specs.Prelude.{ℕ, zero, suc, ◌+◌, ◌≤◌, ◌≡◌, refl, Bool, true, false, cond, List, [], ◌∷◌, ◌++◌, eqb, length, take, drop}
use Rattle.std.proofs.Common.{arith, sym, ◌∙◌, append-nil, eqb-true}
use Rattle.std.proofs.Math.Seq.{take-length, drop-length}
use Rattle.digits.specs.Tests.{and_left, and_right}
use Rattle.frames.specs.declared.Entry.{Entry}
use Rattle.frames.specs.Limits.{entry_limit}
use Rattle.raft.specs.Record.{term_at}
use Rattle.raft.specs.Journal.{same_entry, kept}
use Rattle.raft.specs.Append.{stop, passes, joined}
use Rattle.raft.proofs.JoinLaws.{kept_self, joined_same, joined-long, kept-joined}

-- entries with the same term and order are the same
same_entries : (x y : Entry) → same_entry x y ≡ true → x ≡ y
same_entries x y h =
    let t = eqb-true x.term y.term (and_left (eqb x.term y.term) _ h) in
    let o = eqb-true x.order y.order (and_right (eqb x.term y.term) _ h) in
    λ d. record { term = t d; order = o d }

-- It is at most the length of each,
pub kept-most : (a b : List Entry) → (kept a b ≤ length a) × (kept a b ≤ length b)
unfolding kept
kept-most [] b = omega arith
kept-most (x ∷ a) [] = omega arith
kept-most (x ∷ a) (y ∷ b) = go (same_entry x y) (kept-most a b)
  where
    go : (t : Bool) → (kept a b ≤ length a) × (kept a b ≤ length b)
        → (cond t (suc (kept a b)) 0 ≤ suc (length a)) × (cond t (suc (kept a b)) 0 ≤ suc (length b))
    go true l = omega arith
    go false l = omega arith

-- and what is kept of the one and the rest of the other make the other.
pub kept_rebuilds : (a b : List Entry) → take (kept a b) a ++ drop (kept a b) b ≡ b
unfolding kept
kept_rebuilds [] b = refl
kept_rebuilds (x ∷ a) [] = refl
kept_rebuilds (x ∷ a) (y ∷ b) = go (same_entry x y) refl (kept_rebuilds a b)
  where
    go : (t : Bool) → same_entry x y ≡ t → take (kept a b) a ++ drop (kept a b) b ≡ b
        → take (cond t (suc (kept a b)) 0) (x ∷ a) ++ drop (cond t (suc (kept a b)) 0) (y ∷ b) ≡ y ∷ b
    go true e rest = rw (rest, same_entries x y e)
    go false e rest = refl

-- Where all of both is kept, they are the same.
pub kept-all : (a b : List Entry) → kept a b ≡ length a → kept a b ≡ length b → a ≡ b
kept-all a b p q = sym (sym (kept_rebuilds a b) ∙ rw (q, drop-length b, append-nil, ← q, p) (take-length a))

-- At kept both have the same term, 0 at the start.
pub kept-term : (a b : List Entry) → term_at a (kept a b) ≡ term_at b (kept a b)
unfolding kept term_at
kept-term [] b = refl
kept-term (x ∷ a) [] = refl
kept-term (x ∷ a) (y ∷ b) = go (same_entry x y) refl (kept a b) (kept-term a b)
  where
    go : (t : Bool) → same_entry x y ≡ t → (k : ℕ) → term_at a k ≡ term_at b k
        → term_at (x ∷ a) (cond t (suc k) 0) ≡ term_at (y ∷ b) (cond t (suc k) 0)
    go true e zero rest = rw (same_entries x y e)
    go true e (suc k) rest = rest
    go false e k rest = refl

-- Where at most four entries are joined to a log, at most four follow what is kept.
pub joined-few : (log : List Entry) (index : ℕ) (es : List Entry) → index ≤ length log → length es ≤ entry_limit
    → length (joined log index es) ≤ kept log (joined log index es) + entry_limit
unfolding stop
joined-few log index es l f = go (passes log index es) refl
  where
    go : (b : Bool) → passes log index es ≡ b → length (joined log index es) ≤ kept log (joined log index es) + entry_limit
    go true p = rw (joined_same log index es p) (omega (arith, kept_self log))
    go false p = omega (arith, joined-long log index es l p, kept-joined log index es l p)
