-- What the proofs of the record's rules use. Assumes nothing.
use Rattle.std.specs.Prelude.{ℕ, zero, suc, ◌+◌, ◌-◌, ◌*◌, ◌%◌, ◌^◌, ◌≤◌, ◌≡◌, refl}
use Rattle.std.specs.Prelude.{Bool, true, false, ◌&&◌, ◌||◌, List, [], ◌∷◌, ◌++◌, eqb, leb, get_or}
use Rattle.std.proofs.Common.{zero-add, add-one, arith, sym, eqb-true, ne_eqb, leb-true, le-leb}
use Rattle.std.proofs.Math.Bool.{and-true, and-false}
use Rattle.std.proofs.Math.Dec.{leb-zero}
use Rattle.digits.specs.Tests.{at_each, and_left, and_right}
use Rattle.frames.specs.declared.Entry.{Entry}
use Rattle.frames.specs.Limits.{boxes}
use Rattle.frames.specs.Rules.{in_order}
use Rattle.raft.specs.Majority.{bit}
use Rattle.raft.specs.Lent.{entries_of}
use Rattle.raft.specs.LentLaws.{entries_more}

-- the bit of a box, as a shift makes it
pub bit_shift : (i : ℕ) → i ≤ boxes → 1 * 2 ^ (i - 1) % 256 ≡ bit i
bit_shift i h = eqb-true _ _ (at_each (λ k. eqb (1 * 2 ^ (k - 1) % 256) (bit k)) (suc boxes) refl i (omega arith))

-- the term of the last entry, or what stood before all of them
unfoldable pub final : ℕ → List Entry → ℕ
final p [] = p
final p (e ∷ es) = final e.term es

final_more : (p : ℕ) (es : List Entry) (e : Entry) → final p (es ++ (e ∷ [])) ≡ e.term
unfolding final
final_more p [] e = refl
final_more p (x ∷ es) e = final_more x.term es e

-- the terms never fall, from one before them on
unfoldable pub rises : ℕ → List Entry → Bool
rises p [] = true
rises p (e ∷ es) = leb p e.term && rises e.term es

-- so none of them is above the last one
rises-le : (p : ℕ) (es : List Entry) → rises p es ≡ true → p ≤ final p es
unfolding rises final
rises-le p [] h = omega arith
rises-le p (e ∷ es) h =
    omega (arith, leb-true p e.term (and_left (leb p e.term) _ h), rises-le e.term es (and_right (leb p e.term) _ h))

behind : (a b c : Bool) → (a && (b && c)) ≡ (a && b && c)
behind true b c = refl
behind false b c = refl

rises-last : (p : ℕ) (es : List Entry) (e : Entry) → rises p (es ++ (e ∷ [])) ≡ (rises p es && leb (final p es) e.term)
unfolding rises final
rises-last p [] e = and-true (leb p e.term)
rises-last p (x ∷ es) e = rw (rises-last x.term es e) (behind (leb p x.term) (rises x.term es) (leb (final x.term es) e.term))

-- as the code goes on from entry to entry
pub rises_next : (terms : List ℕ) (i : ℕ)
    → rises 1 (entries_of terms [] 0 (i + 1)) ≡ (rises 1 (entries_of terms [] 0 i) && leb (final 1 (entries_of terms [] 0 i)) (get_or terms i 0))
rises_next terms i = rw (add-one i, entries_more terms [] 0 i, zero-add) (rises-last 1 (entries_of terms [] 0 i) _)

pub final-next : (terms : List ℕ) (i : ℕ) → final 1 (entries_of terms [] 0 (i + 1)) ≡ get_or terms i 0
final-next terms i = rw (add-one i, entries_more terms [] 0 i, zero-add) (final_more 1 (entries_of terms [] 0 i) _)

-- a test that two others imply
implied : (t r f : Bool) → (r ≡ true → f ≡ true → t ≡ true) → ((t && true && true) && (r && f)) ≡ (r && f)
implied true r f h = refl
implied false false f h = refl
implied false true false h = refl
implied false true true h = h refl refl

-- the entry rule behind a term that is one: nothing falls, and the last is at most the term
order-rises : (p term : ℕ) (es : List Entry) → 1 ≤ p → in_order p term es ≡ (rises p es && leb (final p es) term)
unfolding in_order rises final
order-rises p term [] h = refl
order-rises p term (e ∷ es) h = go (order-rises e.term term es) (leb p e.term) refl
  where
    go : (1 ≤ e.term → in_order e.term term es ≡ (rises e.term es && leb (final e.term es) term)) → (b : Bool) → leb p e.term ≡ b
        → ((leb p term && leb 1 e.term && leb p e.term) && in_order e.term term es)
        ≡ (leb p e.term && rises e.term es && leb (final e.term es) term)
    go later false q = rw (q, and-false)
    go later true q =
        let up = leb-true p e.term q in
        rw (q, le-leb 1 e.term (omega arith), later (omega arith))
        (implied (leb p term) (rises e.term es) (leb (final e.term es) term)
        (λ a b. le-leb p term (omega (arith, rises-le e.term es a, leb-true (final e.term es) term b))))

-- and so from no previous entry on
pub order-whole : (terms : List ℕ) (last term : ℕ)
    → (rises 1 (entries_of terms [] 0 last) && (eqb last 0 || leb (final 1 (entries_of terms [] 0 last)) term)) ≡ in_order 0 term (entries_of terms [] 0 last)
unfolding in_order rises final entries_of
order-whole terms zero term = sym (leb-zero term)
order-whole terms (suc n) term = go (leb 1 (get_or terms 0 0)) refl
  where
    rest : List Entry
    rest = entries_of terms [] 1 n

    go : (b : Bool) → leb 1 (get_or terms 0 0) ≡ b
        → (leb 1 (get_or terms 0 0) && rises (get_or terms 0 0) rest && (eqb (suc n) 0 || leb (final (get_or terms 0 0) rest) term))
        ≡ ((leb 0 term && leb 1 (get_or terms 0 0) && leb 0 (get_or terms 0 0)) && in_order (get_or terms 0 0) term rest)
    go false q = rw (q, leb-zero term)
    go true q =
        rw (q, leb-zero term, leb-zero (get_or terms 0 0), ne_eqb (suc n) 0 (λ (e : suc n ≡ 0). omega arith), order-rises (get_or terms 0 0) term rest (leb-true 1 (get_or terms 0 0) q))
