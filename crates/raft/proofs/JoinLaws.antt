-- The append's search: where it stops, what the joined log is, and how much of the old log it keeps. Assumes nothing.
use Rattle.std.specs.Prelude.{ℕ, zero, suc, ◌+◌, ◌≤◌, ◌<◌, ◌≡◌, refl, Bool, true, false, not, cond, ◌&&◌, List, [], ◌∷◌, ◌++◌, eqb, leb, length, get_or, take, drop}
use Rattle.std.proofs.Common.{zero-add, add-zero, suc-add, one-add, arith, sym, length-append, length-take, length-drop, drop-drop, eqb-true, leb-true, leb-false, eq-eqb}
use Rattle.std.proofs.lemmas.Bool.{eqb-false, not-false}
use Rattle.digits.specs.Tests.{and_left, and_right}
use Rattle.frames.specs.declared.Entry.{Entry}
use Rattle.frames.specs.Fields.{no_entry}
use Rattle.raft.specs.Record.{term_at}
use Rattle.raft.specs.Journal.{kept}
use Rattle.raft.specs.Append.{lacks, agreed, stop, passes, joined}

-- ---- where the search stops

-- it passes no more than is held, nor more than is offered
agreed-low : (held es : List Entry) → (agreed held es ≤ length held) × (agreed held es ≤ length es)
unfolding agreed
agreed-low held [] = omega arith
agreed-low [] (e ∷ es) = omega arith
agreed-low (h ∷ held) (e ∷ es) = go (eqb h.term e.term) (agreed-low held es)
  where
    go : (b : Bool) → (agreed held es ≤ length held) × (agreed held es ≤ length es)
        → (cond b (1 + agreed held es) 0 ≤ suc (length held)) × (cond b (1 + agreed held es) 0 ≤ suc (length es))
    go true l = omega arith
    go false l = omega arith

-- The search passes no more than is offered,
pub agreed-most : (held es : List Entry) → agreed held es ≤ length es
agreed-most held es = (agreed-low held es).1

-- nor more than is held,
pub agreed-held : (held es : List Entry) → agreed held es ≤ length held
agreed-held held es = (agreed-low held es).0

-- so it stops within the log,
pub stop-most : (log : List Entry) (index : ℕ) (es : List Entry) → index ≤ length log → stop log index es ≤ length log
unfolding stop
stop-most log index es l = omega (arith, agreed-held (drop index log) es, length-drop index log)

-- and within what is offered.
pub stop-offered : (log : List Entry) (index : ℕ) (es : List Entry) → stop log index es ≤ index + length es
unfolding stop
stop-offered log index es = omega (arith, agreed-most (drop index log) es)

-- Up to the stop the terms are the same.
pub agreed-terms : (held es : List Entry) (i : ℕ) → i < agreed held es → (get_or held i no_entry).term ≡ (get_or es i no_entry).term
unfolding agreed
agreed-terms held [] i l = absurd (omega arith)
agreed-terms [] (e ∷ es) i l = absurd (omega arith)
agreed-terms (h ∷ held) (e ∷ es) i l = go (eqb h.term e.term) refl i l (agreed-terms held es)
  where
    go : (b : Bool) → eqb h.term e.term ≡ b → (i : ℕ) → i < cond b (1 + agreed held es) 0
        → ((i : ℕ) → i < agreed held es → (get_or held i no_entry).term ≡ (get_or es i no_entry).term)
        → (get_or (h ∷ held) i no_entry).term ≡ (get_or (e ∷ es) i no_entry).term
    go true p zero l rest = eqb-true _ _ p
    go true p (suc i) l rest = rest i (omega arith)
    go false p i l rest = absurd (omega arith)

-- ---- the joined log

-- Where the search has passed all, the log stays;
pub joined_same : (log : List Entry) (index : ℕ) (es : List Entry) → passes log index es ≡ true → joined log index es ≡ log
unfolding joined
joined_same log index es p = rw p

-- otherwise it is cut at the stop, and the rest added.
pub joined-cut : (log : List Entry) (index : ℕ) (es : List Entry) → passes log index es ≡ false
    → joined log index es ≡ take (stop log index es) log ++ drop (agreed (drop index log) es) es
unfolding joined
joined-cut log index es p = rw p

-- It is then as long as the previous index and what was offered,
pub joined-long : (log : List Entry) (index : ℕ) (es : List Entry) → index ≤ length log → passes log index es ≡ false
    → length (joined log index es) ≡ index + length es
unfolding stop
joined-long log index es l p =
    rw (joined-cut log index es p)
    (simp (length-append, length-take, length-drop)
    (omega (arith, agreed-most (drop index log) es, agreed-held (drop index log) es, length-drop index log)))

-- as the log was at least, where it stays.
pub passes-long : (log : List Entry) (index : ℕ) (es : List Entry) → index ≤ length log → passes log index es ≡ true
    → index + length es ≤ length log
unfolding passes
passes-long log index es l p =
    omega (arith, eqb-true (agreed (drop index log) es) (length es) p, agreed-held (drop index log) es, length-drop index log)

-- ---- what is kept of the log

-- both begin with what was not cut
kept-front : (log rest : List Entry) (n : ℕ) → n ≤ length log → kept log (take n log ++ rest) ≡ n + kept (drop n log) rest
unfolding kept
kept-front log rest zero l = sym (zero-add _)
kept-front [] rest (suc n) l = absurd (omega arith)
kept-front (x ∷ log) rest (suc n) l =
    rw (eq-eqb x.term x.term refl, eq-eqb x.order x.order refl, kept-front log rest n (omega arith), suc-add)

-- at the stop the log ends, or it holds another term than is offered
kept-rest : (held es : List Entry) → (agreed held es ≡ length es → ⊥) → kept (drop (agreed held es) held) (drop (agreed held es) es) ≡ 0
unfolding kept agreed
kept-rest held [] n = absurd (n refl)
kept-rest [] (e ∷ es) n = refl
kept-rest (h ∷ held) (e ∷ es) n = go (eqb h.term e.term) refl (kept-rest held es)
  where
    go : (b : Bool) → eqb h.term e.term ≡ b
        → ((agreed held es ≡ length es → ⊥) → kept (drop (agreed held es) held) (drop (agreed held es) es) ≡ 0)
        → kept (drop (agreed (h ∷ held) (e ∷ es)) (h ∷ held)) (drop (agreed (h ∷ held) (e ∷ es)) (e ∷ es)) ≡ 0
    go true p rest = rw (p, one-add) (rest (λ same. n (rw p (omega arith))))
    go false p rest = rw p (rw p)

-- So what both logs begin with ends at the stop.
pub kept-joined : (log : List Entry) (index : ℕ) (es : List Entry) → index ≤ length log → passes log index es ≡ false
    → kept log (joined log index es) ≡ stop log index es
unfolding passes stop
kept-joined log index es l p =
    rw (joined-cut log index es p, kept-front log _ (stop log index es) (stop-most log index es l), ← drop-drop _ index log)
    (rw (kept-rest (drop index log) es (eqb-false _ _ p)) (add-zero _))

-- ---- the entry before those that are offered

-- Where the log does not lack it, the index is in range, and holds that term.
pub lacks-not : (log : List Entry) (index term : ℕ) → lacks log index term ≡ false
    → (index ≤ length log) × (1 ≤ index → term_at log index ≡ term)
unfolding lacks
lacks-not log index term h = go (leb 1 index) refl h
  where
    go : (b : Bool) → leb 1 index ≡ b → (b && not (leb index (length log) && eqb (term_at log index) term)) ≡ false
        → (index ≤ length log) × (1 ≤ index → term_at log index ≡ term)
    go true p q =
        let t = not-false _ q in
        (leb-true _ _ (and_left (leb index (length log)) _ t), λ l. eqb-true _ _ (and_right (leb index (length log)) _ t))
    go false p q = let low = leb-false 1 index p in (omega arith, λ l. absurd (omega arith))

-- ---- what a log keeps of another

-- All of a log is kept by itself,
pub kept_self : (a : List Entry) → kept a a ≡ length a
unfolding kept
kept_self [] = refl
kept_self (x ∷ a) = rw (eq-eqb x.term x.term refl, eq-eqb x.order x.order refl, kept_self a)

-- and by a log that goes on.
pub kept_more : (a b : List Entry) → kept a (a ++ b) ≡ length a
unfolding kept
kept_more [] b = refl
kept_more (x ∷ a) b = rw (eq-eqb x.term x.term refl, eq-eqb x.order x.order refl, kept_more a b)
