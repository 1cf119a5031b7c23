-- An append of a leader at a box: the box's log stays, or becomes a beginning of the sender's; and it keeps all that both begin with.
-- Assumes nothing.
use Rattle.std.specs.Prelude.{ℕ, zero, suc, ◌+◌, ◌-◌, ◌≤◌, ◌<◌, ◌≡◌, Bool, true, false, not, cond, ◌&&◌, List, [], ◌∷◌, ◌++◌, eqb, ltb, get_or, drop}
use Rattle.std.proofs.Math.Decide.{dec_le}
use Rattle.std.proofs.Common.{one-add, subst, ◌∙◌, length-take, get_or-drop, take-add, length-take-le}
use native.Mathlib.Omega.{arith}
use Rattle.std.proofs.Math.Path.{refl, sym, ap}
use Rattle.std.proofs.Math.ListN.{length, take, length-drop}
use Rattle.std.proofs.Math.Seq.{drop-drop}
use borrow.Author.Tests.{eqb-true, eqb-false, le-ltb}
use Rattle.frames.specs.declared.Entry.{Entry}
use Rattle.frames.specs.Fields.{no_entry}
use Rattle.raft.specs.Record.{State, last_index, term_at, handed_out}
use Rattle.raft.specs.Append.{lacks, agreed, stop, passes, joined, cuts_committed}
use Rattle.raft.proofs.JoinLaws.{agreed-most, agreed-held, agreed-terms, stop-offered, joined_same, joined-cut, lacks-not}
use Rattle.history.specs.Begins.{Begins}
use Rattle.history.specs.BeginsLaws.{begins-long, begins-term, begins-take, begins-both, begins-drop, begins_trans, begins_self, drop-take}
use Rattle.history.specs.History.{Leaders, Descends, Within}
use Rattle.history.proofs.Descent.{same-term, descends-first, within_first}

-- What an append offers is a piece of the sender's log: behind the previous index, where the sender holds the previous term.
pub record Offered (sender : List Entry) (index prior : ℕ) (es : List Entry) : Type 0 where
  pub reach : index ≤ length sender
  pub before : term_at sender index ≡ prior
  pub piece : Begins es (drop index sender)

-- it does not go past the sender's log
pub offered-long : {sender es : List Entry} {index prior : ℕ} → Offered sender index prior es → index + length es ≤ length sender
offered-long {sender} {es} {index} o = omega (arith, o.reach, begins-long o.piece, length-drop index sender)

-- and stays a piece of it when the log grows
pub offered-later : {sender longer es : List Entry} {index prior : ℕ} → Begins sender longer → Offered sender index prior es
    → Offered longer index prior es
offered-later {index = index} b o =
    record {
      reach = omega (arith, o.reach, begins-long b);
      before = sym (begins-term b index o.reach) ∙ o.before;
      piece = begins_trans o.piece (begins-drop b index);
    }

-- What a log becomes when it takes the first m of a sender's log: it stays, and begins with them; or it becomes them, and nothing with which
-- both began is longer.
pub data Joins (own sender : List Entry) (m : ℕ) (next : List Entry) : Type 0 where
  stays : next ≡ own → Begins (take m sender) own → Joins own sender m next
  follows : next ≡ take m sender → ((part : List Entry) → Begins part own → Begins part sender → length part ≤ m) → Joins own sender m next

-- the result begins with what both began with
pub joins-keeps : {own sender next : List Entry} {m : ℕ} → Joins own sender m next → {part : List Entry} → Begins part own
    → Begins part sender → Begins part next
joins-keeps (stays e p) b c = rw e b
joins-keeps {sender = sender} {m = m} (follows e most) {part} b c =
    rw e (begins-both c (begins-take m sender) (omega (arith, most part b c, length-take m sender, begins-long c)))

-- and with the sender's first m
pub joins-first : {own sender next : List Entry} {m : ℕ} → Joins own sender m next → Begins (take m sender) next
joins-first (stays e p) = rw e p
joins-first (follows e most) = rw e (begins_self _)

-- it descends where both do
pub joins-descends : {l : Leaders} {own sender next : List Entry} {m : ℕ} → Joins own sender m next → Descends l own → Descends l sender
    → Descends l next
joins-descends (stays e p) d x = rw e d
joins-descends {sender = sender} {m = m} (follows e most) d x = rw e (descends-first (begins-take m sender) x)

-- and holds no term above a bound where both do not
pub joins-within : {own sender next : List Entry} {m bound : ℕ} → Joins own sender m next → Within bound own → Within bound sender
    → Within bound next
joins-within (stays e p) d x = rw e d
joins-within {sender = sender} {m = m} (follows e most) d x = rw e (within_first (begins-take m sender) x)

-- ---- terms behind an index

-- the term behind n entries
term-drop : (log : List Entry) (n i : ℕ) → term_at (drop n log) (suc i) ≡ term_at log (suc (n + i))
unfolding term_at
term-drop log n i = ap (λ e. e.term) (get_or-drop n log i no_entry)

-- up to the stop the terms are the same
agreed-same : (held es : List Entry) (i : ℕ) → i < agreed held es → term_at held (suc i) ≡ term_at es (suc i)
unfolding term_at
agreed-same held es i l = agreed-terms held es i l

-- at the stop they are not, or one of the two ends
agreed-stops : (held es : List Entry) → agreed held es < length held → agreed held es < length es
    → term_at held (suc (agreed held es)) ≡ term_at es (suc (agreed held es)) → ⊥
unfolding agreed term_at
agreed-stops held [] a b e = omega arith
agreed-stops [] (x ∷ es) a b e = omega arith
agreed-stops (y ∷ held) (x ∷ es) a b e = go (eqb y.term x.term) refl a b e (agreed-stops held es)
  where
    go : (t : Bool) → eqb y.term x.term ≡ t → cond t (1 + agreed held es) 0 < suc (length held)
        → cond t (1 + agreed held es) 0 < suc (length es)
        → (get_or (y ∷ held) (cond t (1 + agreed held es) 0) no_entry).term ≡ (get_or (x ∷ es) (cond t (1 + agreed held es) 0) no_entry).term
        → (agreed held es < length held → agreed held es < length es
        → (get_or held (agreed held es) no_entry).term ≡ (get_or es (agreed held es) no_entry).term → ⊥) → ⊥
    go true p a b e rest = rest (omega arith) (omega arith) (rw one-add at e)
    go false p a b e rest = eqb-false _ _ p e

-- ---- the join

-- how many of the offered entries the search has passed
abbrev met : List Entry → ℕ → List Entry → ℕ
met own index es = agreed (drop index own) es

module _ (own : List Entry) {sender es : List Entry} {index prior : ℕ} (o : Offered sender index prior es)
    (has : lacks own index prior ≡ false) where
  -- an offered entry stands in the sender's log
  offered-term : (i : ℕ) → i < length es → term_at es (suc i) ≡ term_at sender (suc (index + i))
  offered-term i l = begins-term o.piece (suc i) l ∙ term-drop sender index i

  -- with what both begin the search has passed: behind it the terms differ, or the log ends
  stop-past : passes own index es ≡ false → (part : List Entry) → Begins part own → Begins part sender → length part ≤ stop own index es
  unfolding passes stop
  stop-past p part b c = go (dec_le (length part) (index + met own index es))
    where
      go : Dec (length part ≤ index + met own index es) → length part ≤ index + met own index es
      go (yes l) = l
      go (no l) =
          let held : met own index es < length (drop index own) = omega (arith, length-drop index own, begins-long b) in
          let offered : met own index es < length es = omega (arith, agreed-most (drop index own) es, eqb-false (met own index es) (length es) p)
          in
          absurd
          (agreed-stops (drop index own) es held offered
          (term-drop own index _ ∙ sym (begins-term b _ (omega arith)) ∙ begins-term c _ (omega arith) ∙ sym (offered-term _ offered)))

  -- the stop and what is left make all that is offered
  whole : stop own index es + (length es - met own index es) ≡ index + length es
  unfolding stop
  whole = omega (arith, agreed-most (drop index own) es)

  stop-all : passes own index es ≡ true → stop own index es ≡ index + length es
  unfolding passes stop
  stop-all p = ap (λ a. index + a) (eqb-true _ _ p)

  module _ {l : Leaders} (d : Descends l own) (e : Descends l sender) where
    -- where the search stops, both logs hold one term
    stop-term : (a : ℕ) → met own index es ≡ a → 1 ≤ index + a → term_at own (index + a) ≡ term_at sender (index + a)
    stop-term zero p b = rw none ((lacks-not own index prior has).1 (omega arith) ∙ sym o.before)
      where
        none : index + 0 ≡ index
        none = omega arith
    stop-term (suc i) p b =
        let passed : i < met own index es = omega arith in
        let offered : i < length es = omega (arith, agreed-most (drop index own) es) in
        rw next (sym (term-drop own index i) ∙ agreed-same (drop index own) es i passed ∙ offered-term i offered)
      where
        next : index + suc i ≡ suc (index + i)
        next = omega arith

    -- so up to there they are the same
    stop-same : take (stop own index es) own ≡ take (stop own index es) sender
    unfolding stop
    stop-same = go (dec_le 1 (index + met own index es))
      where
        go : Dec (1 ≤ index + met own index es)
            → take (index + met own index es) own ≡ take (index + met own index es) sender
        go (yes b) =
            same-term d e _ b (omega (arith, agreed-held (drop index own) es, length-drop index own, (lacks-not own index prior has).0))
            (omega (arith, agreed-most (drop index own) es, offered-long o)) (stop-term _ refl b)
        go (no b) = rw none
          where
            none : index + met own index es ≡ 0
            none = omega arith

    -- what is added is the sender's rest
    rest-same : drop (met own index es) es ≡ take (length es - met own index es) (drop (stop own index es) sender)
    unfolding stop
    rest-same =
        rw (← drop-drop (met own index es) index sender, ← drop-take (met own index es) (length es) (drop index sender), o.piece.first)

    -- together they are the sender's first
    sender-first : take (stop own index es) own ++ drop (met own index es) es ≡ take (index + length es) sender
    sender-first = rw (stop-same, rest-same, ← take-add (stop own index es) (length es - met own index es) sender, whole)

    -- A box that does not lack the previous entry joins the log of a leader.
    pub joined-joins : Joins own sender (index + length es) (joined own index es)
    joined-joins = go (passes own index es) refl
      where
        go : (b : Bool) → passes own index es ≡ b → Joins own sender (index + length es) (joined own index es)
        go true p =
            let all = stop-all p in
            stays (joined_same own index es p)
            (subst (λ x. Begins x own) (subst (λ k. take k own ≡ take k sender) all stop-same) (begins-take (index + length es) own))
        go false p =
            follows (joined-cut own index es p ∙ sender-first)
            (λ part b c. omega (arith, stop-past p part b c, stop-offered own index es))

-- Alarm 7 does not sound: where the sender's log begins with what the box hands out, the search stops behind it.
pub no_cut : (s : State) → s.commit ≤ last_index s → {sender es : List Entry} {index prior : ℕ} → Offered sender index prior es
    → lacks s.log index prior ≡ false → Begins (handed_out s) sender → cuts_committed s index es ≡ false
unfolding cuts_committed handed_out
no_cut s l {sender} {es} {index} {prior} o has p = go (passes s.log index es) refl
  where
    go : (b : Bool) → passes s.log index es ≡ b → (not b && ltb (stop s.log index es) s.commit) ≡ false
    go true q = refl
    go false q =
        le-ltb (stop s.log index es) s.commit
        (omega (
          arith,
          stop-past s.log o has q (take s.commit s.log) (begins-take s.commit s.log) p,
          length-take-le s.commit s.log l,
        ))
