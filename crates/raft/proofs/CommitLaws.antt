-- The quick way to the commit: no walk over the log, only a look at what the seven boxes match. Assumes nothing.
use Prim.Native.Nat.{ℕ, zero, suc, ◌+◌, ◌-◌, ◌≤◌, ◌<◌, max}
use Rattle.std.proofs.Math.Decide.{dec_le}
use Rattle.std.proofs.Math.Nat.{le_refl}
use Rattle.std.proofs.Common.{le_antisymm, arith, sym, ap, ◌∙◌, eqb-true, ltb-true, ltb-false, leb-true, eq-eqb, le-leb}
use Rattle.std.specs.Prelude.{◌≡◌, refl, Bool, true, false, cond, ◌&&◌, List, [], ◌∷◌, ◌++◌, eqb, ltb, leb, length, get_or}
use Rattle.std.proofs.Math.ListN.{get_or-append}
use Rattle.std.proofs.Math.Seq.{get_or-append_seam}
use Rattle.std.proofs.lemmas.Bool.{lt-leb}
use Rattle.digits.specs.Tests.{and_left, and_right, and_both}
use Rattle.frames.specs.declared.Entry.{Entry}
use Rattle.frames.specs.Limits.{boxes}
use Rattle.frames.specs.Rules.{is_box, follows, in_order}
use Rattle.frames.specs.Fields.{no_entry}
use Rattle.frames.specs.Clauses.{four}
use Rattle.raft.specs.Record.{State, last_index, term_at, of_box, good, is_progress, sends_to}
use Rattle.raft.proofs.RecordLaws.{good-facts, member-facts}
use Rattle.raft.specs.Commit.{matches, matching, is_matched, highest, settled}
use Rattle.raft.specs.LargestMatch.{larger_matched, largest_matched}

-- ---- tests

-- a choice has what each arm has under its test
pub by_test : {A : Type 0} (P : A → Type 0) (t : Bool) (x y : A) → (t ≡ true → P x) → (t ≡ false → P y) → P (cond t x y)
by_test P true x y p q = p refl
by_test P false x y p q = q refl

-- where two tests do not hold together and the second holds, the first does not
pub not_first : (a b : Bool) → (a && b) ≡ false → b ≡ true → a ≡ false
not_first true b h p = sym p ∙ h
not_first false b h p = refl

-- ---- the largest number that passes a test

-- h is the largest number above low, and at most n, that passes the test, or low where there is none.
pub record Highest (test : ℕ → Bool) (low n h : ℕ) : Type 0 where
  pub least : low ≤ h
  pub most : h ≤ max low n
  pub passes : low < h → test h ≡ true
  pub top : (i : ℕ) → low < i → i ≤ n → test i ≡ true → i ≤ h

-- where none passes, it is low
none-highest : (test : ℕ → Bool) (low n : ℕ) → ((i : ℕ) → low < i → i ≤ n → test i ≡ true → ⊥) → Highest test low n low
none-highest test low n h =
    record { least = le_refl _; most = omega arith; passes = λ l. absurd (omega arith); top = λ i l m p. absurd (h i l m p) }

-- where the next number is above low and passes, it is that one
next-highest : (test : ℕ → Bool) (low n : ℕ) → (ltb low (suc n) && test (suc n)) ≡ true → Highest test low (suc n) (suc n)
next-highest test low n e =
    record {
      least = omega (arith, ltb-true low (suc n) (and_left (ltb low (suc n)) _ e));
      most = omega arith;
      passes = λ l. and_right (ltb low (suc n)) _ e;
      top = λ i l m p. m;
    }

-- and otherwise the one below it stays
old_highest : (test : ℕ → Bool) (low n h : ℕ) → (ltb low (suc n) && test (suc n)) ≡ false → Highest test low n h
    → Highest test low (suc n) h
old_highest test low n h e o =
    record { least = o.least; most = omega (arith, o.most); passes = o.passes; top = λ i l m p. go i l m p (dec_le i n) }
  where
    go : (i : ℕ) → low < i → i ≤ suc n → test i ≡ true → Dec (i ≤ n) → i ≤ h
    go i l m p (yes k) = o.top i l k p
    go i l m p (no k) =
        let same : i ≡ suc n = omega arith in
        absurd (omega (arith, ltb-false low (suc n) (not_first _ (test (suc n)) e (rw same at p))))

-- the walk of the definition finds it
pub is-highest : (test : ℕ → Bool) (low n : ℕ) → Highest test low n (highest test low n)
unfolding highest
is-highest test low zero = none-highest test low zero (λ i l m p. omega arith)
is-highest test low (suc n) =
    by_test (Highest test low (suc n)) (ltb low (suc n) && test (suc n)) (suc n) (highest test low n)
    (next-highest test low n) (λ e. old_highest test low n (highest test low n) e (is-highest test low n))

-- none is below another
highest-le : (test : ℕ → Bool) (low n a b : ℕ) → Highest test low n a → Highest test low n b → a ≤ b
highest-le test low n a b p q = go (dec_le a low)
  where
    go : Dec (a ≤ low) → a ≤ b
    go (yes k) = omega (arith, q.least)
    go (no k) = q.top a (omega arith) (omega (arith, p.most)) (p.passes (omega arith))

-- so there is only one
pub one-highest : (test : ℕ → Bool) (low n a b : ℕ) → Highest test low n a → Highest test low n b → a ≡ b
one-highest test low n a b p q = le_antisymm (highest-le test low n a b p q) (highest-le test low n b a q p)

-- ---- what the commit asks of a record

-- No box matches past the last index, the box itself is one of the seven, and terms never fall.
pub record Ranged (s : State) : Type 0 where
  pub low : (i : ℕ) → 1 ≤ i → i ≤ boxes → of_box s.lead.matched i ≤ last_index s
  pub me_least : 1 ≤ s.me
  pub me_most : s.me ≤ boxes
  pub ordered : in_order 0 s.term s.log ≡ true

-- match is below next and next at most one past the last index, or match is 0
sent-low : (sends : Bool) (last next matched : ℕ) → is_progress sends last next matched ≡ true → matched ≤ last
unfolding is_progress
sent-low true last next matched h =
    omega (arith, ltb-true matched next (and_left (ltb matched next) _ h), leb-true next (last + 1) (and_right (ltb matched next) _ h))
sent-low false last next matched h = omega (arith, eqb-true matched 0 (and_right (eqb next 0) _ h))

-- a good record has it
pub ranged : (s : State) → good s ≡ true → Ranged s
ranged s h =
    let g = good-facts s h in
    let m = member-facts s.me s.members g.membership in
    record {
      low = λ i l u. sent-low (sends_to s i) (last_index s) (of_box s.lead.next i) (of_box s.lead.matched i) (g.sent i l u);
      me_least = m.least;
      me_most = m.most;
      ordered = g.order;
    }

-- ---- terms never fall

-- from an entry on, each term is at least that entry's and at most the record's
terms-from : (e : Entry) (t : ℕ) (log : List Entry) → in_order e.term t log ≡ true → (j : ℕ) → j ≤ length log
    → (e.term ≤ (get_or (e ∷ log) j no_entry).term) × ((get_or (e ∷ log) j no_entry).term ≤ t)
unfolding in_order
terms-from e t [] h zero l = (le_refl _, leb-true e.term t h)
terms-from e t (d ∷ log) h zero l = (le_refl _, leb-true e.term t (four (leb e.term t) _ _ _ h).0)
terms-from e t [] h (suc j) l = absurd (omega arith)
terms-from e t (d ∷ log) h (suc j) l =
    let f = four (leb e.term t) (leb 1 d.term) (leb e.term d.term) (in_order d.term t log) h in
    let r = terms-from d t log f.3 j (omega arith) in
    (omega (arith, leb-true e.term d.term f.2, r.0), r.1)

-- so of two entries the later has no lower term
terms_rise : (e : Entry) (t : ℕ) (log : List Entry) → in_order e.term t log ≡ true → (i j : ℕ) → i ≤ j → j ≤ length log
    → (get_or (e ∷ log) i no_entry).term ≤ (get_or (e ∷ log) j no_entry).term
unfolding in_order
terms_rise e t log h zero j l m = (terms-from e t log h j m).0
terms_rise e t log h (suc i) zero l m = absurd (omega arith)
terms_rise e t [] h (suc i) (suc j) l m = absurd (omega arith)
terms_rise e t (d ∷ log) h (suc i) (suc j) l m =
    terms_rise d t log (and_right (follows e.term t d.term) _ h) i j (omega arith) (omega arith)

-- the term at an index is that of the log with the start in front
term-there : (log : List Entry) (i : ℕ) → term_at log i ≡ (get_or (no_entry ∷ log) i no_entry).term
unfolding term_at
term-there log zero = refl
term-there log (suc i) = refl

-- terms never fall from index to index
pub term_at_mono : (t : ℕ) (log : List Entry) → in_order 0 t log ≡ true → (i j : ℕ) → i ≤ j → j ≤ length log
    → term_at log i ≤ term_at log j
term_at_mono t log h i j l m = rw (term-there log i, term-there log j) (terms_rise no_entry t log h i j l m)

-- and none is above the record's
pub term_at-most : (t : ℕ) (log : List Entry) → in_order 0 t log ≡ true → (j : ℕ) → j ≤ length log → term_at log j ≤ t
term_at-most t log h j m = rw (term-there log j) (terms-from no_entry t log h j m).1

-- ---- a log with one entry more

-- the older entries keep their terms
pub term-front : (log : List Entry) (e : Entry) (i : ℕ) → i ≤ length log → term_at (log ++ (e ∷ [])) i ≡ term_at log i
unfolding term_at
term-front log e zero h = refl
term-front log e (suc i) h = ap (λ (x : Entry). x.term) (get_or-append log (e ∷ []) no_entry i h)

-- and the new one has its own
pub term-new : (log : List Entry) (e : Entry) (i : ℕ) → i ≡ length log + 1 → term_at (log ++ (e ∷ [])) i ≡ e.term
unfolding term_at
term-new log e zero h = absurd (omega arith)
term-new log e (suc i) h =
    let last : i ≡ length log = omega arith in
    ap (λ (k : ℕ). (get_or (log ++ (e ∷ [])) k no_entry).term) last ∙ ap (λ (x : Entry). x.term) (get_or-append_seam log e [] no_entry)

-- ---- the largest-matched of what the boxes match

-- The same over the first n boxes.
unfoldable largest_to : State → ℕ → ℕ
largest_to s zero = 0
largest_to s (suc n) = larger_matched s (largest_to s n) (suc n)

-- a look at a box never lowers the largest-matched, nor leaves it below that box's match where a majority matches it
larger_matched-least : (s : State) (b i : ℕ) → (b ≤ larger_matched s b i) × (is_matched s (matches s i) ≡ true → matches s i ≤ larger_matched s b i)
unfolding larger_matched
larger_matched-least s b i =
    by_test (λ x. (b ≤ x) × (is_matched s (matches s i) ≡ true → matches s i ≤ x))
    (ltb b (matches s i) && is_matched s (matches s i)) (matches s i) b
    (λ e. (omega (arith, ltb-true b (matches s i) (and_left (ltb b (matches s i)) _ e)), λ q. le_refl _))
    (λ e. (le_refl _, λ q. ltb-false b (matches s i) (not_first _ (is_matched s (matches s i)) e q)))

-- so the largest-matched is at least every box's match that a majority matches
largest_takes : (s : State) (n i : ℕ) → 1 ≤ i → i ≤ n → is_matched s (matches s i) ≡ true → matches s i ≤ largest_to s n
unfolding largest_to
largest_takes s zero i l m q = absurd (omega arith)
largest_takes s (suc n) i l m q = go (dec_le i n) (largest_takes s n i l)
  where
    go : Dec (i ≤ n) → (i ≤ n → is_matched s (matches s i) ≡ true → matches s i ≤ largest_to s n)
        → matches s i ≤ larger_matched s (largest_to s n) (suc n)
    go (yes k) below = omega (arith, below k q, larger_matched-least s (largest_to s n) (suc n))
    go (no k) below =
        let same : i ≡ suc n = omega arith in
        rw same ((larger_matched-least s (largest_to s n) (suc n)).1 (rw same at q))

-- what is not n is at least n exactly where it is above n
same-leb : (n m : ℕ) → (m ≡ n → ⊥) → leb n m ≡ leb (suc n) m
same-leb n m h = go (dec_le n m)
  where
    go : Dec (n ≤ m) → leb n m ≡ leb (suc n) m
    go (yes k) = le-leb n m k ∙ sym (le-leb (suc n) m (omega arith))
    go (no k) = lt-leb n m (omega arith) ∙ sym (lt-leb (suc n) m (omega arith))

-- so an index that no box matches exactly is matched by those that match the next
same-matching : (s : State) (n : ℕ) → ((i : ℕ) → is_box i ≡ true → matches s i ≡ n → ⊥) → matching s n ≡ matching s (suc n)
unfolding matching
same-matching s n h = rw (same 1 refl, same 2 refl, same 3 refl, same 4 refl, same 5 refl, same 6 refl, same 7 refl)
  where
    same : (i : ℕ) → is_box i ≡ true → leb n (matches s i) ≡ leb (suc n) (matches s i)
    same i b = same-leb n (matches s i) (h i b)

-- and where a majority matches an index above the largest-matched, one matches the next
matched-next : (s : State) (n : ℕ) → largest_to s boxes < n → is_matched s n ≡ true → is_matched s (suc n) ≡ true
unfolding is_matched
matched-next s n h q = rw (same-matching s n apart) at q
  where
    apart : (i : ℕ) → is_box i ≡ true → matches s i ≡ n → ⊥
    apart i b e =
        omega (arith, largest_takes s boxes i (leb-true 1 i (and_left (leb 1 i) _ b)) (leb-true i boxes (and_right (leb 1 i) _ b)) (rw e q))

-- A largest-matched so far: in range, and a majority matches it.
record Fair (s : State) (b : ℕ) : Type 0 where
  most : b ≤ last_index s
  matched : 0 < b → is_matched s b ≡ true

-- An index of the current term that a majority matches.
abbrev settles : State → ℕ → Bool
settles s n = eqb (term_at s.log n) s.term && is_matched s n

module _ (s : State) (r : Ranged s) where
  -- no box matches past the last index
  pub matches-low : (i : ℕ) → 1 ≤ i → i ≤ boxes → matches s i ≤ last_index s
  unfolding matches
  matches-low i l m =
      by_test (λ x. x ≤ last_index s) (eqb i s.me) (last_index s) (of_box s.lead.matched i) (λ e. le_refl _) (λ e. r.low i l m)

  -- and the box itself matches it
  me-matches : matches s s.me ≡ last_index s
  unfolding matches
  me-matches = rw (eq-eqb s.me s.me refl)

  -- each largest-matched so far is fair
  largest_fair : (n : ℕ) → n ≤ boxes → Fair s (largest_to s n)
  unfolding largest_to larger_matched
  largest_fair zero l = record { most = omega arith; matched = λ h. absurd (omega arith) }
  largest_fair (suc n) l =
      by_test (Fair s) (ltb (largest_to s n) (matches s (suc n)) && is_matched s (matches s (suc n))) (matches s (suc n)) (largest_to s n)
      (λ e. record { most = matches-low (suc n) (omega arith) l; matched = λ h. and_right (ltb (largest_to s n) (matches s (suc n))) _ e })
      (λ e. largest_fair n (omega arith))

  -- an index in range that a majority matches is not above the largest-matched: else so would be the next, and so on to the last, which the box
  -- itself matches
  largest_top : (d n : ℕ) → n + d ≡ last_index s → is_matched s n ≡ true → n ≤ largest_to s boxes
  largest_top zero n e q =
      let same : n ≡ matches s s.me = omega (arith, me-matches) in
      rw same (largest_takes s boxes s.me r.me_least r.me_most (rw same at q))
  largest_top (suc d) n e q = go (dec_le n (largest_to s boxes)) (largest_top d (suc n) (omega arith))
    where
      go : Dec (n ≤ largest_to s boxes) → (is_matched s (suc n) ≡ true → suc n ≤ largest_to s boxes) → n ≤ largest_to s boxes
      go (yes k) next = k
      go (no k) next = omega (arith, next (matched-next s n (omega arith) q))

  -- the largest-matched is the largest index that a majority matches
  pub largest_highest : Highest (is_matched s) 0 (last_index s) (largest_matched s)
  unfolding largest_matched largest_to
  largest_highest =
      let f = largest_fair boxes (omega arith) in
      record {
        least = omega arith;
        most = omega (arith, f.most);
        passes = f.matched;
        top = λ i l m q. largest_top (last_index s - i) i (omega arith) q;
      }

  -- and so in range
  pub largest_low : largest_matched s ≤ last_index s
  largest_low = omega (arith, largest_highest.most)

  -- where it is above commit and of the current term, it is the largest such; where not, there is none, for below an older entry all are
  -- older
  quick_highest : Highest (settles s) s.commit (last_index s)
      (cond (ltb s.commit (largest_matched s) && eqb (term_at s.log (largest_matched s)) s.term) (largest_matched s) s.commit)
  quick_highest =
      by_test (Highest (settles s) s.commit (last_index s))
      (ltb s.commit (largest_matched s) && eqb (term_at s.log (largest_matched s)) s.term) (largest_matched s) s.commit found none
    where
      below : (i : ℕ) → s.commit < i → i ≤ last_index s → settles s i ≡ true → i ≤ largest_matched s
      below i l m p = largest_highest.top i (omega arith) m (and_right (eqb (term_at s.log i) s.term) _ p)

      found : (ltb s.commit (largest_matched s) && eqb (term_at s.log (largest_matched s)) s.term) ≡ true
          → Highest (settles s) s.commit (last_index s) (largest_matched s)
      found e =
          let above : s.commit < largest_matched s = ltb-true _ _ (and_left _ (eqb (term_at s.log (largest_matched s)) s.term) e) in
          record {
            least = omega arith;
            most = omega (arith, largest_low);
            passes = λ h. and_both _ _ (and_right (ltb s.commit (largest_matched s)) _ e) (largest_highest.passes (omega arith));
            top = below;
          }

      current : (i : ℕ) → i ≤ largest_matched s → settles s i ≡ true → term_at s.log (largest_matched s) ≡ s.term
      current i l p =
          omega (
            arith,
            eqb-true (term_at s.log i) s.term (and_left _ (is_matched s i) p),
            term_at_mono s.term s.log r.ordered i (largest_matched s) l largest_low,
            term_at-most s.term s.log r.ordered (largest_matched s) largest_low,
          )

      none : (ltb s.commit (largest_matched s) && eqb (term_at s.log (largest_matched s)) s.term) ≡ false
          → Highest (settles s) s.commit (last_index s) s.commit
      none e =
          none-highest (settles s) s.commit (last_index s)
          (λ i l m p. omega (
            arith,
            below i l m p,
            ltb-false s.commit (largest_matched s) (not_first _ _ e (eq-eqb _ _ (current i (below i l m p) p))),
          ))

  -- the quick way to the commit
  pub settled_quick : settled s ≡ cond (ltb s.commit (largest_matched s) && eqb (term_at s.log (largest_matched s)) s.term) (largest_matched s) s.commit
  unfolding settled
  settled_quick = one-highest (settles s) s.commit (last_index s) _ _ (is-highest (settles s) s.commit (last_index s)) quick_highest

-- commit never falls
pub settled-least : (s : State) → s.commit ≤ settled s
unfolding settled
settled-least s = (is-highest (settles s) s.commit (last_index s)).least

-- nor does it pass the last index
pub settled-most : (s : State) → s.commit ≤ last_index s → settled s ≤ last_index s
unfolding settled
settled-most s h = omega (arith, (is-highest (settles s) s.commit (last_index s)).most)

-- **An entry of its term that a majority matches is committed,** and with it all before it.
pub reaches : (s : State) (n : ℕ) → n ≤ last_index s → term_at s.log n ≡ s.term → is_matched s n ≡ true → n ≤ settled s
unfolding settled
reaches s n l own most = go (dec_le n s.commit)
  where
    go : Dec (n ≤ s.commit) → n ≤ settled s
    go (yes b) = omega (arith, (is-highest (settles s) s.commit (last_index s)).least)
    go (no b) = (is-highest (settles s) s.commit (last_index s)).top n (omega arith) l (and_both _ _ (eq-eqb _ _ own) most)

-- **With no entry of its term it commits nothing,** whoever has said yes to whatever.
pub stands_still : (s : State) → s.commit ≤ last_index s → ((n : ℕ) → n ≤ last_index s → term_at s.log n ≡ s.term → ⊥) → settled s ≡ s.commit
unfolding settled
stands_still s c none = go (is-highest (settles s) s.commit (last_index s)) (dec_le (settled s) s.commit)
  where
    go : Highest (settles s) s.commit (last_index s) (settled s) → Dec (settled s ≤ s.commit) → settled s ≡ s.commit
    go h (yes l) = le_antisymm l h.least
    go h (no l) =
        absurd (none (settled s) (omega (arith, h.most)) (eqb-true _ _ (and_left _ (is_matched s (settled s)) (h.passes (omega arith)))))
