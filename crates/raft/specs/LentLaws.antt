-- What is proved of the lent log. Assumes nothing.
use Rattle.std.specs.Prelude.{ℕ, zero, suc, ◌+◌, ◌-◌, ◌≤◌, ◌<◌, min, ◌≡◌, refl, length, get_or, take, drop}
use Rattle.std.proofs.Common.{add-zero, zero-add, add-suc, suc-add, arith, sym, ap, ◌∙◌, length-append, drop-cons, take_at, length-take-le}
use Rattle.std.proofs.Math.Nat.{sub-zero, zero-sub, suc-sub-suc, zero-min, min-zero, suc-min-suc}
use mathlib.Core.List.{List, [], ◌∷◌, ◌++◌, map, map-append}
use Rattle.std.proofs.lemmas.List.{length-map}
use Rattle.digits.specs.Room.{over}
use Rattle.digits.specs.RoomLaws.{length_over}
use Rattle.frames.specs.declared.Entry.{Entry}
use Rattle.frames.specs.Fields.{no_entry}
use Rattle.raft.specs.Record.{term_at}
use Rattle.raft.specs.Lent.{entries_of, terms_of, orders_of}

-- the lent log has as many entries as the struct counts
pub length-entries_of : (terms orders : List ℕ) (at n : ℕ) → length (entries_of terms orders at n) ≡ n
unfolding entries_of
length-entries_of terms orders at zero = refl
length-entries_of terms orders at (suc n) = ap suc (length-entries_of terms orders (suc at) n)

-- one entry more, behind the others
pub entries_more : (terms orders : List ℕ) (at n : ℕ)
    → entries_of terms orders at (suc n) ≡ entries_of terms orders at n ++ (record { term = get_or terms (at + n) 0; order = get_or orders (at + n) 0 } ∷ [])
unfolding entries_of
entries_more terms orders at zero = rw add-zero
entries_more terms orders at (suc n) = rw (entries_more terms orders (suc at) n, suc-add at n, add-suc at n)

-- an entry is a lent term and a lent order
pub entry_of : (terms orders : List ℕ) (at n i : ℕ) → i < n
    → get_or (entries_of terms orders at n) i no_entry ≡ record { term = get_or terms (at + i) 0; order = get_or orders (at + i) 0 }
unfolding entries_of
entry_of terms orders at zero i h = absurd (omega arith)
entry_of terms orders at (suc n) zero h = rw add-zero
entry_of terms orders at (suc n) (suc i) h = entry_of terms orders (suc at) n i (omega arith) ∙ rw (suc-add at i, ← add-suc at i)

-- the term at an index is the lent one
pub term-there : (terms orders : List ℕ) (last index : ℕ) → 1 ≤ index → index ≤ last → term_at (entries_of terms orders 0 last) index ≡ get_or terms (index - 1) 0
unfolding term_at
term-there terms orders last zero l h = absurd (omega arith)
term-there terms orders last (suc i) l h =
    ap (λ (e : Entry). e.term) (entry_of terms orders 0 last i h) ∙ ap (λ (k : ℕ). get_or terms k 0) (omega arith)

pub term-none : (log : List Entry) → term_at log 0 ≡ 0
unfolding term_at
term-none log = refl

-- the entries from a place on
pub drop-entries : (terms orders : List ℕ) (at n p : ℕ) → drop p (entries_of terms orders at n) ≡ entries_of terms orders (at + p) (n - p)
unfolding entries_of
drop-entries terms orders at n zero = rw (add-zero, sub-zero)
drop-entries terms orders at zero (suc p) = rw zero-sub
drop-entries terms orders at (suc n) (suc p) = drop-entries terms orders (suc at) n p ∙ rw (suc-sub-suc, suc-add at p, ← add-suc at p)

-- and at most so many of them
pub take-entries : (terms orders : List ℕ) (at n k : ℕ) → take k (entries_of terms orders at n) ≡ entries_of terms orders at (min k n)
unfolding entries_of
take-entries terms orders at n zero = rw zero-min
take-entries terms orders at zero (suc k) = rw min-zero
take-entries terms orders at (suc n) (suc k) = rw (suc-min-suc, take-entries terms orders (suc at) n k)

-- the terms of the lent log's entries
pub terms_are : (terms orders : List ℕ) (at n : ℕ) → at + n ≤ length terms → terms_of (entries_of terms orders at n) ≡ take n (drop at terms)
unfolding terms_of entries_of
terms_are terms orders at zero h = refl
terms_are terms orders at (suc n) h = rw (drop-cons terms at 0 (omega arith), terms_are terms orders (suc at) n (omega arith))

-- and their orders
pub orders_are : (terms orders : List ℕ) (at n : ℕ) → at + n ≤ length orders → orders_of (entries_of terms orders at n) ≡ take n (drop at orders)
unfolding orders_of entries_of
orders_are terms orders at zero h = refl
orders_are terms orders at (suc n) h = rw (drop-cons orders at 0 (omega arith), orders_are terms orders (suc at) n (omega arith))

-- one entry more has one term more
pub terms_more : (log : List Entry) (e : Entry) → terms_of (log ++ (e ∷ [])) ≡ terms_of log ++ (e.term ∷ [])
unfolding terms_of
terms_more [] e = refl
terms_more (x ∷ log) e = rw (terms_more log e)

-- and one order more
pub orders_more : (log : List Entry) (e : Entry) → orders_of (log ++ (e ∷ [])) ≡ orders_of log ++ (e.order ∷ [])
unfolding orders_of
orders_more [] e = refl
orders_more (x ∷ log) e = rw (orders_more log e)

-- ---- entries stored behind a place

-- as many terms as entries
pub terms_long : (es : List Entry) → length (terms_of es) ≡ length es
unfolding terms_of
terms_long es = length-map es _

-- and as many orders
pub orders_long : (es : List Entry) → length (orders_of es) ≡ length es
unfolding orders_of
orders_long es = length-map es _

-- a log is its terms and its orders
same_log : (a b : List Entry) → terms_of a ≡ terms_of b → orders_of a ≡ orders_of b → a ≡ b
unfolding terms_of orders_of
same_log [] [] p q = refl
same_log [] (y ∷ b) p q = let never : ◌≡◌ {A = ℕ} 0 (suc (length b)) = ap length p ∙ ap suc (length-map b _) in absurd (omega arith)
same_log (x ∷ a) [] p q = let never : ◌≡◌ {A = ℕ} (suc (length a)) 0 = sym (ap suc (length-map a _)) ∙ ap length p in absurd (omega arith)
same_log (x ∷ a) (y ∷ b) p q =
    let t : x.term ≡ y.term = cc in
    let o : x.order ≡ y.order = cc in
    let terms : terms_of a ≡ terms_of b = cc in
    let orders : orders_of a ≡ orders_of b = cc in
    let rest = same_log a b terms orders in
    rw (rest, t, o)

-- what stands before a text that was written, and the text
over-front : (d s : List ℕ) (at : ℕ) → at ≤ length d → take (at + length s) (over d at s) ≡ take at d ++ s
unfolding over
over-front d s at h = take_at (take at d ++ s) (drop (at + length s) d) (at + length s) (simp (length-append, length-take-le at d h))

-- written from the start
over-whole : (d s : List ℕ) (at : ℕ) → at ≤ length d → over d at s ≡ over d 0 (take at d ++ s)
unfolding over
over-whole d s at h = rw (length-append, length-take-le at d h, zero-add)

module _ (terms orders : List ℕ) (last at : ℕ) (es : List Entry) (h : at ≤ last) (p : last ≤ length terms) (q : last ≤ length orders) where
  -- the log with these entries behind a place
  abbrev log : List Entry
  log = take at (entries_of terms orders 0 last) ++ es

  front : take at (entries_of terms orders 0 last) ≡ entries_of terms orders 0 at
  front = take-entries terms orders 0 last at ∙ ap (entries_of terms orders 0) (omega arith)

  log-terms : terms_of log ≡ take at terms ++ terms_of es
  unfolding terms_of
  log-terms = rw (front, map-append) (ap (λ (l : List ℕ). l ++ map (λ e. e.term) es) (terms_are terms orders 0 at (omega arith)))

  log-orders : orders_of log ≡ take at orders ++ orders_of es
  unfolding orders_of
  log-orders = rw (front, map-append) (ap (λ (l : List ℕ). l ++ map (λ e. e.order) es) (orders_are terms orders 0 at (omega arith)))

  -- is what the lent log holds once their terms and orders are written there
  pub stored-terms : over terms at (terms_of es) ≡ over terms 0 (terms_of log)
  stored-terms = over-whole terms (terms_of es) at (omega arith) ∙ ap (over terms 0) (sym log-terms)

  pub stored-orders : over orders at (orders_of es) ≡ over orders 0 (orders_of log)
  stored-orders = over-whole orders (orders_of es) at (omega arith) ∙ ap (over orders 0) (sym log-orders)

  pub stored-log : at + length es ≤ length terms → at + length es ≤ length orders
      → entries_of (over terms at (terms_of es)) (over orders at (orders_of es)) 0 (at + length es) ≡ log
  stored-log a b =
      same_log _ _
      (terms_are (over terms at (terms_of es)) (over orders at (orders_of es)) 0 (at + length es) (omega (arith, length_over terms at (terms_of es) (omega (arith, count-terms)), count-terms))
      ∙ rw (← count-terms) (over-front terms (terms_of es) at (omega arith)) ∙ sym log-terms)
      (orders_are (over terms at (terms_of es)) (over orders at (orders_of es)) 0 (at + length es) (omega (arith, length_over orders at (orders_of es) (omega (arith, count-orders)), count-orders))
      ∙ rw (← count-orders) (over-front orders (orders_of es) at (omega arith)) ∙ sym log-orders)
    where
      count-terms : length (terms_of es) ≡ length es
      count-terms = terms_long es

      count-orders : length (orders_of es) ≡ length es
      count-orders = orders_long es
