-- What the proofs of the search and of the storing use. Assumes nothing.
use Rattle.std.specs.Prelude.{ℕ, suc, ◌+◌, ◌-◌, ◌≤◌, ◌<◌, ◌≡◌, refl, length, get_or, take, drop, set}
use Rattle.std.proofs.Common.{add-one, arith, ap, ◌∙◌, drop-cons, drop_of_length-le}
use mathlib.Core.List.{List, [], ◌∷◌, map, map-append}
use Rattle.std.proofs.lemmas.List.{length-map, take_more, length-take-le}
use borrow.Author.Tests.{eq-eqb, ne_eqb}
use Rattle.digits.specs.Room.{over}
use Rattle.digits.specs.RoomLaws.{length_over, over_nothing, over-over}
use Rattle.frames.specs.declared.Entry.{Entry}
use Rattle.frames.specs.Fields.{no_entry, listed}
use Rattle.frames.specs.Laws.{length-listed}
use Rattle.frames.specs.WritingLaws.{listed_suc, stored_one}
use Rattle.raft.specs.Append.{agreed, stop}

-- ---- the search

-- nothing is left to offer
agreed_end : (held es : List Entry) (i : ℕ) → length es ≤ i → agreed held (drop i es) ≡ 0
unfolding agreed
agreed_end held es i h = rw (drop_of_length-le es h)

-- the log ends
agreed-past : (log es : List Entry) (at : ℕ) → length log ≤ at → agreed (drop at log) es ≡ 0
unfolding agreed
agreed-past log es at h = rw (drop_of_length-le log h) (none es)
  where
    none : (es : List Entry) → agreed [] es ≡ 0
    none [] = refl
    none (e ∷ es) = refl

module _ (log es : List Entry) (at i : ℕ) (l : at < length log) (h : i < length es) where
  -- another term stands there
  agreed_differs : ((get_or log at no_entry).term ≡ (get_or es i no_entry).term → ⊥) → agreed (drop at log) (drop i es) ≡ 0
  unfolding agreed
  agreed_differs d = rw (drop-cons log at no_entry l, drop-cons es i no_entry h, ne_eqb _ _ d)

  -- the same term stands there
  agreed-same : (get_or log at no_entry).term ≡ (get_or es i no_entry).term
      → agreed (drop at log) (drop i es) ≡ 1 + agreed (drop (at + 1) log) (drop (i + 1) es)
  unfolding agreed
  agreed-same d = rw (drop-cons log at no_entry l, drop-cons es i no_entry h, eq-eqb _ _ d, add-one at, add-one i)

module _ (log : List Entry) (index : ℕ) (es : List Entry) where
  -- What has been passed and what is passing yet make the whole search.
  abbrev pub Passed : ℕ → Type 0
  Passed at = stop log index es ≡ at + agreed (drop at log) (drop (at - index) es)

  pub passed_first : Passed index
  unfolding stop
  passed_first = ap (λ (i : ℕ). index + agreed (drop index log) (drop i es)) start
    where
      start : 0 ≡ index - index
      start = omega arith

  pub passed_next : (at : ℕ) → index ≤ at → at < length log → at < index + length es → (get_or log at no_entry).term ≡ (get_or es (at - index) no_entry).term → Passed at
      → Passed (at + 1)
  passed_next at a l h e p =
      omega (
        arith,
        p,
        agreed-same log es at (at - index) l (omega arith) e,
        ap (λ (i : ℕ). agreed (drop (at + 1) log) (drop i es)) place,
      )
    where
      place : at - index + 1 ≡ at + 1 - index
      place = omega arith

  -- The search has stopped where nothing more passes: nothing is left to offer,
  pub stops_end : (at : ℕ) → index + length es ≤ at → Passed at → at ≡ stop log index es
  stops_end at h p = omega (arith, p, agreed_end (drop at log) es (at - index) (omega arith))

  -- the log ends,
  pub stops-past : (at : ℕ) → length log ≤ at → Passed at → at ≡ stop log index es
  stops-past at h p = omega (arith, p, agreed-past log (drop (at - index) es) at h)

  -- or another term stands there.
  pub stops_differs : (at : ℕ) → index ≤ at → at < length log → at < index + length es
      → ((get_or log at no_entry).term ≡ (get_or es (at - index) no_entry).term → ⊥) → Passed at → at ≡ stop log index es
  stops_differs at a l h d p = omega (arith, p, agreed_differs log es at (at - index) l (omega arith) d)

-- ---- the storing, of the terms and of the orders alike

-- nothing is stored yet
pub store_none : (f : Entry → ℕ) (d : List ℕ) (es : List Entry) (at first : ℕ) → d ≡ over d at (map f (listed es first (first - first)))
unfolding listed
store_none f d es at first = over_nothing d at ∙ ap (λ (k : ℕ). over d at (map f (listed es first k))) none
  where
    none : 0 ≡ first - first
    none = omega arith

-- one entry more is stored
pub store_next : (f : Entry → ℕ) (d : List ℕ) {d₁ : List ℕ} (es : List Entry) (at i : ℕ) → i < length es → at + length es ≤ length d
    → d₁ ≡ over d at (map f (take i es)) → set d₁ (at + i) (f (get_or es i no_entry)) ≡ over d at (map f (take (i + 1) es))
store_next f d es at i l h p =
    rw (p, take_more es i no_entry l, map-append f, stored_one (over d at stored) (at + i) (f (get_or es i no_entry)) (omega (arith, whole)), behind)
    (over-over d at stored (f (get_or es i no_entry) ∷ []) (omega (arith, long)))
  where
    stored : List ℕ
    stored = map f (take i es)

    long : length stored ≡ i
    long = length-map (take i es) f ∙ length-take-le i es (omega arith)

    whole : length (over d at stored) ≡ length d
    whole = length_over d at stored (omega (arith, long))

    behind : at + i ≡ at + length stored
    behind = omega (arith, long)

-- the same of listed entries, from one on
pub store_next-listed : (f : Entry → ℕ) (d : List ℕ) {d₁ : List ℕ} (es : List Entry) (index first i : ℕ) → first ≤ i → index + i < length d
    → d₁ ≡ over d (index + first) (map f (listed es first (i - first)))
    → set d₁ (index + i) (f (get_or es i no_entry)) ≡ over d (index + first) (map f (listed es first (i + 1 - first)))
store_next-listed f d es index first i l h p =
    rw (
      p,
      more,
      listed_suc es first (i - first),
      there,
      map-append f,
      stored_one (over d (index + first) stored) (index + i) (f (get_or es i no_entry)) (omega (arith, whole)),
      behind,
    )
    (over-over d (index + first) stored (f (get_or es i no_entry) ∷ []) (omega (arith, long)))
  where
    stored : List ℕ
    stored = map f (listed es first (i - first))

    long : length stored ≡ i - first
    long = length-map (listed es first (i - first)) f ∙ length-listed es first (i - first)

    whole : length (over d (index + first) stored) ≡ length d
    whole = length_over d (index + first) stored (omega (arith, long))

    more : i + 1 - first ≡ suc (i - first)
    more = omega arith

    there : first + (i - first) ≡ i
    there = omega arith

    behind : index + i ≡ index + first + length stored
    behind = omega (arith, long)
