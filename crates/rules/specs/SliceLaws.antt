-- What slices of the offered entries and of the lent terms are, for callers that lend a part. Assumes nothing.
use Rattle.std.specs.Prelude.{ℕ, zero, suc, ◌+◌, ◌-◌, ◌≤◌, ◌≡◌, refl, List, length, take, drop, slice_range}
use Rattle.std.proofs.Common.{arith, ap, ◌∙◌, drop-cons}
use Rattle.std.proofs.lemmas.List.{length-take-le, get_or-take}
use Rattle.frames.specs.declared.Entry.{Entry}
use Rattle.frames.specs.Fields.{no_entry, listed}
use Rattle.raft.specs.Lent.{entries_of}

-- the entries from one on, up to another, are the slice between them
pub listed-slice : (es : List Entry) (a b : ℕ) → b ≤ length es → listed es a (b - a) ≡ slice_range es a b
unfolding listed
listed-slice es a b h = go a (b - a) (λ l. omega arith)
  where
    go : (at n : ℕ) → (1 ≤ n → at + n ≤ length es) → listed es at n ≡ take n (drop at es)
    go at zero within = refl
    go at (suc n) within = rw (drop-cons es at no_entry (omega (arith, within)), go (suc at) n (λ l. omega (arith, within)))

-- the log is told by its own terms alone, whatever stands behind them
pub entries-own : (terms orders : List ℕ) (last : ℕ) → last ≤ length terms
    → entries_of (take last terms) orders 0 (length (take last terms)) ≡ entries_of terms orders 0 last
unfolding entries_of
entries-own terms orders last h =
    ap (entries_of (take last terms) orders 0) (length-take-le last terms h) ∙ go 0 last (omega arith)
  where
    go : (at n : ℕ) → at + n ≤ last → entries_of (take last terms) orders at n ≡ entries_of terms orders at n
    go at zero within = refl
    go at (suc n) within = rw (get_or-take last terms at 0 (omega arith), go (suc at) n (omega arith))
