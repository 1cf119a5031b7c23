-- What the rules over the lent log require of their callers, by name. Assumes nothing.
use Rattle.std.specs.Prelude.{ℕ, ◌+◌, ◌≤◌, List, length}
use Rattle.frames.specs.declared.Entry.{Entry}

-- Entries that can be stored from a place on: there are places for all of them.
pub record Storable (terms orders : List ℕ) (at : ℕ) (added : List Entry) : Type 0 where
  pub in_terms : at + length added ≤ length terms
  pub in_orders : at + length added ≤ length orders
