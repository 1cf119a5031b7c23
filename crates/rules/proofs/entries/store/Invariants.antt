-- The entries up to a place are stored; the next goes behind them (`store_next`), in the terms and in the orders.
use Rattle.std.proofs.Common.{ℕ, ◌≡◌, List, take}
use Rattle.digits.specs.Room.{over}
use Rattle.frames.specs.declared.Entry.{Entry}
use Rattle.raft.specs.Lent.{terms_of, orders_of}
use Rattle.rules.proofs.entries.store.Given as goal

-- The first i entries are stored, and nothing else.
pub record Stored (terms₀ orders₀ : List ℕ) (at : ℕ) (added : List Entry) (terms orders : List ℕ) (i : ℕ) : Type 0 where
  pub terms_hold : terms ≡ over terms₀ at (terms_of (take i added))
  pub orders_hold : orders ≡ over orders₀ at (orders_of (take i added))

abbrev pub invariant-loop-i : goal.invariant-loop-i
invariant-loop-i l = Stored l.fn.terms l.fn.orders l.at l.added l.terms l.orders l.i
