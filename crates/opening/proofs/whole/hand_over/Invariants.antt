-- The entries up to a place are handed over; the next goes behind them (`copy_next`).
use Rattle.std.proofs.Common.{ℕ, ◌≡◌, List, take}
use Rattle.digits.specs.Room.{over}
use Rattle.opening.proofs.whole.hand_over.Given as goal

-- The first i entries are there, and nothing else.
pub record Copied (terms₀ orders₀ terms-made orders-made terms orders : List ℕ) (i : ℕ) : Type 0 where
  pub terms_hold : terms ≡ over terms₀ 0 (take i terms-made)
  pub orders_hold : orders ≡ over orders₀ 0 (take i orders-made)

abbrev pub invariant-loop-i : goal.invariant-loop-i
invariant-loop-i l = Copied l.fn.terms l.fn.orders l.terms_made l.orders_made l.terms l.orders l.i
