-- The entries up to a place are shown; the next goes behind them (`logged_next`).
use mathlib.Core.Path.{◌≡◌}
use Rattle.digits.specs.Room.{over}
use Rattle.raft.specs.Lent.{entries_of}
use Rattle.printing.specs.Looking.{log_shown}
use Rattle.printing.proofs.looking.put_log.Given as goal

abbrev pub invariant-loop-i : goal.invariant-loop-i
invariant-loop-i l = l.room ≡ over l.initial.room l.at (log_shown (entries_of l.terms l.orders 0 l.i))
