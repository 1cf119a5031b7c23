-- The entries up to a place are written; the next goes behind them (`put_logged_next`).
use Rattle.std.proofs.Common.{◌≡◌}
use Rattle.digits.specs.Room.{over}
use Rattle.frames.specs.Message.{entry_fields, spell}
use Rattle.raft.specs.Lent.{entries_of}
use Rattle.writing.proofs.journal_lines.put_logged.Given as goal

abbrev pub invariant-loop-i : goal.invariant-loop-i
invariant-loop-i l = l.room ≡ over l.fn.room l.at (spell (entry_fields (entries_of l.terms l.orders l.from l.i)))
