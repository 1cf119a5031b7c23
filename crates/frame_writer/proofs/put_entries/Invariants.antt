-- The entries up to a place are written, and nothing else; the next goes behind them (`put-entry-next`).
use Rattle.std.proofs.Common.{◌≡◌, take}
use Rattle.digits.specs.Room.{over}
use Rattle.frames.specs.Message.{entry_fields, spell}
use Rattle.frame_writer.proofs.put_entries.Given as goal

abbrev pub invariant-loop-i : goal.invariant-loop-i
invariant-loop-i l =
    l.room ≡ over l.initial.room l.at (spell (entry_fields (take l.i l.entries)))
