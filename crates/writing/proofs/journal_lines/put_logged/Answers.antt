-- The entries up to a place are written; the next goes behind them (`put_logged_next`).
use Rattle.std.proofs.Common.{arith}
use Rattle.frames.specs.Message.{entry_fields}
use Rattle.frames.specs.WritingLaws.{put-none}
use Rattle.raft.specs.Lent.{entries_of}
use Rattle.record.specs.SizeLaws.{put_logged_next}
use Rattle.writing.proofs.journal_lines.put_logged.Goals as goal

pub loop-i-init : goal.loop-i-init
unfolding entry_fields entries_of
loop-i-init c = put-none _ _

pub loop-i-preserved : goal.loop-i-preserved
loop-i-preserved c =
    put_logged_next c.args.room.now c.args.at c.args.terms.now c.args.orders.now c.args.from c.loop-i.i (omega arith) c.loop-i.invariant c.put_entry.ensures
