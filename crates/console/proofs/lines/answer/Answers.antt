-- Too little room, or the answer at a record that is looked at once.
use Rattle.console.specs.AnswerLaws.{line-short}
use Rattle.console.proofs.lines.answer.Goals as goal

pub returns-then-room-lt-LONGEST : goal.returns-then-room-lt-LONGEST
returns-then-room-lt-LONGEST c =
    line-short c.args.line.now c.if-room-lt-LONGEST.true
