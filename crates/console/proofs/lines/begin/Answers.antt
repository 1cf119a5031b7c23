-- A head starts its box; any other line is answered 12.
use native.Mathlib.Omega.{arith}
use mathlib.Core.Path.{◌≡◌, refl, sym}
use Rattle.frames.specs.Refusal.{number}
use Rattle.frames.specs.RefusalLaws.{not_0}
use Rattle.console.specs.BeginLaws.{begin_short, start-bad, start-done, begin_within}
use Rattle.console.proofs.lines.begin.Goals as goal

pub returns-then-room-lt-LONGEST : goal.returns-then-room-lt-LONGEST
returns-then-room-lt-LONGEST c =
    record { begins = begin_short c.args.line.now c.args.room.now c.if-room-lt-LONGEST.true refl; bytes_in_bounds = tt }

pub returns-in-Ok : goal.returns-in-Ok
returns-in-Ok c =
    let whole = start-done c.args.line.now c.args.room.now (omega (arith, c.if-room-lt-LONGEST.false)) c.in-Ok.ensures refl in
    record { begins = whole; bytes_in_bounds = begin_within c.args.line.now c.args.room.now whole }

pub returns-in-Err : goal.returns-in-Err
returns-in-Err c =
    let whole = start-bad c.args.line.now c.args.room.now (omega (arith, c.if-room-lt-LONGEST.false)) c.in-Err.ensures (not_0 c.in-Err.field-0) (rw c.number.ensures at c.put_refusal.ensures) in
    record { begins = whole; bytes_in_bounds = begin_within c.args.line.now c.args.room.now whole }
