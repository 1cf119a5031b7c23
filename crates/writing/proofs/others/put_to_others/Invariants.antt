-- The boxes before i have their messages, and box i gets its behind them (`put_next`).
use Rattle.std.proofs.Common.{◌≡◌, ℕ, ◌-◌}
use Rattle.frames.specs.Message.{Message}
use Rattle.record.specs.Sizes.{shares}
use Rattle.writing.specs.Others.{Tells, Puts, Filled}
use Rattle.writing.proofs.others.put_to_others.Given as goal

abbrev pub invariant-loop-i : goal.invariant-loop-i
invariant-loop-i g l =
    record {
      place : (size : ℕ → ℕ) → Tells (goal.F-post g l.put) l.n size → l.at ≡ shares l.n size (l.i - 1);
      text : (message : ℕ → Message) → Puts (goal.F-post g l.put) l.n message → Filled l.n message l.fn.room l.room l.i;
    }
