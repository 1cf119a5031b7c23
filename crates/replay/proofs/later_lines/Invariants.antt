-- What is held never passes the block, nor what was replayed what is held, nor the log its limit.
use Rattle.std.proofs.Common.{◌≡◌, ℕ, ◌≤◌, List, length}
use Rattle.frames.specs.Limits.{log_limit}
use Rattle.record.specs.declared.Record.{Record}
use Rattle.replay.proofs.later_lines.Given as goal

pub record Held (input₀ : List ℕ) (state : Record) (input : List ℕ) (at held : ℕ) : Type 0 where
  pub before : at ≤ held
  pub within : held ≤ length input
  pub long : length input ≡ length input₀
  pub room : state.last ≤ log_limit

abbrev pub invariant-loop : goal.invariant-loop
invariant-loop g l = Held l.initial.input l.state l.input l.at l.held
