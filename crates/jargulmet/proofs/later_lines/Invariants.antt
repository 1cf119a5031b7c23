-- What is held never passes the block, nor what is consumed what is held.
use Prim.Native.Nat.{ℕ, ◌≤◌}
use mathlib.Core.Path.{◌≡◌}
use mathlib.Core.List.{List}
use lib.ListN.{length}
use Rattle.jargulmet.proofs.later_lines.Given as goal

pub record Held (input₀ input : List ℕ) (at held : ℕ) : Type 0 where
  pub before : at ≤ held
  pub within : held ≤ length input
  pub long : length input ≡ length input₀

abbrev pub invariant-loop : goal.invariant-loop
invariant-loop g l = Held l.initial.input l.input l.at l.held
