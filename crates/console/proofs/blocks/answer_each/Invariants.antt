-- What was answered and what is left make the whole (`block_next`); each turn takes a line.
use mathlib.Core.Path.{◌≡◌}
use Prim.Native.Nat.{ℕ, ◌-◌}
use mathlib.Core.Bool.{Bool}
use mathlib.Core.List.{List}
use lib.ListN.{length}
use Rattle.record.specs.declared.Record.{Record}
use Rattle.console.specs.BlockLaws.{Reached}
use Rattle.console.proofs.blocks.answer_each.Given as goal

-- Where the loop is, and that the messages' room stays as long as it was.
pub record Here (known : Bool) (n : Record) (bytes terms₀ orders₀ room₀ messages₀ : List ℕ) (b : Record) (at to : ℕ) (terms orders room messages : List ℕ) : Type 0 where
  pub reached : Reached known n bytes terms₀ orders₀ room₀ b at to terms orders room
  pub aside : length messages ≡ length messages₀

abbrev pub invariant-loop-at : goal.invariant-loop-at
invariant-loop-at l =
    Here l.known l.initial.state l.bytes l.initial.terms l.initial.orders l.initial.room l.initial.messages l.state l.at l.to l.terms l.orders l.room l.messages

abbrev pub decreases-loop-at : goal.decreases-loop-at
decreases-loop-at l = length l.bytes - l.at
