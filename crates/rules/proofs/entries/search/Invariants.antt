-- What was passed and what is passing yet make the whole search (`Passed`); it stops where nothing more passes.
use Rattle.std.proofs.Common.{ℕ, List, ◌+◌, ◌-◌, ◌≤◌, length}
use Rattle.frames.specs.declared.Entry.{Entry}
use Rattle.raft.specs.Lent.{entries_of}
use Rattle.rules.specs.SearchLaws.{Passed}
use Rattle.rules.proofs.entries.search.Given as goal

-- The search stands at a place of the log and of what is offered.
pub record At (terms : List ℕ) (index : ℕ) (offered : List Entry) (at : ℕ) : Type 0 where
  pub least : index ≤ at
  pub most : at ≤ index + length offered
  pub held : at ≤ length terms
  pub passed : (orders : List ℕ) → Passed (entries_of terms orders 0 (length terms)) index offered at

abbrev pub invariant-loop-at : goal.invariant-loop-at
invariant-loop-at l = At l.terms l.index l.offered l.at

abbrev pub decreases-loop-at : goal.decreases-loop-at
decreases-loop-at l = l.end - l.at
