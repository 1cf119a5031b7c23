-- Terms that never fall are at most the last of them: so the rule is that they rise from 1 on and that the last is at most the term (`order-whole`).
use Rattle.std.proofs.Common.{ℕ, ◌≡◌, Bool, List, []}
use Rattle.raft.specs.Lent.{entries_of}
use Rattle.rules.specs.RecordLaws.{final, rises}
use Rattle.rules.proofs.record_rules.in_order.Given as goal

-- The first i terms are passed: the last of them, and whether they rise.
pub record Passed (terms : List ℕ) (ok : Bool) (previous i : ℕ) : Type 0 where
  pub latest : previous ≡ final 1 (entries_of terms [] 0 i)
  pub found : ok ≡ rises 1 (entries_of terms [] 0 i)

abbrev pub invariant-loop-t : goal.invariant-loop-t
invariant-loop-t l = Passed l.terms l.ok l.previous l.t-index
