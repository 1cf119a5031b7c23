-- The entry at an index is the lent one (`term-there`).
use native.Mathlib.Omega.{arith}
use mathlib.Core.Path.{sym}
use Rattle.raft.specs.LentLaws.{term-there, term-none}
use Rattle.rules.proofs.entries.term_at.Goals as goal

pub returns-then-index-eq0 : goal.returns-then-index-eq0
returns-then-index-eq0 c = λ orders last h. rw c.if-index-eq0.true (sym (term-none _))

pub returns : goal.returns
returns c =
    λ orders last h. sym (term-there c.args.terms.now orders last c.args.index (omega arith) h)
