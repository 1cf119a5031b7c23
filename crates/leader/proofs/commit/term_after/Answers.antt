-- Up to the last index the entry is lent; the one behind it is of the current term.
use native.Mathlib.Omega.{arith}
use mathlib.Core.Path.{sym, ◌∙◌}
use Rattle.raft.specs.LentLaws.{length-entries_of}
use Rattle.record.specs.Calls.{entries_of}
use Rattle.raft.proofs.CommitLaws.{term-front, term-new}
use Rattle.leader.proofs.commit.term_after.Goals as goal

pub returns-then-index-n : goal.returns-then-index-n
returns-then-index-n c =
    λ orders o.
    let log = entries_of c.args.terms.now orders 0 c.args.n.last in
    sym (term-new log _ _ (omega (arith, length-entries_of c.args.terms.now orders 0 c.args.n.last, c.if-index-n.true)))

pub returns : goal.returns
returns c =
    λ orders o.
    let log = entries_of c.args.terms.now orders 0 c.args.n.last in
    c.term_at.ensures orders c.args.n.last (omega (arith, c.if-index-n.false, c.requires.inside))
    ∙ sym (term-front log _ _ (omega (arith, length-entries_of c.args.terms.now orders 0 c.args.n.last, c.if-index-n.false, c.requires.inside)))
