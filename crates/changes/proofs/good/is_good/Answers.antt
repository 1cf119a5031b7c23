-- Too long a log and a bad membership are refused first; of another record the rest decides (`good-by`).
use native.Mathlib.Omega.{arith}
use mathlib.Core.List.{[]}
use mathlib.Core.Path.{sym, ap, ◌∙◌}
use Rattle.frames.specs.Rules.{in_order}
use Rattle.record.specs.GoodLaws.{membership-box, good-by, not-good-long, not-good-membership}
use Rattle.rules.specs.SliceLaws.{entries-own}
use Rattle.changes.proofs.good.is_good.Goals as goal

pub returns-then-last-gt-LOG : goal.returns-then-last-gt-LOG
returns-then-last-gt-LOG c =
    λ orders. sym (not-good-long c.args.n c.args.terms.now orders c.if-last-gt-LOG.true)

pub returns-then-not-is_membership : goal.returns-then-not-is_membership
returns-then-not-is_membership c =
    λ orders. sym (not-good-membership c.args.n c.args.terms.now orders (sym c.is_membership.ensures ∙ c.if-not-is_membership.true))

pub are_votes-requires : goal.are_votes-requires
are_votes-requires c =
    membership-box _ _ (sym c.is_membership.ensures ∙ c.if-not-is_membership.false)

pub returns : goal.returns
returns c =
    λ orders.
    let own = entries-own c.args.terms.now [] c.args.n.last (omega arith) in
    let ordered = c.in_order.ensures ∙ ap (in_order 0 c.args.n.term) own in
    rw (c.is_vote.ensures, ordered, c.is_role.ensures, c.are_votes.ensures, c.all_progress.ensures)
    (sym (good-by c.args.n c.args.terms.now orders (sym c.is_membership.ensures ∙ c.if-not-is_membership.false) (omega arith)))
