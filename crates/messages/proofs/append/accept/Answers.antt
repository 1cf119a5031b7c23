-- The search's place decides: all is held, alarm 7, or entries are added.
use mathlib.Core.Path.{refl, sym, ◌∙◌}
use borrow.Author.Tests.{ltb-true, ltb-false}
use Rattle.record.specs.declared.Send.{Send}
use Rattle.record.specs.Deciding.{messages_of, Aimed}
use Rattle.record.specs.DecidingLaws.{changed-decides}
use Rattle.messages.specs.AppendLaws.{own-found, place-least, accept-held, accept_alarm, accept-adds}
use Rattle.messages.proofs.append.accept.Goals as goal

pub returns-then-place-end : goal.returns-then-place-end
unfolding messages_of Aimed
returns-then-place-end c =
    λ orders.
    let found = own-found c.requires.offered.lent orders c.args.index c.args.entries.now (c.search-place.ensures.by_index orders) in
    rw c.step.ensures
    (changed-decides c.args.t _ c.args.entries.now c.args.terms.now orders (Send.AppendAnswer c.args.from 1 _) c.following-next.ensures.last c.requires.offered.lent.last tt
    (accept-held c.args.t c.args.terms.now orders c.args.from c.args.index c.args.commit c.args.entries.now _ found
    _ c.following-next.ensures _ c.commit_after.ensures c.if-place-end.true))

pub returns-then-cuts_committed : goal.returns-then-cuts_committed
returns-then-cuts_committed c =
    λ orders.
    let found = own-found c.requires.offered.lent orders c.args.index c.args.entries.now (c.search-place.ensures.by_index orders) in
    (accept_alarm c.args.t c.args.terms.now orders c.args.from c.args.index c.args.commit c.args.entries.now _ found
    _ c.following-next.ensures _ c.commit_after.ensures c.if-place-end.false (ltb-true _ _ (sym c.cuts_committed.ensures ∙ c.if-cuts_committed.true)))

pub overflow_sub-result : goal.overflow_sub-result
overflow_sub-result c =
    place-least c.args.t c.args.terms.now c.args.terms.now c.args.from c.args.index c.args.commit c.args.entries.now _
    (own-found c.requires.offered.lent c.args.terms.now c.args.index c.args.entries.now (c.search-place.ensures.by_index c.args.terms.now)) _ c.following-next.ensures _ c.commit_after.ensures

pub returns : goal.returns
returns c =
    λ orders.
    let found = own-found c.requires.offered.lent orders c.args.index c.args.entries.now (c.search-place.ensures.by_index orders) in
    accept-adds c.args.t c.args.terms.now orders c.args.from c.args.index c.args.commit c.args.entries.now _ found
    _ c.following-next.ensures _ c.commit_after.ensures c.if-place-end.false c.requires.joint _ _ refl c.requires.offered
    (ltb-false _ _ (sym c.cuts_committed.ensures ∙ c.if-cuts_committed.false)) refl (λ log. refl)
