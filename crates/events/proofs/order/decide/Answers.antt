-- The definition's four cases; the last is the leader's entry.
use borrow.Author.Tests.{eq-eqb, ne_eqb, le-leb, lt-leb}
use Rattle.raft.specs.LentLaws.{length-entries_of}
use Rattle.raft.specs.Order.{is_full, order}
use Rattle.record.specs.DecidingLaws.{decides_as}
use Rattle.events.proofs.order.decide.Goals as goal

pub returns-then-n-ne-LEADER : goal.returns-then-n-ne-LEADER
unfolding order
returns-then-n-ne-LEADER c = rw (ne_eqb _ _ c.if-n-ne-LEADER.true)

pub returns-then-o-eq-BLANK : goal.returns-then-o-eq-BLANK
unfolding order
returns-then-o-eq-BLANK c = rw (eq-eqb _ _ c.if-n-ne-LEADER.false, eq-eqb _ _ c.if-o-eq-BLANK.true)

pub returns-then-n-ge-LOG : goal.returns-then-n-ge-LOG
unfolding order is_full
returns-then-n-ge-LOG c =
    let long = length-entries_of c.args.terms.now c.args.orders.now 0 c.args.n.last in
    rw (eq-eqb _ _ c.if-n-ne-LEADER.false, ne_eqb _ _ c.if-o-eq-BLANK.false, long, le-leb _ _ c.if-n-ge-LOG.true)

pub returns : goal.returns
unfolding order is_full
returns c =
    let long = length-entries_of c.args.terms.now c.args.orders.now 0 c.args.n.last in
    decides_as (c.adding.ensures.by_index c.args.o)
    (rw (eq-eqb _ _ c.if-n-ne-LEADER.false, ne_eqb _ _ c.if-o-eq-BLANK.false, long, lt-leb _ _ c.if-n-ge-LOG.false))
