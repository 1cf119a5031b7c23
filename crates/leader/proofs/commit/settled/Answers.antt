-- The quick way to the commit, over the lent log.
use native.Mathlib.Omega.{arith}
use mathlib.Core.Path.{refl}
use Rattle.raft.specs.LentLaws.{length-entries_of}
use Rattle.raft.specs.Commit.{settle}
use Rattle.record.specs.Calls.{entries_of}
use Rattle.record.specs.ChangeLaws.{settles, largest_low-last}
use Rattle.leader.proofs.commit.settled.Goals as goal

pub term_at-requires : goal.term_at-requires
term_at-requires c =
    let log = entries_of c.args.terms.now c.args.orders.now 0 c.args.n.last in
    let long = length-entries_of c.args.terms.now c.args.orders.now 0 c.args.n.last in
    omega (arith, largest_low-last c.args.n log c.requires.matched _ (c.largest_matched-found.ensures log long), long, c.requires.in_terms)

pub returns : goal.returns
unfolding settle
returns c =
    let log = entries_of c.args.terms.now c.args.orders.now 0 c.args.n.last in
    let long = length-entries_of c.args.terms.now c.args.orders.now 0 c.args.n.last in
    let found = c.largest_matched-found.ensures log long in
    let low = largest_low-last c.args.n log c.requires.matched _ found in
    let term = c.term_at.ensures c.args.orders.now c.args.n.last (omega (arith, low, long)) in
    record { orders_value = rw (settles c.args.n log c.requires.matched _ _ _ found term c.commit_at.ensures); last_value = refl }
