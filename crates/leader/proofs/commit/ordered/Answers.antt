-- The quick way to the commit, over the log with the new entry.
use native.Mathlib.Omega.{arith}
use mathlib.Core.Path.{refl}
use Rattle.raft.specs.Commit.{settle}
use Rattle.raft.specs.Order.{ordered}
use Rattle.record.specs.ChangeLaws.{settles, largest_low-last, longer, longer-long, longer_ranged}
use Rattle.leader.proofs.commit.ordered.Goals as goal

pub term_after-requires : goal.term_after-requires
term_after-requires c =
    let log = longer c.args.n c.args.terms.now c.args.orders.now 0 in
    let long = longer-long c.args.n c.args.terms.now c.args.orders.now 0 in
    let ranged = longer_ranged c.args.n c.args.terms.now c.args.orders.now 0 c.requires.ready c.requires.leads c.requires.room in
    let found = largest_low-last c.args.n log ranged _ (c.largest_matched-found.ensures log long) in
    record { inside = omega (arith, found, long); in_terms = omega (arith, c.requires.ready.terms_long, c.requires.room); room = c.requires.room }

pub returns : goal.returns
unfolding settle ordered
returns c =
    record {
      by_index = λ o.
          let log = longer c.args.n c.args.terms.now c.args.orders.now o in
          let long = longer-long c.args.n c.args.terms.now c.args.orders.now o in
          let ranged = longer_ranged c.args.n c.args.terms.now c.args.orders.now o c.requires.ready c.requires.leads c.requires.room in
          rw (settles c.args.n log ranged _ _ _ (c.largest_matched-found.ensures log long) (c.term_after.ensures c.args.orders.now o) c.commit_at.ensures);
      last_value = refl;
    }
