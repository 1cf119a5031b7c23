-- The leader's record with the entry is the one that is settled.
use mathlib.Core.Path.{ap}
use Rattle.raft.specs.Record.{State}
use Rattle.raft.specs.Commit.{settle}
use Rattle.raft.specs.Order.{ordered}
use Rattle.record.specs.DecidingLaws.{order-decides}
use Rattle.leader.proofs.entries.adding.Goals as goal

pub returns : goal.returns
unfolding settle ordered
returns c =
    record {
      by_index = λ o. order-decides c.args.n _ c.args.terms.now c.args.orders.now _ o c.requires.room c.ordered-next.ensures.last_value
          (rw (c.ordered-next.ensures.by_index o));
      term_value = ap (λ (s : State). s.term) (c.ordered-next.ensures.by_index 0);
    }
