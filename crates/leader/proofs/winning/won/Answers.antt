-- With a full log the record that leads is settled as it is; otherwise it has room, and the blank is its entry.
use native.Mathlib.Omega.{arith}
use mathlib.Core.Path.{ap, ◌∙◌}
use Rattle.raft.specs.Record.{State}
use Rattle.raft.specs.Commit.{settle}
use Rattle.raft.proofs.CommitLaws.{ranged}
use Rattle.raft.specs.Order.{blank}
use Rattle.record.specs.GoodLaws.{ready-last}
use Rattle.leader.specs.LeadLaws.{first-ready, first-leads, first-term, full_decides, blank-decides}
use Rattle.leader.proofs.winning.won.Goals as goal

pub leading-first-requires : goal.leading-first-requires
leading-first-requires c = ready-last c.requires.ready

pub settled-requires : goal.settled-requires
settled-requires c =
    let ready = first-ready c.leading-first.ensures c.requires in
    record { in_terms = omega (arith, ready-last ready, ready.terms_long); matched = ranged _ ready.rules }

pub returns-then-n-ge-LOG : goal.returns-then-n-ge-LOG
unfolding settle
returns-then-n-ge-LOG c =
    let settles = c.settled.ensures in
    record {
      decides = rw c.step.ensures (full_decides c.leading-first.ensures c.requires c.if-n-ge-LOG.true _ settles.orders_value settles.last_value _);
      term_value = rw c.step.ensures (ap (λ (s : State). s.term) settles.orders_value ∙ first-term c.leading-first.ensures c.requires);
    }

pub adding-requires : goal.adding-requires
adding-requires c =
    record {
      ready = first-ready c.leading-first.ensures c.requires;
      room = omega (arith, c.leading-first.ensures.last, c.if-n-ge-LOG.false);
      leads = first-leads c.leading-first.ensures c.requires;
    }

pub returns : goal.returns
returns c =
    record {
      decides = blank-decides c.leading-first.ensures c.requires c.if-n-ge-LOG.false (c.adding.ensures.by_index blank);
      term_value = c.adding.ensures.term_value ∙ first-term c.leading-first.ensures c.requires;
    }
