-- The definition's two cases.
use mathlib.Core.List.{[]}
use borrow.Author.Tests.{eq-eqb, ne_eqb}
use Rattle.raft.specs.Prompt.{prompt}
use Rattle.record.specs.declared.Send.{Send}
use Rattle.record.specs.Deciding.{messages_of, Aimed}
use Rattle.record.specs.DecidingLaws.{plain-decides}
use Rattle.events.proofs.prompt.decide.Goals as goal

pub returns-then-n-eq-LEADER : goal.returns-then-n-eq-LEADER
unfolding prompt messages_of Aimed
returns-then-n-eq-LEADER c =
    record {
      by_index = λ terms orders.
          rw c.step.ensures (plain-decides c.args.n [] terms orders Send.Appends c.requires tt (rw (eq-eqb _ _ c.if-n-eq-LEADER.true)));
      first_value = rw c.step.ensures;
    }

pub returns : goal.returns
unfolding prompt
returns c = record { by_index = λ terms orders. rw (ne_eqb _ _ c.if-n-eq-LEADER.false); first_value = tt }
