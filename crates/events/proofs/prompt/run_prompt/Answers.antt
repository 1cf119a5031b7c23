-- What is decided, finished.
use mathlib.Core.List.{[]}
use mathlib.Core.Path.{◌∙◌}
use Rattle.raft.specs.Event.{step, is_prompted}
use Rattle.record.specs.GoodLaws.{ready-last}
use Rattle.record.specs.DecidingLaws.{sound, finished}
use Rattle.record.proofs.RefusalLaws.{exit-leaves}
use Rattle.events.proofs.prompt.run_prompt.Goals as goal

pub decide-requires : goal.decide-requires
decide-requires c = ready-last c.requires

pub returns-in_err-d : goal.returns-in_err-d
unfolding step
returns-in_err-d c =
    exit-leaves c.args.n _ c.from_residual.result c.from_residual.ensures.1 (c.in_err-d.ensures.by_index c.args.terms.now c.args.orders.now)

pub finish-requires : goal.finish-requires
unfolding step
finish-requires c =
    record {
      offered = [];
      sound = sound is_prompted c.requires (c.in_ok-d.ensures.by_index c.args.terms.now c.args.orders.now);
      none = c.in_ok-d.ensures.first_value;
    }

pub returns : goal.returns
unfolding step
returns c =
    c.finish.ensures ∙ finished is_prompted c.requires (c.in_ok-d.ensures.by_index c.args.terms.now c.args.orders.now)
    c.args.journal.now c.args.messages.now
