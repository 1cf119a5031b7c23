-- What is decided, finished with the blank, where there is one.
use mathlib.Core.Path.{◌∙◌}
use Rattle.raft.specs.Event.{step, times_out}
use Rattle.record.specs.DecidingLaws.{sound, finished}
use Rattle.record.proofs.RefusalLaws.{exit-leaves}
use Rattle.events.proofs.timeout.run_timeout.Goals as goal

pub returns-in_err-d : goal.returns-in_err-d
unfolding step
returns-in_err-d c = exit-leaves c.args.n _ c.from_residual.result c.from_residual.ensures.1 c.in_err-d.ensures

pub finish_one-requires : goal.finish_one-requires
unfolding step
finish_one-requires c =
    sound times_out c.requires c.in_ok-d.ensures

pub returns : goal.returns
unfolding step
returns c =
    c.finish_one.ensures ∙ finished times_out c.requires c.in_ok-d.ensures c.args.journal.now c.args.messages.now
