-- What is offered is the one entry.
use Rattle.record.specs.Deciding.{one_entry}
use Rattle.finishing.proofs.adding.finish_one.Goals as goal

pub finish_adding-requires : goal.finish_adding-requires
unfolding one_entry
finish_adding-requires c = c.requires

pub returns : goal.returns
unfolding one_entry
returns c = c.finish_adding.ensures
