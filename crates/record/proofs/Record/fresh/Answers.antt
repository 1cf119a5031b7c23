-- Field by field.
use Rattle.raft.specs.Record.{fresh}
use Rattle.record.proofs.Record.fresh.Goals as goal

pub returns : goal.returns
unfolding fresh
returns c = rw c.none-lead.ensures
