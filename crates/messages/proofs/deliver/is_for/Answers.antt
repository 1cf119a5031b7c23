-- The clauses are the definition's own.
use Rattle.raft.specs.Receive.{is_for}
use Rattle.messages.proofs.deliver.is_for.Goals as goal

pub returns : goal.returns
unfolding is_for
returns c = λ terms orders. rw c.is_other.ensures
