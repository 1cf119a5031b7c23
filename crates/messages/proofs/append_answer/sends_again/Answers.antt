-- The clauses are the definition's own.
use Rattle.raft.specs.AppendAnswer.{sends_again}
use Rattle.raft.specs.LentLaws.{length-entries_of}
use Rattle.messages.proofs.append_answer.sends_again.Goals as goal

pub returns : goal.returns
unfolding sends_again
returns c = λ terms orders. rw length-entries_of
