-- What is kept of the sender is the definition's; all else stays.
use mathlib.Core.Path.{refl}
use Rattle.raft.specs.AppendAnswer.{heard}
use Rattle.leader.proofs.progress.heard.Goals as goal

pub returns : goal.returns
unfolding heard
returns c =
    record { state = λ log h. rw (c.next_heard.ensures, c.match_after-m.ensures); last = refl }
