-- Field by field, and the log is not looked at.
use mathlib.Core.Path.{refl}
use Rattle.raft.specs.Timeout.{standing}
use Rattle.changes.proofs.roles.standing.Goals as goal

pub returns : goal.returns
unfolding standing
returns c =
    record { state = λ log h. rw (c.none-lead.ensures, c.bit.ensures); last = refl }
