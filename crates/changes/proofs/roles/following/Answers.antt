-- Field by field, and the log is not looked at.
use mathlib.Core.Path.{refl}
use Rattle.raft.specs.Append.{following}
use Rattle.changes.proofs.roles.following.Goals as goal

pub returns : goal.returns
unfolding following
returns c =
    record { state = λ log h. rw c.none-lead.ensures; last = refl }
