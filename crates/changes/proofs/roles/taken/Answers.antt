-- The definition's two cases: a higher term makes a follower, with that term and no vote.
use native.Mathlib.Omega.{arith}
use Prim.Native.Nat.{◌<◌, ◌≤◌}
use mathlib.Core.Path.{refl, ap}
use borrow.Author.Tests.{lt-ltb, le-ltb}
use Rattle.raft.specs.Record.{State, with_vote, with_term}
use Rattle.raft.specs.AnyMessage.{taking, taken}
use Rattle.raft.specs.Append.{following}
use Rattle.changes.proofs.roles.taken.Goals as goal

pub returns-then-n-term : goal.returns-then-n-term
unfolding taken taking following
returns-then-n-term c =
    let higher : c.args.n.term < c.args.term = omega arith in
    record {
      state = λ log h. rw (lt-ltb _ _ higher) (ap (λ (s : State). with_vote 0 (with_term c.args.term s)) (c.following-r.ensures.state log h));
      last = c.following-r.ensures.last;
    }

pub returns : goal.returns
unfolding taken
returns c =
    let not-higher : c.args.term ≤ c.args.n.term = omega arith in
    record { state = λ log h. rw (le-ltb _ _ not-higher); last = refl }
