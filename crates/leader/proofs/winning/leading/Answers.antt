-- Next of each box is the definition's, the struct counting the log's entries.
use mathlib.Core.Path.{refl}
use Rattle.raft.specs.Winning.{leading}
use Rattle.leader.proofs.winning.leading.Goals as goal

pub returns : goal.returns
unfolding leading
returns c =
    record {
      state = λ log h. rw (
        h,
        c.next_after.ensures,
        c.next_after-2.ensures,
        c.next_after-3.ensures,
        c.next_after-4.ensures,
        c.next_after-5.ensures,
        c.next_after-6.ensures,
        c.next_after-7.ensures,
      );
      last = refl;
    }
