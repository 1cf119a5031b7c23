-- The shares of the boxes before i, one more at each turn.
use Rattle.std.proofs.Common.{◌≡◌, ℕ, ◌-◌, ◌*◌, ◌≤◌}
use Rattle.frames.specs.Limits.{IsBox, longest_message}
use Rattle.record.specs.Sizes.{shares}
use Rattle.writing.proofs.others.shares.Given as goal

abbrev pub invariant-loop-i : goal.invariant-loop-i
invariant-loop-i g l =
    record {
      low : l.bytes ≤ longest_message * (l.i - 1);
      summed : (share : ℕ → ℕ) → ((i r : ℕ) → IsBox i → goal.F-post g l.size i r → r ≡ share i) → l.bytes ≡ shares l.n share (l.i - 1);
    }
