-- The largest match that a majority has, as the code looks for it; `settled_quick` (proofs/CommitLaws) is what it is for. Assumes nothing.
use Rattle.std.specs.Prelude.{ℕ, cond, ◌&&◌, ltb}
use Rattle.raft.specs.Record.{State}
use Rattle.raft.specs.Commit.{matches, is_matched}

-- A box's match, where it is above the largest-matched so far and a majority matches it.
unfoldable pub larger_matched : State → ℕ → ℕ → ℕ
larger_matched s b i = cond (ltb b (matches s i) && is_matched s (matches s i)) (matches s i) b

-- The largest match of a box that a majority matches, 0 where there is none.
unfoldable pub largest_matched : State → ℕ
largest_matched s = larger_matched s (larger_matched s (larger_matched s (larger_matched s (larger_matched s (larger_matched s (larger_matched s 0 1) 2) 3) 4) 5) 6) 7
