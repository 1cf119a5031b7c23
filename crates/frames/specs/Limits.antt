-- 01's limits, each under one name. The code has them as constants of `Fields`. Assumes nothing.
use Rattle.std.specs.Prelude.{ℕ, ◌+◌, ◌*◌, ◌^◌, ◌≤◌}

-- Boxes have the numbers 1 to 7.
abbrev pub boxes : ℕ
boxes = 7

-- A number that a box can have, for contracts that require one.
pub record IsBox (i : ℕ) : Type 0 where
  pub least : 1 ≤ i
  pub most : i ≤ boxes

-- A membership is a mask with a bit for each of them, so below 2 to the 7th.
abbrev pub masks : ℕ
masks = 2 ^ boxes

-- A log has at most 256 entries, so an index is at most 256.
abbrev pub log_limit : ℕ
log_limit = 256

-- A frame or journal line carries at most 4 entries.
abbrev pub entry_limit : ℕ
entry_limit = 4

-- No frame is longer than an append with so many entries: two digits a byte, and the line feed.
abbrev pub longest_message : ℕ
longest_message = 35 + 24 * entry_limit
