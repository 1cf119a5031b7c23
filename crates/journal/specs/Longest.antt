-- The longest that a step writes, in bytes. (That none is longer: LongestLaws.) Assumes nothing.
use Rattle.std.specs.Prelude.{ℕ, ◌+◌, ◌-◌, ◌*◌}
use Rattle.frames.specs.Limits.{boxes, entry_limit, longest_message}

-- A journal line with four entries,
abbrev pub longest_line : ℕ
longest_line = 23 + 24 * entry_limit

-- and a message with four entries to each of six other boxes.
abbrev pub longest_messages : ℕ
longest_messages = (boxes - 1) * longest_message
