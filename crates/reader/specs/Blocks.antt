-- What is held of a line that is not whole yet. Assumes nothing.
use Rattle.std.specs.Prelude.{ℕ, cond, ltb}

-- Of a line that fills the block, 1024 bytes stay: it has more than any line with a meaning, and so it is answered as a whole line too long is.
abbrev pub shortened : ℕ → ℕ → ℕ
shortened size held = cond (ltb held size) held (cond (ltb held 1024) held 1024)
