-- What the functions of the program require of their callers, by name. Assumes nothing.
use Rattle.std.specs.Prelude.{ℕ, ◌≤◌, List, length}
use Rattle.frames.specs.Limits.{log_limit}
use Rattle.printing.specs.Putting.{shown_most}
use Rattle.record.specs.declared.Record.{Record}

-- A block that holds so many bytes, and a record whose log is no longer than a log can be.
pub record Continues (b : Record) (input : List ℕ) (filled : ℕ) : Type 0 where
  pub held : filled ≤ length input
  pub last : b.last ≤ log_limit

-- Such a record, and room for its text.
pub record Showable (b : Record) (output : List ℕ) : Type 0 where
  pub last : b.last ≤ log_limit
  pub room : shown_most ≤ length output
