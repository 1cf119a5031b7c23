-- What the changes of a record require of their callers, by name. Assumes nothing.
use Rattle.std.specs.Prelude.{ℕ, ◌≤◌, ◌<◌}
use Rattle.frames.specs.Limits.{IsBox, log_limit}
use Rattle.record.specs.declared.Record.{Record}

-- A box, at a record whose log is no longer than a log can be.
pub record AtBox (b : Record) (i : ℕ) : Type 0 where
  pub box : IsBox i
  pub last : b.last ≤ log_limit

-- A box that can become a candidate: there is a next term.
pub record MayStand (b : Record) : Type 0 where
  pub me : IsBox b.me
  pub early : b.term < 4294967295
