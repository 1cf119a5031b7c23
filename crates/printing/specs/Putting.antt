-- What a text put into a room leaves there, and what a record's text requires. Assumes nothing.
use Rattle.std.specs.Prelude.{ℕ, ◌+◌, ◌*◌, ◌≤◌, ◌≡◌, List, length}
use Rattle.digits.specs.Room.{over}
use Rattle.frames.specs.Limits.{log_limit}
use Rattle.record.specs.declared.Record.{Record}

-- A text is put at a place of a room: the place behind it, and the room that holds it.
pub record Puts (room : List ℕ) (at : ℕ) (text : List ℕ) (end : ℕ) (room' : List ℕ) : Type 0 where
  pub behind : end ≡ at + length text
  pub holds : room' ≡ over room at text

-- What a log's text requires: that many entries are lent, and from a place on the room has 25 bytes for each.
pub record Listable (terms orders : List ℕ) (last : ℕ) (room : List ℕ) (at : ℕ) : Type 0 where
  pub terms_hold : last ≤ length terms
  pub orders_hold : last ≤ length orders
  pub wide : at + 25 * last ≤ length room

-- Any record's text fits here: four numbers, each with what stands behind it, and a line for each entry of a full log.
abbrev pub shown_most : ℕ
shown_most = 84 + 25 * log_limit

-- What a record's text requires: the log is lent whole, the record's part of it fits, and the room holds any record.
pub record Showable (b : Record) (terms orders room : List ℕ) : Type 0 where
  pub terms_long : length terms ≡ log_limit
  pub orders_long : length orders ≡ log_limit
  pub fits : b.last ≤ log_limit
  pub wide : shown_most ≤ length room
