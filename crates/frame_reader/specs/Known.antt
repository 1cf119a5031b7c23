-- What is known of a text when a step of the reader begins, part by part. Assumes nothing.
use Rattle.std.specs.Prelude.{ℕ, ◌+◌, ◌*◌, ◌≤◌, ◌<◌, ◌≡◌, Bool, true, ◌&&◌, List, eqb, leb, length}
use Rattle.digits.specs.Digits.{run}
use Rattle.frames.specs.Limits.{entry_limit}
use Rattle.frames.specs.Reading.{is_line, kind, count, size, text_size}

-- A line long enough for the shortest frame, with the kind that stands in it.
pub record LineOf (s : List ℕ) (k : ℕ) : Type 0 where
  pub line : is_line s ≡ true
  pub digits : 18 ≤ run s
  pub kind_is : k ≡ kind s

-- The fixed part of the kind is there.
pub record FixedOf (s : List ℕ) (k : ℕ) : Type 0 where
  pub kind_is : k ≡ kind s
  pub fixed : 2 * size k 0 ≤ run s

-- A line with one of the kinds, of any length.
pub record KindOf (s : List ℕ) (k : ℕ) : Type 0 where
  pub kind_is : k ≡ kind s
  pub most : k < 5
  pub line : run s + 1 ≡ length s

-- So many entries stand in the text from a place on, which is no later than an append's,
pub record EntriesIn (s : List ℕ) (from count : ℕ) : Type 0 where
  pub early : from ≤ 34
  pub inside : from + 24 * count ≤ run s

-- and one of a frame's four places for them.
pub record EntryIn (s : List ℕ) (from at count : ℕ) : Type 0 where
  pub place : at < entry_limit
  pub entries : EntriesIn s from count

-- As long as its kind and count tell, with at most four entries: what `readable` asks of a text that is headed.
abbrev pub is_long : List ℕ → Bool
is_long s = eqb (length s) (text_size (size (kind s) (count s))) && leb (count s) entry_limit
