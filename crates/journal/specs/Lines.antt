-- 01, 'Frames and journal lines': the bytes of a journal as whole lines, and a head's and a line's fields at their places. Assumes nothing.
use Rattle.std.specs.Prelude.{ℕ, suc, ◌+◌, ◌*◌, Bool, cond, ◌&&◌, ◌||◌, List, [], ◌∷◌, ◌++◌, eqb, leb, length}
use Rattle.digits.specs.Digits.{field}
use Rattle.frames.specs.Message.{line_feed}
use Rattle.frames.specs.Reading.{text_size, is_line, version, kind, entries_at}
use Rattle.raft.specs.Journal.{Line}

-- ---- whole lines

-- The whole lines of some bytes, each with its line feed, where those of a line before them are given.
-- "Bytes after the last line feed are dropped."
unfoldable pub lines_behind : List ℕ → List ℕ → List (List ℕ)
lines_behind begun [] = []
lines_behind begun (b ∷ bytes) =
    cond (eqb b line_feed) ((begun ++ (b ∷ [])) ∷ lines_behind [] bytes) (lines_behind (begun ++ (b ∷ [])) bytes)

unfoldable pub lines : List ℕ → List (List ℕ)
lines bytes = lines_behind [] bytes

-- "the number of bytes up to and with that line feed", the last one; 0 where there is none.
unfoldable pub whole_bytes : List ℕ → ℕ
whole_bytes [] = 0
whole_bytes (b ∷ bytes) = cond (eqb b line_feed || leb 1 (whole_bytes bytes)) (suc (whole_bytes bytes)) 0

-- ---- "head 01, 11, box, mask"

unfoldable pub box_in : List ℕ → ℕ
box_in s = field s 4 1

unfoldable pub mask_in : List ℕ → ℕ
mask_in s = field s 6 1

-- Its bytes.
abbrev pub head_size : ℕ
head_size = 4

-- The form of a head, whatever its box and mask: one line, version 01, kind 11, as long as a head is.
unfoldable pub head_shaped : List ℕ → Bool
head_shaped s = is_line s && eqb (version s) 1 && eqb (kind s) 17 && eqb (length s) (text_size head_size)

-- ---- "01, 10, box, term 4, vote 1, kept 2, count 1, entries"

unfoldable pub count_in : List ℕ → ℕ
count_in s = field s 20 1

-- The bytes of a line with so many entries.
abbrev pub line_size : ℕ → ℕ
line_size count = 11 + 12 * count

-- The form of a line, whatever its fields say: one line, version 01, kind 10, as long as its count tells.
unfoldable pub line_shaped : List ℕ → Bool
line_shaped s = is_line s && eqb (version s) 1 && eqb (kind s) 16 && eqb (length s) (text_size (line_size (count_in s)))

-- The fields, each at its place.
unfoldable pub line_in : List ℕ → Line
line_in s =
    record { box = box_in s; term = field s 6 4; vote = field s 14 1; kept = field s 16 2; entries = entries_at s 22 (count_in s) }
