-- The program `replay`: the box asked for, and the record that a journal opens to, as text. Assumes nothing.
use Rattle.std.specs.Prelude.{ℕ, ◌+◌, ◌-◌, Bool, cond, Option, Some, None, ◌&&◌, List, [], ◌∷◌, ◌++◌, eqb, leb, length, get_or}
use Rattle.frames.specs.declared.Entry.{Entry}
use Rattle.frames.specs.Limits.{boxes}
use Rattle.frames.specs.Message.{entry_fields, spell, line_feed}
use Rattle.raft.specs.Record.{State, last_index}
use Rattle.printing.specs.Text.{decimal}

-- "a first line with one digit, the box asked for": 1 to 7; none where it is another line.
unfoldable pub asks : List ℕ → Bool
asks s = eqb (length s) 2 && (leb 49 (get_or s 0 0) && leb (get_or s 0 0) (48 + boxes) && eqb (get_or s 1 0) line_feed)

unfoldable pub asked_box : List ℕ → Option ℕ
asked_box s = cond (asks s) (Some (get_or s 0 0 - 48)) None

abbrev pub space : ℕ
space = 32

-- A number, and what stands behind it.
unfoldable pub numbered : ℕ → ℕ → List ℕ
numbered n behind = decimal n ++ (behind ∷ [])

-- "`bytes term vote length` on one line"
unfoldable pub first_shown : (bytes term vote log-length : ℕ) → List ℕ
first_shown bytes term vote log-length = numbered bytes space ++ numbered term space ++ numbered vote space ++ numbered log-length line_feed

-- "then each log entry as its 24 digits on a line of its own"
unfoldable pub entry_shown : Entry → List ℕ
entry_shown e = spell (entry_fields (e ∷ [])) ++ (line_feed ∷ [])

unfoldable pub log_shown : List Entry → List ℕ
log_shown [] = []
log_shown (e ∷ log) = entry_shown e ++ log_shown log

unfoldable pub shown : ℕ → State → List ℕ
shown bytes s = first_shown bytes s.term s.vote (last_index s) ++ log_shown s.log
