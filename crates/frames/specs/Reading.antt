-- Reading a frame: from any bytes to the message, or the refusal. Assumes nothing.
use Rattle.std.specs.Prelude.{ℕ, zero, suc, ◌+◌, ◌*◌, Bool, cond, ◌&&◌, List, [], ◌∷◌, eqb, leb, length, get_or}
use Rattle.digits.specs.Digits.{field, run}
use Rattle.frames.specs.declared.Entry.{Entry}
use Rattle.frames.specs.Limits.{entry_limit}
use Rattle.frames.specs.Message.{Message, vote_request, vote_answer, append, append_answer, by_kind, line_feed}
use Rattle.frames.specs.Rules.{obeys}

-- "Fixed parts by kind, in a constant table of lengths", in bytes.
abbrev pub lengths : List ℕ
lengths = 0 ∷ 14 ∷ 9 ∷ 17 ∷ 11 ∷ []

-- The bytes of a frame of a kind with so many entries: "17 + 12 x count".
unfoldable pub size : ℕ → ℕ → ℕ
size kind count = get_or lengths kind 0 + 12 * count

-- The characters of so many bytes: two digits a byte, and the line feed.
abbrev pub text_size : ℕ → ℕ
text_size bytes = 2 * bytes + 1

-- Digits, ended by one line feed, and nothing after it.
unfoldable pub is_line : List ℕ → Bool
is_line s = eqb (run s + 1) (length s) && eqb (get_or s (run s) 0) line_feed

unfoldable pub version : List ℕ → ℕ
version s = field s 0 1

unfoldable pub kind : List ℕ → ℕ
kind s = field s 2 1

-- Only an append has a count.
unfoldable pub count : List ℕ → ℕ
count s = cond (eqb (kind s) 3) (field s 32 1) 0

-- The form of a frame, whatever its fields say: one line, version 01, one of the four kinds, as long as its kind and count tell.
unfoldable pub is_headed : List ℕ → Bool
is_headed s = is_line s && eqb (version s) 1 && leb 1 (kind s) && leb (kind s) 4

unfoldable pub shaped : List ℕ → Bool
shaped s = is_headed s && eqb (length s) (text_size (size (kind s) (count s)))

-- What is settled before any field is read: the form, and that the entries are at most four.
unfoldable pub readable : List ℕ → Bool
readable s = shaped s && leb (count s) entry_limit

-- The entry whose text starts at a place, and so many entries from there on.
unfoldable pub entry_at : List ℕ → ℕ → Entry
entry_at s at = record { term = field s at 4; order = field s (at + 8) 8 }

unfoldable pub entries_at : List ℕ → ℕ → ℕ → List Entry
entries_at s at zero = []
entries_at s at (suc n) = entry_at s at ∷ entries_at s (at + 24) n

-- The fields of the four kinds, each at its place.
unfoldable pub vote_request_in : List ℕ → Message
vote_request_in s = vote_request (field s 4 1) (field s 6 1) (field s 8 4) (field s 16 2) (field s 20 4)

unfoldable pub vote_answer_in : List ℕ → Message
vote_answer_in s = vote_answer (field s 4 1) (field s 6 1) (field s 8 4) (field s 16 1)

unfoldable pub append_in : List ℕ → Message
append_in s =
    append (field s 4 1) (field s 6 1) (field s 8 4) (field s 16 2) (field s 20 4) (field s 28 2) (entries_at s 34 (field s 32 1))

unfoldable pub append_answer_in : List ℕ → Message
append_answer_in s = append_answer (field s 4 1) (field s 6 1) (field s 8 4) (field s 16 1) (field s 18 2)

unfoldable pub message_in : List ℕ → Message
message_in s = by_kind (kind s) (vote_request_in s) (vote_answer_in s) (append_in s) (append_answer_in s)

-- Is a frame: it has the form of one, and its fields obey the rules.
unfoldable pub is_frame : List ℕ → Bool
is_frame s = shaped s && obeys (message_in s)

pub data Reading : Type 0 where
  frame : Message → Reading
  refused : Reading

-- The message, or refusal 1 exactly when the bytes are not one frame.
unfoldable pub reading : List ℕ → Reading
reading s = cond (is_frame s) (frame (message_in s)) refused
