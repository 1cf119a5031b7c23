-- A frame read and written, for callers in C and Rust. Assumes nothing.
use Rattle.std.specs.Prelude.{ℕ, ◌≡◌, cond, List}
use Rattle.frames.specs.Refusal.{code}
use Rattle.frames.specs.Fields.{fields_of}
use Rattle.frames.specs.Reading.{Reading, frame, refused, reading}
use Rattle.frames.specs.Writing.{written}
use Rattle.flat.specs.Message.{flat, in_range, fields_in}

-- 0 and the fields' numbers, or 1 and the numbers as they were.
pub record ReadFlat : Type 0 where
  pub refusal : ℕ
  pub numbers : List ℕ

unfoldable pub read_as : Reading → List ℕ → ReadFlat
read_as (frame m) n = record { refusal = 0; numbers = flat (fields_of m) n }
read_as refused n = record { refusal = 1; numbers = n }

abbrev pub read_flat : List ℕ → List ℕ → ReadFlat
read_flat s n = read_as (reading s) n

-- As the contract says it: what was lent before, the answer, and what is lent behind it.
abbrev pub Reads : (text n : List ℕ) → ℕ → (n' : List ℕ) → Type 0
Reads text n r n' = ◌≡◌ {A = ReadFlat} (record { refusal = r; numbers = n' }) (read_flat text n)

-- 1 where a number does not fit its field; otherwise what the writer answers, and the room as it leaves it.
pub record WroteFlat : Type 0 where
  pub refusal : ℕ
  pub room : List ℕ

unfoldable pub write_flat : List ℕ → List ℕ → WroteFlat
write_flat n room =
    cond (in_range n) (record { refusal = code (written (fields_in n) room).answer; room = (written (fields_in n) room).room })
    (record { refusal = 1; room = room })

abbrev pub Writes : (n room : List ℕ) → ℕ → (room' : List ℕ) → Type 0
Writes n room r room' = ◌≡◌ {A = WroteFlat} (record { refusal = r; room = room' }) (write_flat n room)
