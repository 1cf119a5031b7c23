-- A journal opened in pieces, for a host that has no room for the whole: its head, and then lines, one by one or block by block. `PiecesLaws` shows that this comes to
-- what `open` of the whole comes to. Assumes nothing.
use Rattle.std.specs.Prelude.{ℕ, ◌+◌, ◌≡◌, List, length, take, drop, Ok}
use Rattle.record.specs.declared.Record.{Record}
use Rattle.opening.specs.declared.Block.{Block}
use Rattle.opening.specs.Calls.{Heads, Replays, ReplaysLines}

-- So far: the struct, the arrays, the place up to which the file was replayed, and how many lines that were, the head being 1. Each call answered `Ok`. What is handed to
-- it are any n bytes of the file from the place on.
pub data Passed (i : ℕ) (disk : List ℕ) : Record → (terms orders : List ℕ) → (place count : ℕ) → Type 0 where
  -- the head (`replay_head`); any arrays are lent from then on
  the_head : (n : ℕ) (b : Record) → Heads i (take n disk) (Ok b) → (terms orders : List ℕ) → Passed i disk b terms orders (length (take n disk)) 1
  -- a line (`replay`)
  a_line : (b : Record) (terms orders : List ℕ) (place count : ℕ) → Passed i disk b terms orders place count
      → (n : ℕ) (next : Record) (terms' orders' : List ℕ) → Replays b (take n (drop place disk)) terms orders (Ok next) terms' orders'
      → Passed i disk next terms' orders' (place + length (take n (drop place disk))) (count + 1)
  -- a block (`replay_lines`): its whole lines; what is behind the last of them is handed over again
  a_block : (b : Record) (terms orders : List ℕ) (place count : ℕ) → Passed i disk b terms orders place count
      → (n : ℕ) (r : Block) (terms' orders' : List ℕ) → ReplaysLines b (take n (drop place disk)) terms orders r terms' orders' → r.end ≡ Ok tt
      → Passed i disk r.state terms' orders' (place + r.bytes) (count + r.lines)
