-- **Every way of opening is the same opening, in terms of the calls' answers:** what a host has in pieces, by the head and then lines or blocks, is what `open` of the
-- whole file answers, into whatever arrays. Assumes nothing.
use Rattle.std.specs.Prelude.{ℕ, suc, ◌+◌, ◌≤◌, ◌≡◌, List, [], length, take, drop, Ok, Err}
use Rattle.std.proofs.Common.{sym, ap, ◌∙◌}
use Rattle.frames.specs.declared.refusal.Refusal.{Refusal}
use Rattle.frames.specs.Refusal.{code}
use Rattle.journal.specs.Lines.{lines}
use Rattle.journal.proofs.LinesLaws.{Whole}
use Rattle.record.specs.declared.Record.{Record}
use Rattle.record.specs.Calls.{state_of}
use Rattle.opening.specs.declared.Opened.{Opened}
use Rattle.opening.specs.declared.Unopened.TheVariants.{NoHead, BadLine}
use Rattle.opening.specs.declared.Block.{Block}
use Rattle.opening.specs.Calls.{told_replay, none, Heads, Replays, ReplaysLines}
use Rattle.frames.specs.RefusalLaws.{not_0}
use Rattle.host.specs.Pieces.{Passed}
use Rattle.host.specs.PiecesLaws.{passed_at, pieces_open, block_ends, block_breaks, breaking_line, head-refused}
use Rattle.host.specs.Host.{Opening}
use Rattle.host.specs.CallLaws.{open_found, open_headless, open_broken}

module _ (i : ℕ) (disk : List ℕ) (c : Opening i disk) where
  -- A first line that is no head: 11.
  pub both-headless : (n : ℕ) → Whole (take n disk) → (why : Refusal) → Heads i (take n disk) (Err why) → c.answer ≡ Err NoHead
  both-headless n w why e = open_headless c (head-refused i disk n w (told_replay none (Err why)) e (not_0 why))

  module _ (b : Record) (terms orders : List ℕ) (place count : ℕ) (p : Passed i disk b terms orders place count) where
    -- No whole line is left: the same record and log, and the byte count.
    pub both_open : lines (drop place disk) ≡ []
        → (found : Opened) × (c.answer ≡ Ok found) × (state_of found.state c.terms_left c.orders_left ≡ state_of b terms orders) × (found.bytes ≡ place)
    both_open e = open_found c (state_of b terms orders) place (pieces_open i disk b terms orders place count p e)

    -- (So it is where the last block, that up to the file's end, ends with `Ok`.)
    pub none_left : (n : ℕ) (r : Block) (terms' orders' : List ℕ) → ReplaysLines b (take n (drop place disk)) terms orders r terms' orders'
        → r.end ≡ Ok tt → length (drop place disk) ≤ n → lines (drop (place + r.bytes) disk) ≡ []
    none_left n r terms' orders' e z l =
        block_ends i disk b terms orders place count (passed_at i disk b terms orders place count p) n r terms' orders' e (ap code z) l

    -- A block that stops, behind so many lines: 10, and the number of the next.
    pub both-stop : (n : ℕ) (r : Block) (terms' orders' : List ℕ) → ReplaysLines b (take n (drop place disk)) terms orders r terms' orders'
        → (why : Refusal) → r.end ≡ Err why → c.answer ≡ Err (BadLine (suc (count + r.lines)))
    both-stop n r terms' orders' e why z =
        open_broken c _
        (block_breaks i disk b terms orders place count (passed_at i disk b terms orders place count p) n r terms' orders' e (λ q. not_0 why (sym (ap code z) ∙ q)))

    -- A whole line that breaks a rule: 10, and its number.
    pub both_break : (n : ℕ) (why : Refusal) (terms' orders' : List ℕ) → Whole (take n (drop place disk))
        → Replays b (take n (drop place disk)) terms orders (Err why) terms' orders' → c.answer ≡ Err (BadLine (suc count))
    both_break n why terms' orders' w e =
        open_broken c _
        (breaking_line i disk b terms orders place count (passed_at i disk b terms orders place count p) n (told_replay b (Err why)) terms' orders' e w (not_0 why))
