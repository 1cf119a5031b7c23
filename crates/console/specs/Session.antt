-- 01, 'What the box decides', from 'a small program' on: from the bytes that it reads to the bytes that it prints. Assumes nothing.
use Rattle.std.specs.Prelude.{ℕ, Bool, cond, ◌&&◌, List, [], ◌∷◌, ◌++◌, eqb, length, get_or, drop}
use Rattle.digits.specs.Digits.{field}
use Rattle.frames.specs.Message.{line_feed}
use Rattle.frames.specs.Reading.{is_line}
use Rattle.raft.specs.Record.{State, fresh, good}
use Rattle.raft.specs.Sends.{texts}
use Rattle.raft.specs.Journal.{head, journaled}
use Rattle.raft.specs.Outcome.{Outcome, done, refuse}
use Rattle.raft.specs.Event.{Event, times_out, takes_order, is_prompted, receives, step}
use Rattle.journal.specs.Lines.{lines, box_in, mask_in}
use Rattle.journal.specs.Opening.{is_head}
use Rattle.printing.specs.Text.{refusal_line}

-- ---- what a line asks for

-- The letters t, p and o.
abbrev pub letter_t : ℕ
letter_t = 116

abbrev pub letter_p : ℕ
letter_p = 112

abbrev pub letter_o : ℕ
letter_o = 111

-- "`t` (timeout), `p` (prompt)": the letter and its line feed.
unfoldable pub is_letter : ℕ → List ℕ → Bool
is_letter letter s = eqb (length s) 2 && (eqb (get_or s 0 0) letter && eqb (get_or s 1 0) line_feed)

-- "`o` with 16 digits (order)"
unfoldable pub is_order : List ℕ → Bool
is_order s = eqb (length s) 18 && (eqb (get_or s 0 0) letter_o && is_line (drop 1 s))

unfoldable pub order_in : List ℕ → ℕ
order_in s = field (drop 1 s) 0 8

-- "Each later line is a frame, `t` (timeout), `p` (prompt) or `o` with 16 digits (order)". "Any other line, or one too long, is `n1`": it is not one frame.
unfoldable pub event_of : List ℕ → Event
event_of s =
    cond (is_letter letter_t s) times_out
    (cond (is_letter letter_p s) is_prompted (cond (is_order s) (takes_order (order_in s)) (receives s)))

-- What a line comes to at a box: 12 first, as at every event.
unfoldable pub outcome_of : List ℕ → State → Outcome
outcome_of line s = cond (good s) (step (event_of line) s) (refuse 12)

-- ---- what it prints

-- "it prints the step's journal line if any, then its messages, or `n` and the refusal's decimal number"
unfoldable pub printed : State → Outcome → List ℕ
printed s (done t messages) = journaled s t ++ texts messages
printed s (refuse number) = refusal_line number

-- The box after it.
unfoldable pub next_of : State → Outcome → State
next_of s (done t messages) = t
next_of s (refuse number) = s

-- ---- the whole of it

unfoldable pub answers : State → List (List ℕ) → List ℕ
answers s [] = []
answers s (line ∷ behind) = printed s (outcome_of line s) ++ answers (next_of s (outcome_of line s)) behind

-- "Its first input line is a journal head", of whatever box.
unfoldable pub is_start : List ℕ → Bool
is_start line = is_head (box_in line) line

-- "it starts that box and prints the head"; "after a bad first line `n12` and nothing more".
unfoldable pub talk : List (List ℕ) → List ℕ
talk [] = []
talk (first ∷ behind) =
    cond (is_start first) (head (box_in first) (mask_in first) ++ answers (fresh (box_in first) (mask_in first)) behind) (refusal_line 12)

-- What the program prints of all that it reads. "a last line without line feed isn't read"
unfoldable pub session : List ℕ → List ℕ
session bytes = talk (lines bytes)
