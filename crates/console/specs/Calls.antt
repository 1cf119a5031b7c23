-- The calls: what an answer to a line leaves in everything lent. Assumes nothing.
use Rattle.std.specs.Prelude.{ℕ, ◌+◌, ◌-◌, ◌≤◌, ◌≡◌, Bool, true, false, cond, List, [], ◌∷◌, ◌++◌, leb, length, take, drop, Option, Some, None}
use Rattle.digits.specs.Room.{over}
use Rattle.frames.specs.Limits.{log_limit}
use Rattle.raft.specs.Record.{fresh, good}
use Rattle.raft.specs.Lent.{terms_of, orders_of}
use Rattle.raft.specs.Journal.{head}
use Rattle.raft.specs.Outcome.{Outcome, done, refuse}
use Rattle.journal.proofs.LongestLaws.{longest_line, longest_messages}
use Rattle.journal.specs.Lines.{lines, box_in, mask_in, head_shaped}
use Rattle.record.specs.declared.Record.{Record}
use Rattle.record.specs.Calls.{StartTold, state_of, record_of, begun}
use Rattle.record.specs.Calls as calls
use Rattle.console.specs.declared.Begun as declared
use Rattle.console.specs.declared.Answered as answers
use Rattle.console.specs.declared.AnsweredLines.{AnsweredLines}
use Rattle.console.specs.Session.{outcome_of, printed, is_start}
use Rattle.printing.specs.Text.{refusal_line}

-- The longest that a line can make a box print: a journal line of 119 bytes and messages of 786, 905 in all. With less room no line is answered.
abbrev pub longest : ℕ
longest = longest_line + longest_messages

-- ---- the first line

-- A start with the box and the mask of a line that has a head's form, and otherwise with none: 12.
unfoldable pub starts : List ℕ → List ℕ → calls.Begun
starts line room = cond (head_shaped line) (begun (box_in line) (mask_in line) room) (begun 0 0 room)

-- Room too short: nothing is done. A bad first line: no box, zeros.
pub record Begun : Type 0 where
  pub fits : Bool
  pub started : Bool
  pub state : Record
  pub bytes : ℕ

pub record Beginning : Type 0 where
  pub answer : Begun
  pub room : List ℕ

abbrev pub none : Record
none = record_of (fresh 0 0)

-- The values of each case of what the code answers.
abbrev pub started_or : Option Record → ℕ → Begun
started_or (Some b) bytes = record { fits = true; started = true; state = b; bytes = bytes }
started_or None bytes = record { fits = true; started = false; state = none; bytes = bytes }

abbrev pub told_begun : Option declared.Begun → Begun
told_begun (Some r) = started_or r.state r.bytes
told_begun None = record { fits = false; started = false; state = none; bytes = 0 }

unfoldable pub beginning : List ℕ → List ℕ → Beginning
beginning line room =
    cond (leb longest (length room))
    (cond (is_start line)
    (record {
      answer =
          record {
            fits = true;
            started = true;
            state = record_of (fresh (box_in line) (mask_in line));
            bytes = length (head (box_in line) (mask_in line));
          };
      room = over room 0 (head (box_in line) (mask_in line));
    })
    (record {
      answer = record { fits = true; started = false; state = none; bytes = length (refusal_line 12) };
      room = over room 0 (refusal_line 12);
    }))
    (record { answer = record { fits = false; started = false; state = none; bytes = 0 }; room = room })

-- ---- a later line

-- The answer to a line: the next box and how many bytes are to be printed, or that the room is too short.
pub record Answered : Type 0 where
  pub state : Record
  pub fits : Bool
  pub bytes : ℕ

abbrev pub told : Record → Option answers.Answered → Answered
told b (Some r) = record { state = r.state; fits = true; bytes = r.bytes }
told b None = record { state = b; fits = false; bytes = 0 }

-- The same, and everything lent, as it leaves it.
pub record AfterLine : Type 0 where
  pub answer : Answered
  pub terms : List ℕ
  pub orders : List ℕ
  pub room : List ℕ

-- Of an outcome: the next box and its log, and what is printed at the room's start; a refusal leaves box and log.
unfoldable pub outcome_answer : Outcome → Record → List ℕ → List ℕ → List ℕ → AfterLine
outcome_answer (done t messages) b terms orders room =
    record {
      answer = record { fits = true; state = record_of t; bytes = length (printed (state_of b terms orders) (done t messages)) };
      terms = over terms 0 (terms_of t.log);
      orders = over orders 0 (orders_of t.log);
      room = over room 0 (printed (state_of b terms orders) (done t messages));
    }
outcome_answer (refuse number) b terms orders room =
    record {
      answer = record { fits = true; state = b; bytes = length (refusal_line number) };
      terms = terms;
      orders = orders;
      room = over room 0 (refusal_line number);
    }

-- With too little room nothing is done.
unfoldable pub line_answer : Record → List ℕ → List ℕ → List ℕ → List ℕ → AfterLine
line_answer b line terms orders room =
    cond (leb longest (length room)) (outcome_answer (outcome_of line (state_of b terms orders)) b terms orders room)
    (record { answer = record { fits = false; state = b; bytes = 0 }; terms = terms; orders = orders; room = room })

-- ---- a block of lines

-- The same of the lines of a block.
pub record AfterLines : Type 0 where
  pub answer : AnsweredLines
  pub terms : List ℕ
  pub orders : List ℕ
  pub room : List ℕ

-- One more line is answered, and its answer stands behind what was printed before.
abbrev pub behind : AfterLines → List ℕ → AfterLine → AfterLines
behind x line s =
    record {
      answer = record { state = s.answer.state; consumed = x.answer.consumed + length line; bytes = x.answer.bytes + s.answer.bytes };
      terms = s.terms;
      orders = s.orders;
      room = take x.answer.bytes x.room ++ s.room;
    }

unfoldable pub answer_next : AfterLines → List ℕ → AfterLines
answer_next x line = behind x line (line_answer x.answer.state line x.terms x.orders (drop x.answer.bytes x.room))

-- Line by line, for as long as the room that is left holds the longest answer.
unfoldable pub answer_rest : AfterLines → List (List ℕ) → AfterLines
answer_rest x [] = x
answer_rest x (line ∷ rest) = cond (leb longest (length x.room - x.answer.bytes)) (answer_rest (answer_next x line) rest) x

-- Where a block's lines were answered up to: the box, the bytes consumed and those to be printed, and everything lent.
abbrev pub reached : Record → ℕ → ℕ → List ℕ → List ℕ → List ℕ → AfterLines
reached b at to terms orders room =
    record { answer = record { state = b; consumed = at; bytes = to }; terms = terms; orders = orders; room = room }

-- The whole lines of some bytes.
unfoldable pub lines_answer : Record → List ℕ → List ℕ → List ℕ → List ℕ → AfterLines
lines_answer b bytes terms orders room = answer_rest (reached b 0 0 terms orders room) (lines bytes)

-- ---- as the contracts say it: the lent things before, the answer, and the lent things behind it

-- A box is started by a line,
abbrev pub Starts : (line room : List ℕ) → StartTold → (room' : List ℕ) → Type 0
Starts line room answer room' = ◌≡◌ {A = calls.Begun} (record { answer = answer; journal = room' }) (starts line room)

-- a first line is answered,
abbrev pub Begins : (line room : List ℕ) → Begun → (room' : List ℕ) → Type 0
Begins line room answer room' = ◌≡◌ {A = Beginning} (record { answer = answer; room = room' }) (beginning line room)

-- a later line,
abbrev pub AnswersLine : Record → (line terms orders room : List ℕ) → Answered → (terms' orders' room' : List ℕ) → Type 0
AnswersLine b line terms orders room answer terms' orders' room' =
    ◌≡◌ {A = AfterLine} (record { answer = answer; terms = terms'; orders = orders'; room = room' }) (line_answer b line terms orders room)

-- and a block's lines.
abbrev pub AnswersLines : Record → (bytes terms orders room : List ℕ) → AnsweredLines → (terms' orders' room' : List ℕ) → Type 0
AnswersLines b bytes terms orders room answer terms' orders' room' =
    ◌≡◌ {A = AfterLines} (record { answer = answer; terms = terms'; orders = orders'; room = room' }) (lines_answer b bytes terms orders room)

-- What was consumed of a block and what is to be printed lie within what was lent.
pub record Within (bytes room : List ℕ) (r : AnsweredLines) : Type 0 where
  pub consumed : r.consumed ≤ length bytes
  pub printed : r.bytes ≤ length room

-- What the inside calls require: the log is lent whole, and it is known whether the record is good.
pub record Known (known : Bool) (b : Record) (terms orders : List ℕ) : Type 0 where
  pub terms_long : length terms ≡ log_limit
  pub orders_long : length orders ≡ log_limit
  pub is : known ≡ good (state_of b terms orders)

-- Room for any answer, and aside for any messages.
pub record Roomy (room messages : List ℕ) : Type 0 where
  pub answers : longest ≤ length room
  pub aside : longest_messages ≤ length messages

-- A line can be answered,
pub record Answerable (known : Bool) (b : Record) (terms orders room messages : List ℕ) : Type 0 where
  pub knows : Known known b terms orders
  pub roomy : Roomy room messages

-- and a block's lines: whether the room holds the next answer is looked at before each.
pub record AllAnswerable (known : Bool) (b : Record) (terms orders messages : List ℕ) : Type 0 where
  pub knows : Known known b terms orders
  pub aside : longest_messages ≤ length messages
