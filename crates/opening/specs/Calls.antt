-- The calls: the structs that the code has, the lent log, and what a call leaves in each. An answer is told as 01 tells it: its number, 0 where there is no refusal,
-- and the values beside it. Assumes nothing.
use Rattle.std.specs.Prelude.{ℕ, ◌+◌, ◌≤◌, ◌≡◌, Bool, true, cond, ◌&&◌, List, [], ◌∷◌, eqb, leb, length, Result, Ok, Err}
use Rattle.digits.specs.Room.{over}
use Rattle.frames.specs.Limits.{log_limit, entry_limit}
use Rattle.frames.specs.declared.Entry.{Entry}
use Rattle.frames.specs.declared.refusal.Refusal.{Refusal}
use Rattle.frames.specs.Refusal.{number, code}
use Rattle.frames.specs.Fields.{listed}
use Rattle.raft.specs.Record.{fresh, with_term, with_vote, with_log}
use Rattle.raft.specs.Journal.{Line}
use Rattle.raft.specs.Lent.{terms_of, orders_of}
use Rattle.record.specs.declared.Record.{Record}
use Rattle.record.specs.Calls.{with_entries, state_of, record_of}
use Rattle.opening.specs.declared.LineFields.{LineFields}
use Rattle.opening.specs.declared.Opened as answers
use Rattle.opening.specs.declared.Unopened.{Unopened}
use Rattle.opening.specs.declared.Unopened.TheVariants.{NoHead, BadLine}
use Rattle.opening.specs.declared.Block.{Block}
use Rattle.journal.specs.Lines.{lines, mask_in, count_in, line_shaped}
use Rattle.journal.specs.Opening.{restarted, is_of_box, term_holds, vote_is, vote_stays, Replayed, next, breaks, replayed}
use Rattle.journal.specs.Opening.{Opened, opened, headless, broken, is_head, opening}

-- The log is lent whole.
pub record LentLog (terms orders : List ℕ) : Type 0 where
  pub terms_long : length terms ≡ log_limit
  pub orders_long : length orders ≡ log_limit

-- What handing over a log requires: the lent lists and those that were made all have so many places.
pub record HandsOver (terms orders terms-made orders-made : List ℕ) (last : ℕ) : Type 0 where
  pub in_terms : last ≤ length terms
  pub in_orders : last ≤ length orders
  pub in_terms_made : last ≤ length terms-made
  pub in_orders_made : last ≤ length orders-made

-- ---- one line

-- What the look at a line's rules requires: the log's terms are lent whole, and the line has no more entries than a line has.
pub record Lookable (l : LineFields) (terms : List ℕ) : Type 0 where
  pub terms_long : length terms ≡ log_limit
  pub few : l.count ≤ entry_limit

-- What the fields' reader requires: the form of a line, and no more entries than a line has.
pub record Readable (line : List ℕ) : Type 0 where
  pub shaped : line_shaped line ≡ true
  pub few : count_in line ≤ entry_limit

-- The line that the struct tells.
abbrev pub line_of : LineFields → Line
line_of l = record { box = l.who; term = l.term; vote = l.vote; kept = l.kept; entries = listed l.entries 0 l.count }

-- The rules of a line but the last. The lengths are the structs' own counts; the others are the definition's, on the struct's record
-- with no log lent.
abbrev pub allows_numbers : Record → LineFields → Bool
allows_numbers b l =
    is_of_box (with_entries b []) (line_of l) && term_holds (with_entries b []) (line_of l)
    && vote_is (with_entries b []) (line_of l) && vote_stays (with_entries b []) (line_of l)
    && leb l.kept b.last && (leb (l.kept + l.count) log_limit && leb l.count entry_limit)

-- The struct with a line replayed, whatever the log's entries are: restarted, in the line's term and with its vote.
pub record Advances (b : Record) (l : LineFields) (next : Record) : Type 0 where
  pub state : (log : List Entry) → length log ≡ l.kept + l.count
      → with_entries next log ≡ restarted (with_log log (with_vote l.vote (with_term l.term (with_entries b []))))
  pub last : next.last ≡ l.kept + l.count

-- A number, and a record: what is told of a line, and of a head alone.
pub record ReplayedTold : Type 0 where
  pub refusal : ℕ
  pub state : Record

-- One line over the record so far: the next record and its log, or 10 and all as it was.
pub record Replaying : Type 0 where
  pub answer : ReplayedTold
  pub terms : List ℕ
  pub orders : List ℕ

unfoldable pub replaying_by : Replayed → Record → List ℕ → List ℕ → Replaying
replaying_by (next t) b terms orders =
    record { answer = record { refusal = 0; state = record_of t }; terms = over terms 0 (terms_of t.log); orders = over orders 0 (orders_of t.log) }
replaying_by breaks b terms orders = record { answer = record { refusal = 10; state = b }; terms = terms; orders = orders }

unfoldable pub replaying : Record → List ℕ → List ℕ → List ℕ → Replaying
replaying b bytes terms orders = replaying_by (replayed (state_of b terms orders) bytes) b terms orders

-- What an answer tells: 0 and the next record, or the refusal's number and the record as it was.
abbrev pub told_replay : Record → Result Record Refusal → ReplayedTold
told_replay b (Ok n) = record { refusal = 0; state = n }
told_replay b (Err r) = record { refusal = number r; state = b }

-- As the contract says it: the lent things before, the answer, and the lent things behind it; first of what is told, then of the answer that tells it.
abbrev pub Tells : Record → (line terms orders : List ℕ) → ReplayedTold → (terms' orders' : List ℕ) → Type 0
Tells b line terms orders told terms' orders' =
    ◌≡◌ {A = Replaying} (record { answer = told; terms = terms'; orders = orders' }) (replaying b line terms orders)

abbrev pub Replays : Record → (line terms orders : List ℕ) → Result Record Refusal → (terms' orders' : List ℕ) → Type 0
Replays b line terms orders answer terms' orders' = Tells b line terms orders (told_replay b answer) terms' orders'

-- ---- a whole journal

-- What is told of an opening.
pub record OpenedTold : Type 0 where
  pub refusal : ℕ
  pub state : Record
  pub bytes : ℕ
  pub fault : ℕ

-- Opening: the record, its log and the byte count, or 11, or 10 and the line's number. "opening returns no record": zeros, and the lent
-- log as it was.
pub record Opening : Type 0 where
  pub answer : OpenedTold
  pub terms : List ℕ
  pub orders : List ℕ

abbrev pub none : Record
none = record_of (fresh 0 0)

-- What an answer tells.
abbrev pub told_open : Result answers.Opened Unopened → OpenedTold
told_open (Ok found) = record { refusal = 0; state = found.state; bytes = found.bytes; fault = 0 }
told_open (Err NoHead) = record { refusal = 11; state = none; bytes = 0; fault = 0 }
told_open (Err (BadLine line)) = record { refusal = 10; state = none; bytes = 0; fault = line }

unfoldable pub opening_by : Opened → List ℕ → List ℕ → Opening
opening_by (opened s bytes) terms orders =
    record {
      answer = record { refusal = 0; state = record_of s; bytes = bytes; fault = 0 };
      terms = over terms 0 (terms_of s.log);
      orders = over orders 0 (orders_of s.log);
    }
opening_by headless terms orders =
    record { answer = record { refusal = 11; state = none; bytes = 0; fault = 0 }; terms = terms; orders = orders }
opening_by (broken line) terms orders =
    record { answer = record { refusal = 10; state = none; bytes = 0; fault = line }; terms = terms; orders = orders }

unfoldable pub opens : ℕ → List ℕ → List ℕ → List ℕ → Opening
opens box bytes terms orders = opening_by (opening box bytes) terms orders

abbrev pub Opens : ℕ → (bytes terms orders : List ℕ) → Result answers.Opened Unopened → (terms' orders' : List ℕ) → Type 0
Opens box bytes terms orders answer terms' orders' =
    ◌≡◌ {A = Opening} (record { answer = told_open answer; terms = terms'; orders = orders' }) (opens box bytes terms orders)

-- ---- block by block

-- The head alone: the fresh record of the box asked for, or 11 and no record.
unfoldable pub heading : ℕ → List ℕ → ReplayedTold
heading box line =
    cond (is_head box line) (record { refusal = 0; state = record_of (fresh box (mask_in line)) }) (record { refusal = 11; state = none })

-- As the contract says it.
abbrev pub Heads : ℕ → List ℕ → Result Record Refusal → Type 0
Heads box line answer = told_replay none answer ≡ heading box line

-- What is told of a block: 0, or 10 where the line behind those replayed breaks a rule; the record, and how many bytes and lines were replayed.
pub record BlockTold : Type 0 where
  pub refusal : ℕ
  pub state : Record
  pub bytes : ℕ
  pub lines : ℕ

pub record Blocks : Type 0 where
  pub answer : BlockTold
  pub terms : List ℕ
  pub orders : List ℕ

-- One line more, where it keeps the rules; where it breaks one, the number 10, and all as it was.
abbrev pub counted : Blocks → List ℕ → Replaying → Blocks
counted x line r =
    record {
      answer = record { refusal = 0; state = r.answer.state; bytes = x.answer.bytes + length line; lines = x.answer.lines + 1 };
      terms = r.terms;
      orders = r.orders;
    }

abbrev pub stopped : Blocks → Blocks
stopped x =
    record {
      answer = record { refusal = 10; state = x.answer.state; bytes = x.answer.bytes; lines = x.answer.lines };
      terms = x.terms;
      orders = x.orders;
    }

unfoldable pub replay_each : Blocks → List (List ℕ) → Blocks
replay_each x [] = x
replay_each x (line ∷ behind) =
    cond (eqb (replaying x.answer.state line x.terms x.orders).answer.refusal 0)
    (replay_each (counted x line (replaying x.answer.state line x.terms x.orders)) behind)
    (stopped x)

-- The whole lines of some bytes.
unfoldable pub replaying_lines : Record → List ℕ → List ℕ → List ℕ → Blocks
replaying_lines b bytes terms orders =
    replay_each (record { answer = record { refusal = 0; state = b; bytes = 0; lines = 0 }; terms = terms; orders = orders }) (lines bytes)

-- What an answer tells.
abbrev pub told_block : Block → BlockTold
told_block r = record { refusal = code r.end; state = r.state; bytes = r.bytes; lines = r.lines }

-- As the contract says it; what was replayed lies within the bytes, and a log that fitted fits.
pub record ReplaysLines (b : Record) (bytes terms orders : List ℕ) (answer : Block) (terms' orders' : List ℕ) : Type 0 where
  pub leaves : ◌≡◌ {A = Blocks} (record { answer = told_block answer; terms = terms'; orders = orders' }) (replaying_lines b bytes terms orders)
  pub inside : answer.bytes ≤ length bytes
  pub room : b.last ≤ log_limit → answer.state.last ≤ log_limit
