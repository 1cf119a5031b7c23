-- The calls: the struct that the code has for a record, the log and the room that the caller lends, and what a call leaves in each.
-- Assumes nothing.
use Rattle.std.specs.Prelude.{ℕ, ◌≡◌, Bool, true, cond, ◌&&◌, List, leb, length, Result, Ok, Err}
use Rattle.digits.specs.Room.{over}
use Rattle.frames.specs.declared.Entry.{Entry}
use Rattle.frames.specs.Limits.{log_limit}
use Rattle.frames.specs.Message.{Message}
use Rattle.frames.specs.declared.refusal.Refusal.{Refusal}
use Rattle.frames.specs.Refusal.{number}
use Rattle.record.specs.declared.Record.{Record}
use Rattle.record.specs.declared.Step.{Step}
use Rattle.record.specs.declared.Started.{Started}
use Rattle.raft.specs.Record.{State, fresh, is_membership, good}
use Rattle.raft.specs.Sends.{texts}
use Rattle.raft.specs.Journal.{head, journaled}
use Rattle.raft.specs.Outcome.{Outcome, done, refuse}
use Rattle.raft.specs.Event.{Event, step}
unfoldable pub use Rattle.raft.specs.Lent.{entries_of, terms_of, orders_of}

-- ---- the struct and the lent log

-- The record that a struct is with a log,
abbrev pub with_entries : Record → List Entry → State
with_entries b log =
    record {
      me = b.me;
      members = b.members;
      term = b.term;
      vote = b.vote;
      log = log;
      commit = b.commit;
      role = b.role;
      votes = b.votes;
      lead = record { next = b.lead.next; matched = b.lead.matched };
    }

-- and with the lent one.
abbrev pub state_of : Record → List ℕ → List ℕ → State
state_of b terms orders = with_entries b (entries_of terms orders 0 b.last)

-- The struct of a record.
abbrev pub record_of : State → Record
record_of s =
    record {
      me = s.me;
      members = s.members;
      term = s.term;
      vote = s.vote;
      last = length s.log;
      commit = s.commit;
      role = s.role;
      votes = s.votes;
      lead = record { next = s.lead.next; matched = s.lead.matched };
    }

-- ---- a step

-- A step's answer as 01 has it: its number, the next record, and how many bytes of line and messages.
pub record StepTold : Type 0 where
  pub refusal : ℕ
  pub state : Record
  pub line : ℕ
  pub sent : ℕ

-- The number and the values of what a step at a record answers: what is done is 0; a refusal is its number, and the record as it was.
abbrev pub told : Record → Result (Step Record) Refusal → StepTold
told b (Ok s) = record { refusal = 0; state = s.next; line = s.line; sent = s.sent }
told b (Err r) = record { refusal = number r; state = b; line = 0; sent = 0 }

-- What a call answers, and everything that was lent, as the call leaves it.
pub record Called : Type 0 where
  pub answer : StepTold
  pub terms : List ℕ
  pub orders : List ℕ
  pub journal : List ℕ
  pub messages : List ℕ

-- A refusal leaves state, log, journal and output untouched.
abbrev pub untouched : ℕ → Record → List ℕ → List ℕ → List ℕ → List ℕ → Called
untouched number b terms orders journal messages =
    record {
      answer = record { refusal = number; state = b; line = 0; sent = 0 };
      terms = terms;
      orders = orders;
      journal = journal;
      messages = messages;
    }

-- Refusal 5: "the head, journal line or messages are longer than the room left", each judged by itself.
unfoldable pub fit : List ℕ → List ℕ → List ℕ → List ℕ → Bool
fit line sent journal messages = leb (length line) (length journal) && leb (length sent) (length messages)

unfoldable pub written : Record → State → State → List Message → List ℕ → List ℕ → List ℕ → List ℕ → Called
written b s t sent terms orders journal messages =
    cond (fit (journaled s t) (texts sent) journal messages)
    (record {
      answer = record { refusal = 0; state = record_of t; line = length (journaled s t); sent = length (texts sent) };
      terms = over terms 0 (terms_of t.log);
      orders = over orders 0 (orders_of t.log);
      journal = over journal 0 (journaled s t);
      messages = over messages 0 (texts sent);
    })
    (untouched 5 b terms orders journal messages)

-- What an event comes to on a record that is known to be good.
unfoldable pub run : Outcome → Record → List ℕ → List ℕ → List ℕ → List ℕ → Called
run (done t sent) b terms orders journal messages = written b (state_of b terms orders) t sent terms orders journal messages
run (refuse number) b terms orders journal messages = untouched number b terms orders journal messages

-- An event on any record: 12 where it breaks a rule.
unfoldable pub call : Event → Record → List ℕ → List ℕ → List ℕ → List ℕ → Called
call e b terms orders journal messages =
    cond (good (state_of b terms orders)) (run (step e (state_of b terms orders)) b terms orders journal messages)
    (untouched 12 b terms orders journal messages)

-- ---- as the contracts say it: the lent things before, the answer, and the lent things behind it

-- On a record that is known to be good the call leaves what an outcome comes to.
abbrev pub Runs : Outcome → Record → (terms orders journal messages : List ℕ) → Result (Step Record) Refusal → (terms' orders' journal' messages' : List ℕ) → Type 0
Runs o b terms orders journal messages answer terms' orders' journal' messages' =
    ◌≡◌ {A = Called}
    (record { answer = told b answer; terms = terms'; orders = orders'; journal = journal'; messages = messages' })
    (run o b terms orders journal messages)

-- What such a call requires: the log is lent whole, and the record is good.
pub record Ready (b : Record) (terms orders : List ℕ) : Type 0 where
  pub terms_long : length terms ≡ log_limit
  pub orders_long : length orders ≡ log_limit
  pub rules : good (state_of b terms orders) ≡ true

-- ---- start, and what is handed out

-- Starting. 12: "bad box or mask"; then 5; otherwise the fresh box, and the head at the room's start. Whoever is refused gets no box:
-- zeros are told of it.
pub record StartTold : Type 0 where
  pub refusal : ℕ
  pub state : Record
  pub bytes : ℕ

abbrev pub start_told : Result (Started Record) Refusal → StartTold
start_told (Ok s) = record { refusal = 0; state = s.fresh; bytes = s.bytes }
start_told (Err r) = record { refusal = number r; state = record_of (fresh 0 0); bytes = 0 }

pub record Begun : Type 0 where
  pub answer : StartTold
  pub journal : List ℕ

unfoldable pub begun : ℕ → ℕ → List ℕ → Begun
begun me mask journal =
    cond (is_membership me mask)
    (cond (leb (length (head me mask)) (length journal))
    (record {
      answer = record { refusal = 0; state = record_of (fresh me mask); bytes = length (head me mask) };
      journal = over journal 0 (head me mask);
    })
    (record { answer = record { refusal = 5; state = record_of (fresh 0 0); bytes = 0 }; journal = journal }))
    (record { answer = record { refusal = 12; state = record_of (fresh 0 0); bytes = 0 }; journal = journal })

-- "Handed out: entries 1 to commit": how many of the lent log's entries, or 12.
pub record HandedTold : Type 0 where
  pub refusal : ℕ
  pub count : ℕ

abbrev pub handed_told : Result ℕ Refusal → HandedTold
handed_told (Ok n) = record { refusal = 0; count = n }
handed_told (Err r) = record { refusal = number r; count = 0 }

unfoldable pub handed : Record → List ℕ → List ℕ → HandedTold
handed b terms orders =
    cond (good (state_of b terms orders)) (record { refusal = 0; count = b.commit }) (record { refusal = 12; count = 0 })
