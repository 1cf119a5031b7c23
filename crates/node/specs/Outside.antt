-- The outside calls as their contracts say them: the box around the record, the lent things before, the answer, and the lent things behind it.
-- Assumes nothing.
use Rattle.std.specs.Prelude.{ℕ, ◌≡◌, List, Result, Ok, Err}
use Rattle.frames.specs.declared.refusal.Refusal.{Refusal}
use Rattle.frames.specs.Refusal.{number}
use Rattle.record.specs.declared.Step.{Step}
use Rattle.record.specs.declared.Started as declared
use Rattle.record.specs.Calls.{Called, call, Begun, begun, record_of}
use Rattle.raft.specs.Event.{Event}
use Rattle.raft.specs.Record.{fresh}
use Rattle.node.specs.declared.Node.{Node}

-- What an event at a box answers, as 01 has it: the number, the next box, and how many bytes of journal line and messages.
pub record Answer : Type 0 where
  pub refusal : ℕ
  pub node : Node
  pub line : ℕ
  pub sent : ℕ

-- The number and the values of each case: what is done is 0; a refusal is its number, and the box as it was.
abbrev pub told : Node → Result (Step Node) Refusal → Answer
told n (Ok s) = record { refusal = 0; node = s.next; line = s.line; sent = s.sent }
told n (Err r) = record { refusal = number r; node = n; line = 0; sent = 0 }

-- The same of a start. Whoever is refused gets no box: zeros.
pub record Started : Type 0 where
  pub refusal : ℕ
  pub node : Node
  pub bytes : ℕ

abbrev pub start_told : Result (declared.Started Node) Refusal → Started
start_told (Ok s) = record { refusal = 0; node = s.fresh; bytes = s.bytes }
start_told (Err r) = record { refusal = number r; node = record { state = record_of (fresh 0 0) }; bytes = 0 }

-- Starting leaves what `begun` says.
abbrev pub Starts : (me mask : ℕ) (journal : List ℕ) → Started → (journal' : List ℕ) → Type 0
Starts me mask journal r journal' =
    ◌≡◌ {A = Begun}
    (record { answer = record { refusal = r.refusal; state = r.node.state; bytes = r.bytes }; journal = journal' })
    (begun me mask journal)

-- An event on any record leaves what `call` says.
abbrev pub Calls : Event → Node → (terms orders journal messages : List ℕ) → Answer → (terms' orders' journal' messages' : List ℕ) → Type 0
Calls e n terms orders journal messages r terms' orders' journal' messages' =
    ◌≡◌ {A = Called}
    (record {
      answer = record { refusal = r.refusal; state = r.node.state; line = r.line; sent = r.sent };
      terms = terms';
      orders = orders';
      journal = journal';
      messages = messages';
    })
    (call e n.state terms orders journal messages)
