-- What a start, a call and an opening hand to the host, once their contracts hold: the definitions that demand 3's runs are made of. Assumes nothing.
use Rattle.std.specs.Prelude.{ℕ, ◌+◌, ◌≡◌, refl, true, List, ◌⊎◌, length, take, drop, Ok, Err}
use Rattle.std.proofs.Common.{arith, sym, subst, ◌∙◌, true≢false, inl, inr, take_at}
use Rattle.std.proofs.Math.Path.{ap}
use Rattle.digits.specs.Room.{over}
use Rattle.frames.specs.Message.{Message}
use Rattle.raft.specs.Record.{State, fresh, is_membership}
use Rattle.raft.specs.Journal.{head, journaled}
use Rattle.raft.specs.Sends.{texts}
use Rattle.raft.specs.Outcome.{done}
use Rattle.raft.specs.Event.{step}
use Rattle.journal.specs.Lines.{lines}
use Rattle.journal.specs.Opening as journal
use Rattle.safety.specs.Park.{Comes, frames}
use Rattle.safety.specs.Split.{room-is-frames}
use Rattle.record.specs.declared.Record.{Record}
use Rattle.record.specs.Calls.{state_of, record_of, Called, Begun}
use Rattle.record.specs.ExactlyWhen.{Asked, no_frame, Answers}
use Rattle.record.specs.ExactlyWhenLaws.{given_exactly_when}
use Rattle.record.specs.SameLaws.{next-lent}
use Rattle.record.specs.NextRecord.{Fresh, begun_fresh}
use Rattle.node.specs.NextRecord.{next_record, nothing-changed}
use Rattle.opening.specs.declared.Opened.{Opened}
use Rattle.opening.specs.declared.Unopened.TheVariants.{NoHead, BadLine}
use Rattle.opening.specs.Calls as calls
use Rattle.opening.specs.ToldLaws.{told_open-one}
use Rattle.opening.specs.OpenedExactly.{opened_record}
use Rattle.host.specs.Host.{Running, Call, line_in, frames_in, Start, head_in, Opening, Back, at_once, in_pieces}
use Rattle.host.specs.PiecesLaws.{pieces_open}

-- The record of a box that runs.
abbrev pub record_of_box : Running → State
record_of_box b = state_of b.node.state b.terms b.orders

-- What was written at a room's start is read there.
room-front : (room text : List ℕ) → take (length text) (over room 0 text) ≡ text
unfolding over
room-front room text = take_at text (drop (0 + length text) room) (length text) refl

read-front : (room text left : List ℕ) (n : ℕ) → left ≡ over room 0 text → n ≡ length text → take n left ≡ text
read-front room text left n e f = rw (e, f) (room-front room text)

-- ---- an event

-- What was asked.
abbrev pub asked : {network : List (List ℕ)} {b : Running} → Call network b → Asked
asked {b = b} c =
    record { event = c.event; box = b.node.state; terms = b.terms; orders = b.orders; journal = c.journal; messages = c.messages }

-- What the answer says is what the table gives.
pub answered : {network : List (List ℕ)} {b : Running} (c : Call network b) (n : ℕ) → c.answer.refusal ≡ n → Answers (asked c) n
answered c n e = sym (ap (λ (x : Called). x.answer.refusal) c.contract) ∙ e

-- Bytes that are not one frame are never answered 0.
pub call-comes : {network : List (List ℕ)} {b : Running} (c : Call network b) → c.answer.refusal ≡ 0 → Comes network c.event
call-comes {network} c z = go c.comes
  where
    go : Comes network c.event ⊎ (no_frame c.event ≡ true) → Comes network c.event
    go (inl x) = x
    go (inr n) = absurd (true≢false (sym n ∙ ((given_exactly_when (asked c)).row_0.only (answered c 0 z)).1.0))

-- A call that answers 0 is a step: of the box's record, to that of the struct and the arrays that it leaves; it hands over the step's line and its frames.
pub record Stepped {network : List (List ℕ)} {b : Running} (c : Call network b) : Type 0 where
  pub messages : List Message
  pub steps : step c.event (record_of_box b) ≡ done (state_of c.answer.node.state c.terms_left c.orders_left) messages
  pub line : line_in c ≡ journaled (record_of_box b) (state_of c.answer.node.state c.terms_left c.orders_left)
  pub long : c.answer.line ≡ length (journaled (record_of_box b) (state_of c.answer.node.state c.terms_left c.orders_left))
  pub leave : frames_in c ≡ frames messages

-- It is so by the contract.
pub call-steps : {network : List (List ℕ)} {b : Running} (c : Call network b) → c.answer.refusal ≡ 0 → Stepped c
call-steps {b = b} c z =
    let s = next_record c.event b.node b.terms b.orders c.journal c.messages c.answer c.terms_left c.orders_left c.journal_left
    c.messages_left c.contract z in
    record {
      messages = s.sent;
      steps = s.steps;
      line = read-front c.journal _ c.journal_left c.answer.line s.line_in s.line;
      long = s.line;
      leave = ap lines (read-front c.messages (texts s.sent) c.messages_left c.answer.sent s.sent_in s.count) ∙ room-is-frames s.sent;
    }

-- A call that is refused leaves the arrays as they were.
pub call-refused : {network : List (List ℕ)} {b : Running} (c : Call network b) → (c.answer.refusal ≡ 0 → ⊥)
    → (c.terms_left ≡ b.terms) × (c.orders_left ≡ b.orders)
call-refused {b = b} c z =
    let s = nothing-changed c.event b.node b.terms b.orders c.journal c.messages c.answer c.terms_left c.orders_left c.journal_left
    c.messages_left c.contract (omega (arith, z)) in
    (s.1, s.2)

-- ---- a start

-- A start that answers 0 is of a membership; it leaves the fresh box, whatever arrays are lent to it, and hands over its head.
pub record Starting {mask i : ℕ} (c : Start mask i) : Type 0 where
  pub member : is_membership i mask ≡ true
  pub now : (terms orders : List ℕ) → state_of c.answer.node.state terms orders ≡ fresh i mask
  pub bytes : c.answer.bytes ≡ length (head i mask)
  pub written : head_in c ≡ head i mask

-- So it is, by its contract.
pub start-fresh : {mask i : ℕ} (c : Start mask i) → c.answer.refusal ≡ 0 → Starting c
start-fresh {mask} {i} c z =
    let f = subst (Fresh i mask c.journal) (sym c.contract) (begun_fresh i mask c.journal (sym (ap (λ (x : Begun). x.answer.refusal) c.contract) ∙ z)) in
    record {
      member = f.member;
      now = f.is;
      bytes = f.bytes;
      written = read-front c.journal (head i mask) c.journal_left c.answer.bytes f.head_in f.bytes;
    }

-- ---- an opening

module _ {i : ℕ} {disk : List ℕ} (c : Opening i disk) where
  by : {r : journal.Opened} → journal.opening i disk ≡ r
      → ◌≡◌ {A = calls.Opening} (record { answer = calls.told_open c.answer; terms = c.terms_left; orders = c.orders_left }) (calls.opening_by r c.terms c.orders)
  unfolding calls.opens
  by e = c.contract ∙ ap (λ (x : journal.Opened). calls.opening_by x c.terms c.orders) e

  -- Of a file that opens, it answers the record and the byte count.
  pub open_found : (s : State) (n : ℕ) → journal.opening i disk ≡ journal.opened s n
      → (found : Opened) × (c.answer ≡ Ok found) × (state_of found.state c.terms_left c.orders_left ≡ s) × (found.bytes ≡ n)
  unfolding calls.opening_by
  open_found s n e =
      let answer = ap (λ (x : calls.Opening). x.answer) (by e) in
      let terms = ap (λ (x : calls.Opening). x.terms) (by e) in
      let orders = ap (λ (x : calls.Opening). x.orders) (by e) in (
        record { state = record_of s; bytes = n },
        told_open-one c.answer (Ok (record { state = record_of s; bytes = n })) answer,
        rw (terms, orders) (next-lent s c.terms c.orders),
        refl,
      )

  -- Of one without a head it answers so, 11.
  pub open_headless : journal.opening i disk ≡ journal.headless → c.answer ≡ Err NoHead
  unfolding calls.opening_by
  open_headless e = told_open-one c.answer (Err NoHead) (ap (λ (x : calls.Opening). x.answer) (by e))

  -- Of one that breaks a rule it answers so, 10, and the line's number.
  pub open_broken : (n : ℕ) → journal.opening i disk ≡ journal.broken n → c.answer ≡ Err (BadLine n)
  unfolding calls.opening_by
  open_broken n e = told_open-one c.answer (Err (BadLine n)) (ap (λ (x : calls.Opening). x.answer) (by e))

-- Whichever way a host comes back, it has what opening finds.
pub back-opens : {i : ℕ} {disk : List ℕ} {b : Record} {terms orders : List ℕ} {place : ℕ} → Back i disk b terms orders place
    → journal.opening i disk ≡ journal.opened (state_of b terms orders) place
back-opens {i} {disk} (at_once c found e) =
    opened_record i disk c.terms c.orders (Ok found) c.terms_left c.orders_left (rw e at c.contract) refl
back-opens {i} {disk} (in_pieces b terms orders place count p e) = pieces_open i disk b terms orders place count p e
