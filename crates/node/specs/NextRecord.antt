-- The outside calls and the definitions that demand 3 speaks of. Whoever got an answer that meets the contract (`Calls`, `Starts`, `handed`) knows: after the
-- answer 0 the box and the lent log are the next record of the event's own step; after any other nothing has changed; a started box is the fresh one; and so
-- many entries of the lent log as `handed_out` counts are what is handed out. Assumes nothing.
use Rattle.std.specs.Prelude.{ℕ, ◌≤◌, ◌≡◌, true, List, length}
use Rattle.std.proofs.Common.{sym, ap, subst, ◌∙◌}
use Rattle.digits.specs.Room.{over}
use Rattle.frames.specs.Message.{Message}
use Rattle.raft.specs.Record.{State, fresh, good, handed_out}
use Rattle.raft.specs.Lent.{entries_of}
use Rattle.raft.specs.Sends.{texts}
use Rattle.raft.specs.Journal.{journaled}
use Rattle.raft.specs.Outcome.{done}
use Rattle.raft.specs.Event.{Event, step}
use Rattle.raft.proofs.EventLaws.{step-good}
use Rattle.raft.specs.Exactly.{Exactly}
use Rattle.record.specs.Calls.{state_of, Called, Begun, HandedTold, handed}
use Rattle.record.specs.ExactlyWhen.{Asked, left_by, Answers}
use Rattle.record.specs.ExactlyWhenLaws.{refusal-untouched}
use Rattle.record.specs.NextRecord.{Leaves, call-leaves, handed_are, begun_fresh}
use Rattle.node.specs.declared.Node.{Node}
use Rattle.node.specs.Outside.{Answer, Started, Starts, Calls}

-- The record of a box and a lent log.
abbrev pub record_in : Node → List ℕ → List ℕ → State
record_in n terms orders = state_of n.state terms orders

-- What a call is asked.
abbrev pub asked : Event → Node → (terms orders journal messages : List ℕ) → Asked
asked e n terms orders journal messages = record { event = e; box = n.state; terms = terms; orders = orders; journal = journal; messages = messages }

-- The step that a call took: the record was good and the next one is, which is that of the box handed back and of the log as the call leaves it; the journal
-- line and the messages stand at their room's start, everything behind them as it was.
pub record Stepped (e : Event) (n : Node) (terms orders journal messages : List ℕ) (r : Answer) (terms' orders' journal' messages' : List ℕ) : Type 0 where
  pub sent : List Message
  pub steps : step e (record_in n terms orders) ≡ done (record_in r.node terms' orders') sent
  pub good_before : good (record_in n terms orders) ≡ true
  pub good_after : good (record_in r.node terms' orders') ≡ true
  pub line : r.line ≡ length (journaled (record_in n terms orders) (record_in r.node terms' orders'))
  pub line_in : journal' ≡ over journal 0 (journaled (record_in n terms orders) (record_in r.node terms' orders'))
  pub count : r.sent ≡ length (texts sent)
  pub sent_in : messages' ≡ over messages 0 (texts sent)

module _ (e : Event) (n : Node) (terms orders journal messages : List ℕ) (r : Answer) (terms' orders' journal' messages' : List ℕ)
    (c : Calls e n terms orders journal messages r terms' orders' journal' messages') where
  -- **After the answer 0, the next record is the definition's,**
  pub next_record : r.refusal ≡ 0 → Stepped e n terms orders journal messages r terms' orders' journal' messages'
  next_record z =
      let g = call-leaves n.state terms orders journal messages e (sym (ap (λ (x : Called). x.answer.refusal) c) ∙ z) in
      told g.0 (subst (Leaves (step e (record_in n terms orders)) (record_in n terms orders) journal messages) (sym c) g.1)
    where
      told : good (record_in n terms orders) ≡ true
          → Leaves (step e (record_in n terms orders)) (record_in n terms orders) journal messages
          (record {
            answer = record { refusal = r.refusal; state = r.node.state; line = r.line; sent = r.sent };
            terms = terms';
            orders = orders';
            journal = journal';
            messages = messages';
          })
          → Stepped e n terms orders journal messages r terms' orders' journal' messages'
      told h l =
          let steps : step e (record_in n terms orders) ≡ done (record_in r.node terms' orders') l.sent = l.outcome ∙ ap (λ (t : State). done t l.sent) (sym l.is) in
          record {
            sent = l.sent;
            steps = steps;
            good_before = h;
            good_after = step-good e (record_in n terms orders) h (record_in r.node terms' orders') l.sent steps;
            line = l.line ∙ ap (λ (t : State). length (journaled (record_in n terms orders) t)) (sym l.is);
            line_in = l.line_in ∙ ap (λ (t : State). over journal 0 (journaled (record_in n terms orders) t)) (sym l.is);
            count = l.count;
            sent_in = l.sent_in;
          }

  -- **after any other nothing has changed,**
  pub nothing-changed : 1 ≤ r.refusal
      → (r.node.state ≡ n.state) × (terms' ≡ terms) × (orders' ≡ orders) × (journal' ≡ journal) × (messages' ≡ messages)
  nothing-changed l =
      let same = c ∙ refusal-untouched (asked e n terms orders journal messages) r.refusal l (sym (ap (λ (x : Called). x.answer.refusal) c)) in (
        ap (λ (x : Called). x.answer.state) same,
        ap (λ (x : Called). x.terms) same,
        ap (λ (x : Called). x.orders) same,
        ap (λ (x : Called). x.journal) same,
        ap (λ (x : Called). x.messages) same,
      )

  -- **and the number is the one that 01's table gives**: what a row of the table says of the call (`record/specs/ExactlyWhen`) holds of the answer.
  pub number_exactly : {Q : Type 0} (number : ℕ) → Exactly (Answers (asked e n terms orders journal messages) number) Q → Exactly (r.refusal ≡ number) Q
  number_exactly number q =
      let given : r.refusal ≡ (left_by (asked e n terms orders journal messages)).answer.refusal = ap (λ (x : Called). x.answer.refusal) c in
      record { only = λ p. q.only (sym given ∙ p); when = λ h. given ∙ q.when h }

-- **A box that was started is the fresh one, whatever log is lent to it: what demand 3's runs begin with.**
pub started-fresh : (me mask : ℕ) (journal : List ℕ) (r : Started) (journal' : List ℕ) → Starts me mask journal r journal' → r.refusal ≡ 0
    → (terms orders : List ℕ) → record_in r.node terms orders ≡ fresh me mask
started-fresh me mask journal r journal' c z =
    subst (λ (x : Begun). (terms orders : List ℕ) → state_of x.answer.state terms orders ≡ fresh me mask) (sym c)
    (begun_fresh me mask journal (sym (ap (λ (x : Begun). x.answer.refusal) c) ∙ z)).is

-- **So many entries of the lent log as are counted are handed out.**
pub hands_out : (n : Node) (terms orders : List ℕ) (r : HandedTold) → r ≡ handed n.state terms orders → r.refusal ≡ 0
    → entries_of terms orders 0 r.count ≡ handed_out (record_in n terms orders)
hands_out n terms orders r c z =
    ap (λ (x : HandedTold). entries_of terms orders 0 x.count) c
    ∙ handed_are n.state terms orders (sym (ap (λ (x : HandedTold). x.refusal) c) ∙ z)
