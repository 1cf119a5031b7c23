-- A good record stays good from line to line, and one that is not stays as it is: so it is looked at once. Assumes nothing.
use Rattle.std.specs.Prelude.{ℕ, ◌≤◌, refl, Bool, true, false, cond, List, length}
use Rattle.std.proofs.Common.{arith, ◌∙◌, le-leb}
use Rattle.std.proofs.Math.Path.{◌≡◌, sym, ap}
use Rattle.digits.specs.RoomLaws.{length_over}
use Rattle.frames.specs.Message.{Message}
use Rattle.raft.specs.Record.{State, good}
use Rattle.raft.proofs.RecordLaws.{good-facts}
use Rattle.raft.specs.Lent.{terms_of, orders_of}
use Rattle.raft.specs.LentLaws.{terms_long, orders_long}
use Rattle.raft.specs.Outcome.{Outcome, done, refuse}
use Rattle.raft.specs.Event.{step}
use Rattle.raft.proofs.StepLaws.{no_done}
use Rattle.raft.proofs.EventLaws.{step-good}
use Rattle.record.specs.declared.Record.{Record}
use Rattle.record.specs.Calls.{state_of, Ready}
use Rattle.record.specs.SameLaws.{next-lent}
use Rattle.console.specs.Session.{event_of, outcome_of}
use Rattle.console.specs.Calls.{Answered, longest, AfterLine, outcome_answer, line_answer, AnswersLine, Known}

-- a record that is known to be good is ready for any event
pub ready : {known : Bool} {b : Record} {terms orders : List ℕ} → Known known b terms orders → known ≡ true → Ready b terms orders
ready k g = record { terms_long = k.terms_long; orders_long = k.orders_long; rules = sym k.is ∙ g }

-- a line that is done was answered at a good record, and leaves one
pub record Stayed (s t : State) : Type 0 where
  pub before : good s ≡ true
  pub after : good t ≡ true

pub outcome-good : (line : List ℕ) (s t : State) (ms : List Message) → outcome_of line s ≡ done t ms → Stayed s t
unfolding outcome_of
outcome-good line s t ms e = go (good s) refl e
  where
    go : (g : Bool) → good s ≡ g → cond (good s) (step (event_of line) s) (refuse 12) ≡ done t ms → Stayed s t
    go true p q = record { before = p; after = step-good (event_of line) s p t ms (rw p at q) }
    go false p q = no_done 12 t ms (rw p at q)

module _ {known : Bool} (line : List ℕ) {b : Record} {terms orders : List ℕ} (room : List ℕ) (k : Known known b terms orders) where
  -- whatever a line comes to
  outcome-known : (o : Outcome) → outcome_of line (state_of b terms orders) ≡ o
      → Known known (outcome_answer o b terms orders room).answer.state (outcome_answer o b terms orders room).terms (outcome_answer o b terms orders room).orders
  unfolding outcome_answer
  outcome-known (done t ms) e =
      let stayed = outcome-good line (state_of b terms orders) t ms e in
      let fits = (good-facts t stayed.after).room in
      record {
        terms_long = length_over terms 0 (terms_of t.log) (omega (arith, terms_long t.log, fits, k.terms_long)) ∙ k.terms_long;
        orders_long = length_over orders 0 (orders_of t.log) (omega (arith, orders_long t.log, fits, k.orders_long)) ∙ k.orders_long;
        is = k.is ∙ stayed.before ∙ sym (ap good (next-lent t terms orders) ∙ stayed.after);
      }
  outcome-known (refuse n) e = k

  -- what was known of the record is known of the next
  pub known-stays : longest ≤ length room → {one : Answered} {terms' orders' room' : List ℕ} → AnswersLine b line terms orders room one terms' orders' room'
      → Known known one.state terms' orders'
  unfolding line_answer
  known-stays wide {one} {terms'} {orders'} {room'} e =
      rw (ap (λ (x : AfterLine). x.answer.state) all, ap (λ (x : AfterLine). x.terms) all, ap (λ (x : AfterLine). x.orders) all)
      (outcome-known (outcome_of line (state_of b terms orders)) refl)
    where
      all : ◌≡◌ {A = AfterLine} (record { answer = one; terms = terms'; orders = orders'; room = room' })
          (outcome_answer (outcome_of line (state_of b terms orders)) b terms orders room)
      all = e ∙ rw (le-leb longest (length room) wide)
