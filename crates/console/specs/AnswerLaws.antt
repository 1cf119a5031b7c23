-- From a line's step to what is printed: the journal line, the messages behind it, or the line of the refusal. Assumes nothing.
use Rattle.std.specs.Prelude.{ℕ, ◌+◌, ◌≤◌, ◌<◌, ◌≡◌, Bool, true, false, cond, List, take}
use Rattle.std.proofs.Common.{arith, ◌∙◌}
use Rattle.std.proofs.Math.Path.{refl, ap}
use Rattle.std.proofs.Math.ListN.{length, length-append}
use borrow.Author.Tests.{le-leb, lt-leb}
use Rattle.digits.specs.Room.{over}
use Rattle.frames.specs.Message.{Message}
use Rattle.raft.specs.Record.{State, good}
use Rattle.raft.specs.Sends.{texts}
use Rattle.raft.specs.Journal.{journaled}
use Rattle.raft.specs.Lent.{terms_of, orders_of}
use Rattle.raft.specs.Outcome.{Outcome, done, refuse}
use Rattle.raft.specs.Event.{Event, step}
use Rattle.raft.proofs.StepLaws.{no_done}
use Rattle.raft.proofs.RefusalLaws.{Numbered, numbers, by_test, at_least_one}
use Rattle.raft.proofs.EventLaws.{step-numbered}
use Rattle.journal.proofs.LongestLaws.{Longest, longest_line, longest_messages, step-longest}
use Rattle.std.specs.Prelude.{Result, Err}
use Rattle.frames.specs.declared.refusal.Refusal.{Refusal}
use Rattle.frames.specs.declared.refusal.Refusal.TheVariants.{BadRecord}
use Rattle.record.specs.declared.Step.{Step}
use Rattle.record.specs.declared.Record.{Record}
use Rattle.record.specs.SizeLaws.{over-next}
use Rattle.record.specs.Calls.{StepTold, state_of, record_of, Called, untouched, fit, written, run, Runs, Ready}
use Rattle.console.specs.Session.{event_of, outcome_of, printed}
use Rattle.printing.specs.Text.{refusal_line}
use Rattle.console.specs.Calls.{longest, outcome_answer, line_answer, AnswersLine, Known, Roomy}
use Rattle.printing.specs.Putting.{Puts}
use Rattle.printing.specs.TextLaws.{taken_back}
use Rattle.console.specs.LineLaws.{outcome-step, not_good}
use Rattle.console.specs.GoodLaws.{known-stays}

-- ---- what a line comes to

-- a line that is done has written no more than a step can
pub outcome-short : (line : List ℕ) (s t : State) (ms : List Message) → outcome_of line s ≡ done t ms → Longest s t ms
unfolding outcome_of
outcome-short line s t ms e = go (good s) refl e
  where
    go : (g : Bool) → good s ≡ g → cond (good s) (step (event_of line) s) (refuse 12) ≡ done t ms → Longest s t ms
    go true p q = step-longest (event_of line) s p t ms (rw p at q)
    go false p q = no_done 12 t ms (rw p at q)

-- and its refusal has a number
outcome-numbered : (line : List ℕ) (s : State) → Numbered (outcome_of line s)
unfolding outcome_of
outcome-numbered line s = by_test (good s) _ _ (step-numbered (event_of line) s) (numbers 12 (omega arith))

-- ---- its step

module _ (line : List ℕ) {b : Record} {terms orders : List ℕ} (journal messages : List ℕ) where
  -- 12 at a record that is not good
  pub bad-left : good (state_of b terms orders) ≡ false
      → Runs (outcome_of line (state_of b terms orders)) b terms orders journal messages (Err BadRecord) terms orders journal messages
  unfolding run
  bad-left g = rw (not_good line (state_of b terms orders) g)

  -- at a good one what the event that it asks for leaves
  pub event-left : Ready b terms orders → (e : Event) → event_of line ≡ e
      → (answer : Result (Step Record) Refusal) {terms' orders' journal' messages' : List ℕ}
      → Runs (step e (state_of b terms orders)) b terms orders journal messages answer terms' orders' journal' messages'
      → Runs (outcome_of line (state_of b terms orders)) b terms orders journal messages answer terms' orders' journal' messages'
  event-left k e is answer left = rw (outcome-step line (state_of b terms orders) k.rules, is) left

-- ---- its answer

-- what a step says that it wrote is never longer than a step can be
pub record Sizes (answer : StepTold) : Type 0 where
  pub line : answer.line ≤ longest_line
  pub sent : answer.sent ≤ longest_messages

module _ {known : Bool} (line : List ℕ) {b : Record} {terms orders room aside : List ℕ} (knows : Known known b terms orders) (roomy : Roomy room aside)
    {c : Called} (e : c ≡ run (outcome_of line (state_of b terms orders)) b terms orders room aside) where
  abbrev s : State
  s = state_of b terms orders

  -- what a line that is done leaves
  abbrev stepped : State → List Message → Called
  stepped t ms =
      record {
        answer = record { refusal = 0; state = record_of t; line = length (journaled s t); sent = length (texts ms) };
        terms = over terms 0 (terms_of t.log);
        orders = over orders 0 (orders_of t.log);
        journal = over room 0 (journaled s t);
        messages = over aside 0 (texts ms);
      }

  done-left : (t : State) (ms : List Message) → outcome_of line s ≡ done t ms → c ≡ stepped t ms
  unfolding run written fit
  done-left t ms p =
      let short = outcome-short line s t ms p in
      e
      ∙ rw (
        p,
        le-leb (length (journaled s t)) (length room) (omega (arith, short.line, roomy.answers)),
        le-leb (length (texts ms)) (length aside) (omega (arith, short.sent, roomy.aside)),
      )

  -- and one that is refused
  refused-left : (n : ℕ) → outcome_of line s ≡ refuse n → c ≡ untouched n b terms orders room aside
  unfolding run
  refused-left n p = e ∙ rw p

  pub step-sizes : Sizes c.answer
  step-sizes = go (outcome_of line s) refl
    where
      go : (o : Outcome) → outcome_of line s ≡ o → Sizes c.answer
      go (done t ms) p =
          let short = outcome-short line s t ms p in
          rw (done-left t ms p) (record { line = short.line; sent = short.sent })
      go (refuse n) p = rw (refused-left n p) (record { line = omega arith; sent = omega arith })

  -- done: the journal line at the start, the messages behind it
  pub line-done : c.answer.refusal ≡ 0 → {room' : List ℕ} → room' ≡ over c.journal c.answer.line (take c.answer.sent c.messages)
      → AnswersLine b line terms orders room (record { fits = true; state = c.answer.state; bytes = c.answer.line + c.answer.sent })
      c.terms c.orders room'
      × Known known c.answer.state c.terms c.orders
  unfolding line_answer outcome_answer printed
  line-done z {room'} r =
      let answer' = go (outcome_of line s) refl in
      (answer', known-stays line room knows roomy.answers answer')
    where
      go : (o : Outcome) → outcome_of line s ≡ o
          → AnswersLine b line terms orders room (record { fits = true; state = c.answer.state; bytes = c.answer.line + c.answer.sent })
          c.terms c.orders room'
      go (done t ms) p =
          let short = outcome-short line s t ms p in
          rw (
            r,
            done-left t ms p,
            le-leb longest (length room) roomy.answers,
            p,
            taken_back aside (texts ms),
            length-append (journaled s t) (texts ms),
            ← over-next room (journaled s t) (texts ms) (length (journaled s t)) refl (omega (arith, short.line, short.sent, roomy.answers)) refl refl,
          )
      go (refuse n) p =
          let number : c.answer.refusal ≡ n = ap (λ (x : Called). x.answer.refusal) (refused-left n p) in
          absurd (omega (arith, number, z, at_least_one n (rw p at (outcome-numbered line s))))

  -- refused: the line of the refusal, and all else as it was
  pub line_refused : (c.answer.refusal ≡ 0 → ⊥) → {room' : List ℕ} {bytes : ℕ} → Puts c.journal 0 (refusal_line c.answer.refusal) bytes room'
      → AnswersLine b line terms orders room (record { fits = true; state = b; bytes = bytes }) c.terms c.orders room'
      × Known known b c.terms c.orders
  unfolding line_answer outcome_answer
  line_refused z {room'} {bytes} r =
      let answer' = go (outcome_of line s) refl in
      (answer', known-stays line room knows roomy.answers answer')
    where
      long : bytes ≡ length (refusal_line c.answer.refusal)
      long = omega (arith, r.behind)

      go : (o : Outcome) → outcome_of line s ≡ o
          → AnswersLine b line terms orders room (record { fits = true; state = b; bytes = bytes }) c.terms c.orders room'
      go (done t ms) p = absurd (z (ap (λ (x : Called). x.answer.refusal) (done-left t ms p)))
      go (refuse n) p = rw (r.holds, long, refused-left n p, le-leb longest (length room) roomy.answers, p)

-- room that is too short for any answer
pub line-short : (line : List ℕ) {b : Record} {terms orders room : List ℕ} → length room < longest
    → AnswersLine b line terms orders room (record { fits = false; state = b; bytes = 0 }) terms orders room
unfolding line_answer
line-short line {room = room} h = rw (lt-leb longest (length room) h)
