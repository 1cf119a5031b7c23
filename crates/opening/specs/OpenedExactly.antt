-- What an answer of `open` says, of every answer that meets its contract (`Opens`): 11, and 10 with a line's number, are given exactly when 01's rows say so, and
-- after 0 the struct and the lent log are the record that opening finds. Assumes nothing.
use Rattle.std.specs.Prelude.{ℕ, ◌≡◌, List, Result}
use Rattle.std.proofs.Common.{arith, sym, subst, ◌∙◌}
use Rattle.std.proofs.Math.Path.{refl, ap}
use Rattle.raft.specs.Record.{State, fresh}
use Rattle.raft.specs.Exactly.{Exactly}
use Rattle.record.specs.Calls.{state_of}
use Rattle.record.specs.SameLaws.{next-lent}
use Rattle.journal.specs.Lines.{lines}
use Rattle.journal.specs.Opening.{Opened, opened, headless, broken, opening}
use Rattle.journal.proofs.OpeningExactly.{Headed, Breaks, headless_exactly, headless-when, broken_exactly, broken-when}
use Rattle.opening.specs.declared.Opened as answers
use Rattle.opening.specs.declared.Unopened.{Unopened}
use Rattle.opening.specs.Calls.{Opening, told_open, opening_by, opens, Opens}

-- What is found, and what is answered of it.
module _ (terms orders : List ℕ) where
  is-headless : (o : Opened) → (opening_by o terms orders).answer.refusal ≡ 11 → o ≡ headless
  unfolding opening_by
  is-headless (opened s bytes) e = absurd (omega (arith, e))
  is-headless headless e = refl
  is-headless (broken line) e = absurd (omega (arith, e))

  is-broken : (o : Opened) (n : ℕ) → (opening_by o terms orders).answer.refusal ≡ 10 → (opening_by o terms orders).answer.fault ≡ n → o ≡ broken n
  unfolding opening_by
  is-broken (opened s bytes) n e f = absurd (omega (arith, e))
  is-broken headless n e f = absurd (omega (arith, e))
  is-broken (broken line) n e f = ap broken f

  says-headless : (o : Opened) → o ≡ headless → (opening_by o terms orders).answer.refusal ≡ 11
  unfolding opening_by
  says-headless o e = rw e

  says-broken : (o : Opened) (n : ℕ) → o ≡ broken n → ((opening_by o terms orders).answer.refusal ≡ 10) × ((opening_by o terms orders).answer.fault ≡ n)
  unfolding opening_by
  says-broken o n e = rw e (refl, refl)

-- The record that was found, and the count of bytes.
pub record Finds (me : ℕ) (bytes : List ℕ) (c : Opening) : Type 0 where
  pub found : opening me bytes ≡ opened (state_of c.answer.state c.terms c.orders) c.answer.bytes

finds : (me : ℕ) (bytes terms orders : List ℕ) (o : Opened) → opening me bytes ≡ o → (opening_by o terms orders).answer.refusal ≡ 0
    → Finds me bytes (opening_by o terms orders)
unfolding opening_by
finds me bytes terms orders (opened s n) e z = record { found = e ∙ ap (λ (t : State). opened t n) (sym (next-lent s terms orders)) }
finds me bytes terms orders headless e z = absurd (omega (arith, z))
finds me bytes terms orders (broken line) e z = absurd (omega (arith, z))

module _ (me : ℕ) (bytes terms orders : List ℕ) (r : Result answers.Opened Unopened) (terms' orders' : List ℕ)
    (c : Opens me bytes terms orders r terms' orders') where
  told : ◌≡◌ {A = Opening} (record { answer = told_open r; terms = terms'; orders = orders' }) (opening_by (opening me bytes) terms orders)
  unfolding opens
  told = c

  -- **11: "no whole line, or the first is no proper head".**
  pub row_11 : Exactly ((told_open r).refusal ≡ 11) (Headed me bytes → ⊥)
  row_11 =
      let number : (told_open r).refusal ≡ (opening_by (opening me bytes) terms orders).answer.refusal = ap (λ (x : Opening). x.answer.refusal) told in
      record {
        only = λ e. headless_exactly me bytes (is-headless terms orders (opening me bytes) (sym number ∙ e));
        when = λ h. number ∙ says-headless terms orders (opening me bytes) (headless-when me bytes h);
      }

  -- **10: "a whole line after the head breaks a rule; the first such line's number, the head being 1".**
  pub row_10 : (n : ℕ) → Exactly (((told_open r).refusal ≡ 10) × ((told_open r).fault ≡ n)) ((h : Headed me bytes) × Breaks (fresh me h.mask) 2 (lines h.rest) n)
  row_10 n =
      let number : (told_open r).refusal ≡ (opening_by (opening me bytes) terms orders).answer.refusal = ap (λ (x : Opening). x.answer.refusal) told in
      let line : (told_open r).fault ≡ (opening_by (opening me bytes) terms orders).answer.fault = ap (λ (x : Opening). x.answer.fault) told in
      record {
        only = λ e. broken_exactly me bytes n (is-broken terms orders (opening me bytes) n (sym number ∙ e.0) (sym line ∙ e.1));
        when = λ p.
            let said = says-broken terms orders (opening me bytes) n (broken-when me bytes n p.0 p.1) in
            (number ∙ said.0, line ∙ said.1);
      }

  -- **After the answer 0 the struct and the lent log are the record that opening finds, and the bytes are its count.**
  pub opened_record : (told_open r).refusal ≡ 0 → opening me bytes ≡ opened (state_of (told_open r).state terms' orders') (told_open r).bytes
  opened_record z =
      let number = ap (λ (x : Opening). x.answer.refusal) told in
      (subst (Finds me bytes) (sym told) (finds me bytes terms orders (opening me bytes) refl (sym number ∙ z))).found
