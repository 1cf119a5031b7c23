-- How a decision comes to stand for an outcome. Assumes nothing.
use Rattle.std.specs.Prelude.{ℕ, ◌+◌, ◌-◌, ◌≤◌, ◌<◌, ◌≡◌}
use Rattle.std.specs.Prelude.{Result, Ok, Err}
use Rattle.std.proofs.Common.{arith, sym, ap, ◌∙◌, subst}
use mathlib.Core.List.{List, [], ◌∷◌, ◌++◌, append-nil}
use Rattle.frames.specs.declared.Entry.{Entry}
use Rattle.frames.specs.Fields.{listed}
use Rattle.frames.specs.Limits.{log_limit}
use Rattle.frames.specs.declared.refusal.Refusal.{Refusal}
use Rattle.frames.specs.Refusal.{number}
use Rattle.record.specs.declared.Record.{Record}
use Rattle.record.specs.declared.Send.{Send}
use Rattle.record.specs.declared.Decision.{Decision}
use Rattle.raft.specs.Record.{State}
use Rattle.raft.proofs.RecordLaws.{Good, good-facts, facts-good}
use Rattle.raft.specs.Journal.{kept}
use Rattle.raft.proofs.JoinLaws.{kept_self, kept_more}
use Rattle.raft.specs.Sends.{appends}
use Rattle.raft.specs.Outcome.{Outcome, done, refuse}
use Rattle.raft.specs.Event.{Event, step}
use Rattle.raft.proofs.EventLaws.{step-good}
use Rattle.raft.specs.LentLaws.{length-entries_of}
use Rattle.record.specs.Calls.{entries_of, with_entries, state_of, run, Ready}
use Rattle.record.specs.Deciding.{messages_of, one_entry, after, decided, Aimed, Decides, DecidesOrRefuses, Sound, Becomes}
use Rattle.record.specs.GoodLaws.{ready-last}

-- ---- a step that leaves the log alone

-- The decision for it.
abbrev pub plain : Record → Send → Decision
plain next send = record { next = next; kept = next.last; first = 0; count = 0; send = send }

module _ (b : Record) (offered : List Entry) (terms orders : List ℕ) where
  -- nothing is added
  same_log : entries_of terms orders 0 b.last ++ listed offered 0 (0 - 0) ≡ entries_of terms orders 0 b.last
  unfolding listed
  same_log = append-nil (entries_of terms orders 0 b.last)

  same-told : kept (entries_of terms orders 0 b.last) (entries_of terms orders 0 b.last ++ listed offered 0 (0 - 0)) ≡ b.last
  same-told =
      ap (kept (entries_of terms orders 0 b.last)) same_log
      ∙ kept_self (entries_of terms orders 0 b.last)
      ∙ length-entries_of terms orders 0 b.last

  pub plain-decides : (send : Send) {o : Outcome} → b.last ≤ log_limit → Aimed send b
      → done (state_of b terms orders) (messages_of send (state_of b terms orders)) ≡ o → Decides b.last (plain b send) offered terms orders o
  unfolding decided
  plain-decides send l a e =
      record {
        comes = rw same_log e;
        low = omega arith;
        part = omega arith;
        few = omega arith;
        there = omega arith;
        held = omega arith;
        sum = omega arith;
        room = l;
        told = same-told;
        aimed = a;
      }

  -- a refusal is the outcome that it is
  pub refuse-decides : (r : Refusal) {o : Outcome} → refuse (number r) ≡ o → DecidesOrRefuses b.last (Err r) offered terms orders o
  refuse-decides r e = e

-- and so where the next record's log is as long
pub changed-decides : (b next : Record) (offered : List Entry) (terms orders : List ℕ) (send : Send) {o : Outcome} → next.last ≡ b.last
    → b.last ≤ log_limit → Aimed send next → done (state_of next terms orders) (messages_of send (state_of next terms orders)) ≡ o
    → Decides b.last (plain next send) offered terms orders o
changed-decides b next offered terms orders send {o} e l a f =
    subst (λ (n : ℕ). Decides n (plain next send) offered terms orders o) e (plain-decides next offered terms orders send (omega arith) a f)

-- ---- what is decided for an outcome is decided for what it is

pub decides_as : {last : ℕ} {d : Decision} {offered : List Entry} {terms orders : List ℕ} {o o' : Outcome} → Decides last d offered terms orders o
    → o ≡ o' → Decides last d offered terms orders o'
decides_as k e =
    record {
      comes = k.comes ∙ e;
      low = k.low;
      part = k.part;
      few = k.few;
      there = k.there;
      held = k.held;
      sum = k.sum;
      room = k.room;
      told = k.told;
      aimed = k.aimed;
    }

-- and so where the box's log is as long,
pub decides_at : {last last' : ℕ} {d : Decision} {offered : List Entry} {terms orders : List ℕ} {o o' : Outcome} → last ≡ last' → o ≡ o'
    → Decides last d offered terms orders o → Decides last' d offered terms orders o'
decides_at {last} {last'} {d} {offered} {terms} {orders} {o} {o'} l e k =
    subst (λ (n : ℕ). Decides n d offered terms orders o') l (decides_as k e)

-- also where it may be refused,
pub answers_at : {last last' : ℕ} (r : Result Decision Refusal) (offered : List Entry) (terms orders : List ℕ) {o o' : Outcome} → last ≡ last' → o ≡ o'
    → DecidesOrRefuses last r offered terms orders o → DecidesOrRefuses last' r offered terms orders o'
answers_at (Ok d) offered terms orders l e k = decides_at l e k
answers_at (Err r) offered terms orders l e k = k ∙ e

pub answers_as : (last : ℕ) (r : Result Decision Refusal) (offered : List Entry) (terms orders : List ℕ) {o o' : Outcome}
    → DecidesOrRefuses last r offered terms orders o → o ≡ o' → DecidesOrRefuses last r offered terms orders o'
answers_as last (Ok d) offered terms orders k e = decides_as k e
answers_as last (Err r) offered terms orders k e = k ∙ e

-- or the term of the entry that is offered is the same.
pub decides-term : (order : ℕ) {last term term' : ℕ} {d : Decision} {terms orders : List ℕ} {o : Outcome} → term ≡ term'
    → Decides last d (one_entry term order) terms orders o → Decides last d (one_entry term' order) terms orders o
decides-term order {last} {term} {term'} {d} {terms} {orders} {o} e k = subst (λ (t : ℕ). Decides last d (one_entry t order) terms orders o) e k

-- ---- finishing

module _ {n : Record} {d : Decision} {offered : List Entry} {terms orders : List ℕ} (e : Event) (r : Ready n terms orders)
    (k : Decides n.last d offered terms orders (step e (state_of n terms orders))) where
  -- A decision for an event at a good record may be finished,
  pub sound : Sound n d offered terms orders
  unfolding decided
  sound =
      record {
        terms_long = r.terms_long;
        orders_long = r.orders_long;
        last = ready-last r;
        decides = decides_as k (sym k.comes);
        next_good = good-facts (after d offered terms orders)
            (step-good e (state_of n terms orders) r.rules (after d offered terms orders)
            (messages_of d.send (after d offered terms orders)) (sym k.comes));
      }

  -- and what it leaves is what the step leaves.
  pub finished : (journal messages : List ℕ)
      → run (decided d offered terms orders) n terms orders journal messages ≡ run (step e (state_of n terms orders)) n terms orders journal messages
  finished journal messages = rw k.comes

-- ---- a change of a struct, on the lent log

pub becomes_lent : {b next : Record} {change : State → State} → Becomes b next change → (terms orders : List ℕ)
    → state_of next terms orders ≡ change (state_of b terms orders)
becomes_lent {b} {next} {change} k terms orders =
    ap (λ (n : ℕ). with_entries next (entries_of terms orders 0 n)) k.last
    ∙ k.state (entries_of terms orders 0 b.last) (length-entries_of terms orders 0 b.last)

-- The changed record may be relied on where it is good.
pub becomes_ready : {b next : Record} {change : State → State} {terms orders : List ℕ} → Becomes b next change → Ready b terms orders
    → Good (change (state_of b terms orders)) → Ready next terms orders
becomes_ready {terms} {orders} k r g =
    record { terms_long = r.terms_long; orders_long = r.orders_long; rules = rw (becomes_lent k _ _) (facts-good _ g) }

-- ---- an order

-- A leader with one entry more, which was offered.
pub order-decides : (b next : Record) (terms orders : List ℕ) (term order : ℕ) {o : Outcome} → b.last < log_limit → next.last ≡ b.last + 1
    → done (with_entries next (entries_of terms orders 0 b.last ++ (record { term = term; order = order } ∷ [])))
    (appends (with_entries next (entries_of terms orders 0 b.last ++ (record { term = term; order = order } ∷ [])))) ≡ o
    → Decides b.last (record { next = next; kept = b.last; first = 0; count = 1; send = Send.Appends }) (one_entry term order) terms orders o
unfolding decided messages_of Aimed one_entry listed
order-decides b next terms orders term order l e g =
    record {
      comes = g;
      low = omega arith;
      part = omega arith;
      few = omega arith;
      there = omega arith;
      held = omega arith;
      sum = e;
      room = omega arith;
      told = kept_more (entries_of terms orders 0 b.last) (record { term = term; order = order } ∷ []) ∙ length-entries_of terms orders 0 b.last;
      aimed = tt;
    }
