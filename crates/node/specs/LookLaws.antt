-- Looking at a record: 12 where it breaks a rule, and otherwise it is ready for its event. Assumes nothing.
use Rattle.std.specs.Prelude.{ℕ, ◌≡◌, true, false, List, length, Result, Ok, Err, MatchResult, IsErrAnd}
use Rattle.std.specs.Result.{result_and}
use Rattle.std.proofs.Common.{◌∙◌}
use Rattle.std.proofs.lemmas.Result.{err_from_is_err_and}
use Rattle.frames.specs.declared.refusal.Refusal.{Refusal}
use Rattle.frames.specs.declared.refusal.Refusal.TheVariants.{BadRecord}
use Rattle.frames.specs.Limits.{log_limit}
use Rattle.raft.specs.Record.{good}
use Rattle.raft.specs.Event.{Event, step}
use Rattle.record.specs.declared.Record.{Record}
use Rattle.record.specs.declared.Step.{Step}
use Rattle.record.specs.Calls.{state_of, untouched, run, call, Runs, Ready, HandedTold, handed_told, handed}
use Rattle.record.specs.GoodLaws.{call-bad, call-good}
use Rattle.node.specs.declared.Node.{Node}
use Rattle.node.specs.Outside.{told, Calls}

-- The look passes a good record, and answers 12 at any other.
abbrev pub Looks : Result (Unit {0}) Refusal → Record → (terms orders : List ℕ) → Type 0
Looks r b terms orders =
    MatchResult r (λ x. good (state_of b terms orders) ≡ true) (λ e. (e ≡ BadRecord) × (good (state_of b terms orders) ≡ false))

module _ (b : Record) (terms orders : List ℕ) where
  module _ (bad : good (state_of b terms orders) ≡ false) where
    pub looked_bad : (v : Event) (journal messages : List ℕ)
        → untouched 12 b terms orders journal messages ≡ call v b terms orders journal messages
    looked_bad v journal messages = call-bad v b terms orders journal messages bad

    pub hands_none : ◌≡◌ {A = HandedTold} (record { refusal = 12; count = 0 }) (handed b terms orders)
    unfolding handed
    hands_none = rw bad

  module _ (well : good (state_of b terms orders) ≡ true) where
    pub looked_ready : length terms ≡ log_limit → length orders ≡ log_limit → Ready b terms orders
    looked_ready p q = record { terms_long = p; orders_long = q; rules = well }

    pub looked_good : (v : Event) (journal messages : List ℕ)
        → run (step v (state_of b terms orders)) b terms orders journal messages ≡ call v b terms orders journal messages
    looked_good v journal messages = call-good v b terms orders journal messages well

    pub hands-all : ◌≡◌ {A = HandedTold} (record { refusal = 0; count = b.commit }) (handed b terms orders)
    unfolding handed
    hands-all = rw well

-- What is handed out behind a look.
pub hands : (look : Result (Unit {0}) Refusal) (b : Record) (terms orders : List ℕ) → Looks look b terms orders
    → handed_told (result_and look (Ok b.commit)) ≡ handed b terms orders
hands (Ok x) b terms orders well = hands-all b terms orders well
hands (Err r) b terms orders h = rw h.0 (hands_none b terms orders h.1)

-- ---- handed on by `?`

module _ (n : Node) (r : Refusal) (v : Event) (terms orders journal messages : List ℕ) (answer : Result (Step Node) Refusal)
    (exits : IsErrAnd answer (λ e. e ≡ r)) where
  -- the look's refusal
  pub exit-bad : (r ≡ BadRecord) × (good (state_of n.state terms orders) ≡ false)
      → Calls v n terms orders journal messages (told n answer) terms orders journal messages
  exit-bad h =
      let p = err_from_is_err_and answer exits in
      rw (p.1, p.2, h.0) (looked_bad n.state terms orders h.1 v journal messages)

  -- and an event's
  pub exit-runs : {terms' orders' journal' messages' : List ℕ} → good (state_of n.state terms orders) ≡ true
      → Runs (step v (state_of n.state terms orders)) n.state terms orders journal messages (Err r) terms' orders' journal' messages'
      → Calls v n terms orders journal messages (told n answer) terms' orders' journal' messages'
  exit-runs well runs =
      let p = err_from_is_err_and answer exits in rw (p.1, p.2) (runs ∙ looked_good n.state terms orders well v journal messages)
