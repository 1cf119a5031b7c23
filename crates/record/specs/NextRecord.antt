-- What a call leaves is the definition's: after the answer 0 the struct and the lent log are the next record of the event's step, and what stands in the
-- room is its line and its messages; what is handed out is `handed_out` of that record, the one that demand 3 speaks of; and a start
-- leaves the fresh box. Assumes nothing.
use Rattle.std.specs.Prelude.{ℕ, min, ◌≡◌, Bool, cond, List, leb, length, take}
use Rattle.std.proofs.Common.{arith, sym, ap, ◌∙◌}
use Rattle.std.proofs.Math.Path.{refl}
use Rattle.std.proofs.Math.Bool.{true, false}
use Rattle.digits.specs.Room.{over}
use Rattle.frames.specs.Message.{Message}
use Rattle.raft.specs.Record.{State, fresh, is_membership, good, handed_out}
use Rattle.raft.proofs.RecordLaws.{good-facts}
use Rattle.raft.specs.Sends.{texts}
use Rattle.raft.specs.Journal.{head, journaled}
use Rattle.raft.specs.Outcome.{Outcome, done, refuse}
use Rattle.raft.specs.Event.{Event, step}
use Rattle.raft.proofs.EventLaws.{step-numbered}
use Rattle.raft.proofs.RefusalLaws.{Numbered, at_least_one}
use Rattle.raft.specs.LentLaws.{length-entries_of, take-entries}
use Rattle.record.specs.declared.Record.{Record}
use Rattle.record.specs.Calls.{entries_of, state_of, Called, untouched, fit, written, run, call, Begun, begun, handed, HandedTold}
use Rattle.record.specs.SameLaws.{next-lent}

-- What a call leaves is an outcome that is done: its record, its line of the journal and its messages.
pub record Leaves (o : Outcome) (s : State) (journal messages : List ℕ) (c : Called) : Type 0 where
  pub next : State
  pub sent : List Message
  pub outcome : o ≡ done next sent
  pub is : state_of c.answer.state c.terms c.orders ≡ next
  pub line : c.answer.line ≡ length (journaled s next)
  pub line_in : c.journal ≡ over journal 0 (journaled s next)
  pub count : c.answer.sent ≡ length (texts sent)
  pub sent_in : c.messages ≡ over messages 0 (texts sent)

module _ (b : Record) (terms orders journal messages : List ℕ) where
  -- On a record that is known to be good,
  pub run-leaves : (o : Outcome) → Numbered o → (run o b terms orders journal messages).answer.refusal ≡ 0
      → Leaves o (state_of b terms orders) journal messages (run o b terms orders journal messages)
  unfolding run written
  run-leaves (done t sent) m e =
      go (fit (journaled (state_of b terms orders) t) (texts sent) journal messages) _
      (record {
        next = t;
        sent = sent;
        outcome = refl;
        is = next-lent t terms orders;
        line = refl;
        line_in = refl;
        count = refl;
        sent_in = refl;
      })
      e
    where
      go : (c : Bool) (x : Called) → Leaves (done t sent) (state_of b terms orders) journal messages x
          → (cond c x (untouched 5 b terms orders journal messages)).answer.refusal ≡ 0
          → Leaves (done t sent) (state_of b terms orders) journal messages (cond c x (untouched 5 b terms orders journal messages))
      go true x l p = l
      go false x l p = absurd (omega (arith, p))
  run-leaves (refuse number) m e = absurd (omega (arith, at_least_one number m, e))

  -- **and on any record: after the answer 0 the record was good, and what is left is what the event's step comes to.**
  pub call-leaves : (e : Event) → (call e b terms orders journal messages).answer.refusal ≡ 0
      → (good (state_of b terms orders) ≡ true)
      × Leaves (step e (state_of b terms orders)) (state_of b terms orders) journal messages (call e b terms orders journal messages)
  unfolding call
  call-leaves e z = go (good (state_of b terms orders)) refl z
    where
      s : State
      s = state_of b terms orders

      go : (g : Bool) → good s ≡ g
          → (cond g (run (step e s) b terms orders journal messages) (untouched 12 b terms orders journal messages)).answer.refusal ≡ 0
          → (good s ≡ true)
          × Leaves (step e s) s journal messages (cond g (run (step e s) b terms orders journal messages) (untouched 12 b terms orders journal messages))
      go true h p = (h, run-leaves (step e s) (step-numbered e s) p)
      go false h p = absurd (omega (arith, p))

-- ---- what is handed out

-- **After the answer 0, that many entries of the lent log are what demand 3 calls handed out.**
pub handed_are : (b : Record) (terms orders : List ℕ) → (handed b terms orders).refusal ≡ 0
    → entries_of terms orders 0 (handed b terms orders).count ≡ handed_out (state_of b terms orders)
unfolding handed handed_out
handed_are b terms orders = go (good (state_of b terms orders)) refl _ _ refl refl
  where
    go : (g : Bool) → good (state_of b terms orders) ≡ g → (x y : HandedTold) → x.count ≡ b.commit → y.refusal ≡ 12
        → (cond g x y).refusal ≡ 0 → entries_of terms orders 0 (cond g x y).count ≡ take b.commit (entries_of terms orders 0 b.last)
    go true h x y p q z =
        let low : min b.commit b.last ≡ x.count =
        omega (arith, p, (good-facts (state_of b terms orders) h).commit, length-entries_of terms orders 0 b.last) in
        sym (take-entries terms orders 0 b.last b.commit ∙ ap (entries_of terms orders 0) low)
    go false h x y p q z = absurd (omega (arith, q, z))

-- ---- a start

-- What a start that is done leaves: the fresh box of a membership, whatever log is lent to it, and its head.
pub record Fresh (me mask : ℕ) (journal : List ℕ) (c : Begun) : Type 0 where
  pub member : is_membership me mask ≡ true
  pub is : (terms orders : List ℕ) → state_of c.answer.state terms orders ≡ fresh me mask
  pub bytes : c.answer.bytes ≡ length (head me mask)
  pub head_in : c.journal ≡ over journal 0 (head me mask)

pub begun_fresh : (me mask : ℕ) (journal : List ℕ) → (begun me mask journal).answer.refusal ≡ 0 → Fresh me mask journal (begun me mask journal)
unfolding begun fresh entries_of
begun_fresh me mask journal =
    go (is_membership me mask) refl (leb (length (head me mask)) (length journal)) _ _ _
    (λ h. record { member = h; is = λ terms orders. refl; bytes = refl; head_in = refl }) refl refl
  where
    go : (m : Bool) → is_membership me mask ≡ m → (l : Bool) (x y z : Begun) → (is_membership me mask ≡ true → Fresh me mask journal x)
        → y.answer.refusal ≡ 5 → z.answer.refusal ≡ 12 → (cond m (cond l x y) z).answer.refusal ≡ 0 → Fresh me mask journal (cond m (cond l x y) z)
    go true h true x y z f p q e = f h
    go true h false x y z f p q e = absurd (omega (arith, p, e))
    go false h l x y z f p q e = absurd (omega (arith, q, e))
