-- What an append answer comes to, case by case. Assumes nothing.
use Rattle.std.specs.Prelude.{ℕ, ◌+◌, ◌≤◌, ◌<◌, max, ◌≡◌, Bool, ◌&&◌, List, [], ◌∷◌, ltb}
use Rattle.std.proofs.Common.{arith, eqb-true, eq-eqb, ne_eqb, ltb-false}
use Rattle.std.proofs.Math.Path.{refl, ap}
use Rattle.std.proofs.Math.Bool.{true, false, cond}
use Rattle.std.proofs.Math.Dec.{eqb}
use Rattle.frames.specs.Limits.{log_limit}
use Rattle.record.specs.declared.Record.{Record}
use Rattle.raft.specs.Record.{State, leader, last_index, of_box}
use Rattle.raft.proofs.RecordLaws.{facts-good, leader-sent}
use Rattle.raft.specs.LentLaws.{length-entries_of}
use Rattle.raft.specs.Commit.{settle}
use Rattle.raft.proofs.CommitLaws.{Ranged, ranged}
use Rattle.raft.specs.Sends.{append_to}
use Rattle.raft.specs.Outcome.{done, refuse}
use Rattle.raft.specs.AppendAnswer.{match_after, heard, sends_again, answered, hear, on_append_answer}
use Rattle.raft.proofs.ReceiveLaws.{good-heard}
use Rattle.record.specs.Calls.{state_of}
use Rattle.record.specs.Deciding.{OtherBox}
use Rattle.record.specs.GoodLaws.{ready-good, ready-last}
use Rattle.messages.specs.Required.{From}

module _ (s : State) (from reply index : ℕ) where
  -- not a leader: nothing
  pub answer-unled : (s.role ≡ leader → ⊥) → done s [] ≡ on_append_answer s from reply index
  unfolding on_append_answer
  answer-unled l = rw (ne_eqb s.role leader l)

  module _ (l : s.role ≡ leader) where
    -- an index past the log: 8
    pub answer-past : (eqb reply 1 && ltb (last_index s) index) ≡ true → refuse 8 ≡ on_append_answer s from reply index
    unfolding on_append_answer hear
    answer-past p = rw (eq-eqb s.role leader l, p)

    module _ (p : (eqb reply 1 && ltb (last_index s) index) ≡ false) where
      -- one append more
      pub answer-again : (x : State) → x ≡ settle (heard s from reply index) → sends_again x from reply ≡ true
          → done x (append_to x from ∷ []) ≡ on_append_answer s from reply index
      unfolding on_append_answer hear answered
      answer-again x e a = rw (eq-eqb s.role leader l, p, ← e, a)

      -- or none
      pub answer-quiet : (x : State) → x ≡ settle (heard s from reply index) → sends_again x from reply ≡ false
          → done x [] ≡ on_append_answer s from reply index
      unfolding on_append_answer hear answered
      answer-quiet x e a = rw (eq-eqb s.role leader l, p, ← e, a)

-- the code's test of it
pub past-log : (b : Record) (terms orders : List ℕ) (reply index : ℕ) (y : Bool) → (eqb reply 1 && ltb b.last index) ≡ y
    → (eqb reply 1 && ltb (last_index (state_of b terms orders)) index) ≡ y
past-log b terms orders reply index y h = rw (length-entries_of terms orders 0 b.last) h

pub not-past : (b : Record) (reply index : ℕ) → (eqb reply 1 && ltb b.last index) ≡ false → reply ≡ 1 → index ≤ b.last
not-past b reply index h e = omega (arith, ltb-false b.last index (rw (eq-eqb reply 1 e) at h))

-- What the code asks for, at a leader that hears another member, and of no index past its log.
module _ (b : Record) (from reply index : ℕ) (terms orders : List ℕ) (f : From b from terms orders) (r : b.role ≡ leader)
    (known : reply ≡ 1 → index ≤ b.last) where
  abbrev t : State
  t = state_of b terms orders

  sent : (of_box b.lead.matched from < of_box b.lead.next from) × (of_box b.lead.next from ≤ last_index t + 1)
  sent = leader-sent t (ready-good f.ready) r from f.sender.box.least f.sender.box.most f.sender.other

  pub heard-next : 1 ≤ of_box b.lead.next from
  heard-next = omega (arith, sent.0)

  pub heard_match : match_after reply index (of_box b.lead.matched from) ≤ log_limit
  unfolding match_after
  heard_match = go (eqb reply 1) refl
    where
      go : (y : Bool) → eqb reply 1 ≡ y → cond y (max (of_box b.lead.matched from) index) (of_box b.lead.matched from) ≤ log_limit
      go true y = omega (arith, sent.0, sent.1, known (eqb-true _ _ y), ready-last f.ready, length-entries_of terms orders 0 b.last)
      go false y = omega (arith, sent.0, sent.1, ready-last f.ready, length-entries_of terms orders 0 b.last)

  pub heard_ranged : Ranged (heard t from reply index)
  heard_ranged =
      ranged (heard t from reply index)
      (facts-good (heard t from reply index)
      (good-heard t from reply index (ready-good f.ready) r f.sender.box.least f.sender.box.most f.sender.other
      (λ e. omega (arith, known e, length-entries_of terms orders 0 b.last))))

  -- the append goes to the same member
  pub heard-aimed : (next : Record) → state_of next terms orders ≡ settle (heard t from reply index) → OtherBox next from
  unfolding heard settle
  heard-aimed next e =
      record {
        box = f.sender.box;
        other = rw (ap (λ (x : State). x.me) e, ap (λ (x : State). x.members) e) f.sender.other;
      }
