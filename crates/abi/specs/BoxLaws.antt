-- What the proofs of a box's C functions use. Assumes nothing.
use Rattle.std.specs.Prelude.{ℕ, ◌+◌, ◌*◌, ◌≡◌, refl, Bool, true, false, not, List, leb, length}
use native.Mathlib.Omega.{arith}
use Rattle.std.proofs.Common.{sym, ap, ◌∙◌}
use borrow.Author.Tests.{ne_eqb}
use Rattle.record.specs.declared.Record.{Record}
use Rattle.node.specs.Outside.{Answer, Started, Starts, Calls}
use Rattle.raft.specs.Record.{is_membership}
use Rattle.raft.specs.Journal.{head}
use Rattle.raft.specs.Event.{Event}
use Rattle.record.specs.Calls.{Begun, begun, HandedTold, handed}
use Rattle.record.specs.WrittenLaws.{head-long}
use Rattle.flat.specs.Box.{box_range, box_in, box_flat}
use Rattle.abi.specs.Boxes.{Stores, Steps, box_event, Begins, box_begun, Hands, box_handed}

-- ---- an event

module _ (e : Event) (n terms orders journal room sizes : List ℕ) where
  -- numbers that do not fit are no record
  pub event-none : box_range n ≡ false → Steps e n terms orders journal room sizes 12 n terms orders journal room sizes
  unfolding box_event
  event-none h = rw h

  -- the box's answer, stored
  pub event-step : {r : ℕ} {n' terms' orders' journal' room' sizes' : List ℕ} → box_range n ≡ true → (b : Record) (a : Answer) → b ≡ box_in n
      → Calls e (record { state = b }) terms orders journal room a terms' orders' journal' room' → Stores a n sizes r n' sizes'
      → Steps e n terms orders journal room sizes r n' terms' orders' journal' room' sizes'
  unfolding box_event
  event-step h b a i c s = rw (h, ← i, ← c, s.number, s.numbers, s.lengths)

-- ---- a start

-- one that is done writes a head of nine bytes; one that is refused, none
begun_nine : (me mask : ℕ) (room : List ℕ) → (begun me mask room).answer.refusal ≡ 0 → (begun me mask room).answer.bytes ≡ 9
unfolding begun
begun_nine me mask room e = go (is_membership me mask) (leb (length (head me mask)) (length room)) refl refl e
  where
    go : (a b : Bool) → is_membership me mask ≡ a → leb (length (head me mask)) (length room) ≡ b → (begun me mask room).answer.refusal ≡ 0
        → (begun me mask room).answer.bytes ≡ 9
    go true true p q z = rw (p, q) (head-long me mask)
    go true false p q z = absurd (omega (arith, rw (p, q) at z))
    go false b p q z = absurd (omega (arith, rw p at z))

begun-none : (me mask : ℕ) (room : List ℕ) → ((begun me mask room).answer.refusal ≡ 0 → ⊥) → (begun me mask room).answer.bytes ≡ 0
unfolding begun
begun-none me mask room e = go (is_membership me mask) (leb (length (head me mask)) (length room)) refl refl e
  where
    go : (a b : Bool) → is_membership me mask ≡ a → leb (length (head me mask)) (length room) ≡ b → ((begun me mask room).answer.refusal ≡ 0 → ⊥)
        → (begun me mask room).answer.bytes ≡ 0
    go true true p q z = absurd (z (rw (p, q)))
    go true false p q z = rw (p, q)
    go false b p q z = rw p

module _ (me mask : ℕ) (n room : List ℕ) (s : Started) {room' : List ℕ} (e : Starts me mask room s room') where
  number : s.refusal ≡ (begun me mask room).answer.refusal
  number = ap (λ (x : Begun). x.answer.refusal) e

  bytes : s.bytes ≡ (begun me mask room).answer.bytes
  bytes = ap (λ (x : Begun). x.answer.bytes) e

  pub start-done : {n' : List ℕ} → s.refusal ≡ 0 → n' ≡ box_flat s.node.state n → Begins me mask n room 2304 n' room'
  unfolding box_begun
  start-done z w = rw (← e, z, bytes ∙ begun_nine me mask room (sym number ∙ z), w)

  pub start-refused : (s.refusal ≡ 0 → ⊥) → Begins me mask n room s.refusal n room'
  unfolding box_begun
  start-refused z =
      rw (← e, bytes ∙ begun-none me mask room (λ k. z (number ∙ k)), ne_eqb _ _ z)
      (λ d. record { answer = sum d; numbers = n; room = room' })
    where
      sum : s.refusal ≡ s.refusal + 256 * 0
      sum = omega arith

-- ---- what is handed out

module _ (n terms orders : List ℕ) (count : ℕ) where
  pub handed-none : box_range n ≡ false → Hands n terms orders count 12 count
  unfolding box_handed
  handed-none h = rw h

  module _ (h : box_range n ≡ true) (b : Record) (i : b ≡ box_in n) (x : HandedTold) (e : x ≡ handed b terms orders) where
    pub handed-done : x.refusal ≡ 0 → Hands n terms orders count 0 x.count
    unfolding box_handed
    handed-done z = rw (h, ← i, ← e, z)

    pub handed-refused : (x.refusal ≡ 0 → ⊥) → Hands n terms orders count x.refusal count
    unfolding box_handed
    handed-refused z = rw (h, ← i, ← e, ne_eqb _ _ z)
