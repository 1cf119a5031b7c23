-- One answer only. The constructors, each event and `handed_out` require nothing, and two answers that both meet the promise, from the same arguments, are the
-- same answer and leave the same in everything lent: terms, orders, journal, messages. Stated over the contracts themselves: `Pre` and `Post` are what a
-- function's `requires` and `ensures` say; r is an answer, and s the parameters as the call leaves them, `s.0` the first, `s.1.0` the second, and so on.
-- Assumes nothing.
use Prim.Native.Nat.{ℕ}
use mathlib.Core.Path.{◌≡◌, sym, ap, ◌∙◌}
use mathlib.Core.List.{List}
use Rattle.std.specs.Prelude.{Result}
use Rattle.frames.specs.declared.refusal.Refusal.{Refusal}
use Rattle.record.specs.declared.Step.{Step}
use Rattle.record.specs.Calls.{Called, Begun}
use Rattle.record.specs.TellingLaws.{handed_told_one}
use Rattle.node.specs.declared.Node.{Node}
use Rattle.node.specs.Outside.{Answer, told}
use Rattle.node.specs.TellingLaws.{told_one, start_told_one}
use Rattle.node.proofs.Node.fresh.Reads as fresh
use Rattle.node.proofs.Node.start.Reads as start
use Rattle.node.proofs.Node.timeout.Reads as timeout
use Rattle.node.proofs.Node.order.Reads as order
use Rattle.node.proofs.Node.prompt.Reads as prompt
use Rattle.node.proofs.Node.receive.Reads as receive
use Rattle.node.proofs.Node.handed_out.Reads as Handed-out

-- What an event's contract equates with the definition, of an answer and the lent things behind it.
abbrev called : Answer → (terms orders journal messages : List ℕ) → Called
called r terms orders journal messages =
    record {
      answer = record { refusal = r.refusal; state = r.node.state; line = r.line; sent = r.sent };
      terms = terms;
      orders = orders;
      journal = journal;
      messages = messages;
    }

-- The same number and values are the same answer (`TellingLaws`), and so are
-- the lent things.
same-called : (n : Node) (r r' : Result (Step Node) Refusal) {t t' o o' j j' m m' : List ℕ} → called (told n r) t o j m ≡ called (told n r') t' o' j' m'
    → (r ≡ r') × (t ≡ t') × (o ≡ o') × (j ≡ j') × (m ≡ m')
same-called n r r' e = (
  told_one n r r'
      (ap (λ (x : Called). record { refusal = x.answer.refusal; node = record { state = x.answer.state }; line = x.answer.line; sent = x.answer.sent }) e),
  ap (λ (x : Called). x.terms) e,
  ap (λ (x : Called). x.orders) e,
  ap (λ (x : Called). x.journal) e,
  ap (λ (x : Called). x.messages) e,
)

-- ---- `fresh`: the box

pub fresh_requires_nothing : (κs : _) (a : _) → fresh.Pre κs a
fresh_requires_nothing κs a = tt

pub fresh_one_answer : (κs : _) (a : _) (r r' : _) (s s' : _) → fresh.Post κs a r s → fresh.Post κs a r' s' → r ≡ r'
fresh_one_answer κs a r r' s s' p q = p ∙ sym q

-- ---- `start`: the answer, and the journal's room

pub start_requires_nothing : (κs : _) (a : _) → start.Pre κs a
start_requires_nothing κs a = tt

pub start_one_answer : (κs : _) (a : _) (r r' : _) (s s' : _) → start.Post κs a r s → start.Post κs a r' s'
    → (r ≡ r') × (s.1.1.0.now ≡ s'.1.1.0.now)
start_one_answer κs a r r' s s' p q =
    let same = p ∙ sym q in (
      start_told_one r r' (ap (λ (x : Begun). record { refusal = x.answer.refusal; node = record { state = x.answer.state }; bytes = x.answer.bytes }) same),
      ap (λ (x : Begun). x.journal) same,
    )

-- ---- `prompt`: the answer, and the room for journal and messages; the log is lent to be read alone

pub prompt_requires_nothing : (κs : _) (a : _) → prompt.Pre κs a
prompt_requires_nothing κs a = tt

pub prompt_one_answer : (κs : _) (a : _) (r r' : _) (s s' : _) → prompt.Post κs a r s → prompt.Post κs a r' s'
    → (r ≡ r') × (s.1.1.1.0.now ≡ s'.1.1.1.0.now) × (s.1.1.1.1.0.now ≡ s'.1.1.1.1.0.now)
prompt_one_answer κs a r r' s s' p q = let same = same-called a.0 r r' (p ∙ sym q) in (same.0, same.3, same.4)

-- ---- `timeout`, `order` and `receive`: the answer, the log's terms and orders, and the room for journal and messages

pub timeout_requires_nothing : (κs : _) (a : _) → timeout.Pre κs a
timeout_requires_nothing κs a = tt

pub timeout_one_answer : (κs : _) (a : _) (r r' : _) (s s' : _) → timeout.Post κs a r s → timeout.Post κs a r' s'
    → (r ≡ r') × (s.1.0.now ≡ s'.1.0.now) × (s.1.1.0.now ≡ s'.1.1.0.now)
    × (s.1.1.1.0.now ≡ s'.1.1.1.0.now) × (s.1.1.1.1.0.now ≡ s'.1.1.1.1.0.now)
timeout_one_answer κs a r r' s s' p q = same-called a.0 r r' (p ∙ sym q)

pub order_requires_nothing : (κs : _) (a : _) → order.Pre κs a
order_requires_nothing κs a = tt

pub order_one_answer : (κs : _) (a : _) (r r' : _) (s s' : _) → order.Post κs a r s → order.Post κs a r' s'
    → (r ≡ r') × (s.1.1.0.now ≡ s'.1.1.0.now) × (s.1.1.1.0.now ≡ s'.1.1.1.0.now)
    × (s.1.1.1.1.0.now ≡ s'.1.1.1.1.0.now) × (s.1.1.1.1.1.0.now ≡ s'.1.1.1.1.1.0.now)
order_one_answer κs a r r' s s' p q = same-called a.0 r r' (p ∙ sym q)

pub receive_requires_nothing : (κs : _) (a : _) → receive.Pre κs a
receive_requires_nothing κs a = tt

pub receive_one_answer : (κs : _) (a : _) (r r' : _) (s s' : _) → receive.Post κs a r s → receive.Post κs a r' s'
    → (r ≡ r') × (s.1.1.0.now ≡ s'.1.1.0.now) × (s.1.1.1.0.now ≡ s'.1.1.1.0.now)
    × (s.1.1.1.1.0.now ≡ s'.1.1.1.1.0.now) × (s.1.1.1.1.1.0.now ≡ s'.1.1.1.1.1.0.now)
receive_one_answer κs a r r' s s' p q = same-called a.0 r r' (p ∙ sym q)

-- ---- `handed_out`: the answer

pub handed_out_requires_nothing : (κs : _) (a : _) → Handed-out.Pre κs a
handed_out_requires_nothing κs a = tt

pub handed_out_one_answer : (κs : _) (a : _) (r r' : _) (s s' : _) → Handed-out.Post κs a r s → Handed-out.Post κs a r' s' → r ≡ r'
handed_out_one_answer κs a r r' s s' p q = handed_told_one r r' (p ∙ sym q)
