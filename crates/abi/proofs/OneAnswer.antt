-- One answer only. The functions for C and Rust require nothing, and two answers that both meet the promise, from the same arguments, are the same number and
-- leave the same in everything lent. Stated over the contracts themselves: `Pre` and `Post` are what a function's `requires` and `ensures` say; r is an answer,
-- and s the parameters as the call leaves them, `s.0` the first, `s.1.0` the second, and so on. Assumes nothing.
use mathlib.Core.Path.{◌≡◌, sym, ap, ◌∙◌}
use Rattle.abi.specs.Frames.{ReadFlat, WroteFlat}
use Rattle.abi.specs.Boxes.{BoxFlat, StartFlat, HandedFlat}
use Rattle.abi.specs.Journals.{OpenFlat, ReplayFlat}
use Rattle.abi.proofs.frame_read.Reads as frame-read
use Rattle.abi.proofs.frame_write.Reads as frame-write
use Rattle.abi.proofs.boxes.box_start.Reads as box-start
use Rattle.abi.proofs.boxes.box_timeout.Reads as box-timeout
use Rattle.abi.proofs.boxes.box_prompt.Reads as box-prompt
use Rattle.abi.proofs.boxes.box_order.Reads as box-order
use Rattle.abi.proofs.boxes.box_receive.Reads as box-receive
use Rattle.abi.proofs.boxes.box_handed_out.Reads as box-handed-out
use Rattle.abi.proofs.orders.order_from_bytes.Reads as order-from-bytes
use Rattle.abi.proofs.orders.order_to_bytes.Reads as order-to-bytes
use Rattle.abi.proofs.journals.journal_open.Reads as journal-open
use Rattle.abi.proofs.journals.journal_replay.Reads as journal-replay

-- An event's contract equates the answer and the lent things with the definition: so the same answer, box, terms, orders, journal, messages and sizes.
same-steps : {x y : BoxFlat} → x ≡ y
    → (x.refusal ≡ y.refusal) × (x.numbers ≡ y.numbers) × (x.terms ≡ y.terms) × (x.orders ≡ y.orders)
    × (x.journal ≡ y.journal) × (x.room ≡ y.room) × (x.sizes ≡ y.sizes)
same-steps e = (
  ap (λ (b : BoxFlat). b.refusal) e,
  ap (λ (b : BoxFlat). b.numbers) e,
  ap (λ (b : BoxFlat). b.terms) e,
  ap (λ (b : BoxFlat). b.orders) e,
  ap (λ (b : BoxFlat). b.journal) e,
  ap (λ (b : BoxFlat). b.room) e,
  ap (λ (b : BoxFlat). b.sizes) e,
)

-- ---- `frame_read`: the number, and the 17 numbers

pub frame_read_requires_nothing : (κs : _) (a : _) → frame-read.Pre κs a
frame_read_requires_nothing κs a = tt

pub frame_read_one_answer : (κs : _) (a : _) (r r' : _) (s s' : _) → frame-read.Post κs a r s → frame-read.Post κs a r' s'
    → (r ≡ r') × (s.1.0.now ≡ s'.1.0.now)
frame_read_one_answer κs a r r' s s' p q =
    let same = p ∙ sym q in (
      ap (λ (x : ReadFlat). x.refusal) same,
      ap (λ (x : ReadFlat). x.numbers) same,
    )

-- ---- `frame_write`: the number, and the room

pub frame_write_requires_nothing : (κs : _) (a : _) → frame-write.Pre κs a
frame_write_requires_nothing κs a = tt

pub frame_write_one_answer : (κs : _) (a : _) (r r' : _) (s s' : _) → frame-write.Post κs a r s → frame-write.Post κs a r' s'
    → (r ≡ r') × (s.1.0.now ≡ s'.1.0.now)
frame_write_one_answer κs a r r' s s' p q =
    let same = p ∙ sym q in (
      ap (λ (x : WroteFlat). x.refusal) same,
      ap (λ (x : WroteFlat). x.room) same,
    )

-- ---- `box_start`: the number, the box, and the room

pub box_start_requires_nothing : (κs : _) (a : _) → box-start.Pre κs a
box_start_requires_nothing κs a = tt

pub box_start_one_answer : (κs : _) (a : _) (r r' : _) (s s' : _) → box-start.Post κs a r s → box-start.Post κs a r' s'
    → (r ≡ r') × (s.1.1.0.now ≡ s'.1.1.0.now)
    × (s.1.1.1.0.now ≡ s'.1.1.1.0.now)
box_start_one_answer κs a r r' s s' p q =
    let same = p ∙ sym q in (
      ap (λ (x : StartFlat). x.answer) same,
      ap (λ (x : StartFlat). x.numbers) same,
      ap (λ (x : StartFlat). x.room) same,
    )

-- ---- `box_timeout`: the number, the box, the log's terms and orders, the room for journal and messages, and the sizes

pub box_timeout_requires_nothing : (κs : _) (a : _) → box-timeout.Pre κs a
box_timeout_requires_nothing κs a = tt

pub box_timeout_one_answer : (κs : _) (a : _) (r r' : _) (s s' : _) → box-timeout.Post κs a r s → box-timeout.Post κs a r' s'
    → (r ≡ r') × (s.0.now ≡ s'.0.now) × (s.1.0.now ≡ s'.1.0.now) × (s.1.1.0.now ≡ s'.1.1.0.now)
    × (s.1.1.1.0.now ≡ s'.1.1.1.0.now) × (s.1.1.1.1.0.now ≡ s'.1.1.1.1.0.now)
    × (s.1.1.1.1.1.0.now ≡ s'.1.1.1.1.1.0.now)
box_timeout_one_answer κs a r r' s s' p q = same-steps (p ∙ sym q)

-- ---- `box_prompt`: the number, the box, the room for journal and messages, and the sizes; the log is lent to be read alone

pub box_prompt_requires_nothing : (κs : _) (a : _) → box-prompt.Pre κs a
box_prompt_requires_nothing κs a = tt

pub box_prompt_one_answer : (κs : _) (a : _) (r r' : _) (s s' : _) → box-prompt.Post κs a r s → box-prompt.Post κs a r' s'
    → (r ≡ r') × (s.0.now ≡ s'.0.now)
    × (s.1.1.1.0.now ≡ s'.1.1.1.0.now) × (s.1.1.1.1.0.now ≡ s'.1.1.1.1.0.now)
    × (s.1.1.1.1.1.0.now ≡ s'.1.1.1.1.1.0.now)
box_prompt_one_answer κs a r r' s s' p q = let same = same-steps (p ∙ sym q) in (same.0, same.1, same.4, same.5, same.6)

-- ---- `box_order`: as `box_timeout`

pub box_order_requires_nothing : (κs : _) (a : _) → box-order.Pre κs a
box_order_requires_nothing κs a = tt

pub box_order_one_answer : (κs : _) (a : _) (r r' : _) (s s' : _) → box-order.Post κs a r s → box-order.Post κs a r' s'
    → (r ≡ r') × (s.1.0.now ≡ s'.1.0.now)
    × (s.1.1.0.now ≡ s'.1.1.0.now) × (s.1.1.1.0.now ≡ s'.1.1.1.0.now)
    × (s.1.1.1.1.0.now ≡ s'.1.1.1.1.0.now) × (s.1.1.1.1.1.0.now ≡ s'.1.1.1.1.1.0.now)
    × (s.1.1.1.1.1.1.0.now ≡ s'.1.1.1.1.1.1.0.now)
box_order_one_answer κs a r r' s s' p q = same-steps (p ∙ sym q)

-- ---- `box_receive`: the same

pub box_receive_requires_nothing : (κs : _) (a : _) → box-receive.Pre κs a
box_receive_requires_nothing κs a = tt

pub box_receive_one_answer : (κs : _) (a : _) (r r' : _) (s s' : _) → box-receive.Post κs a r s → box-receive.Post κs a r' s'
    → (r ≡ r') × (s.1.0.now ≡ s'.1.0.now)
    × (s.1.1.0.now ≡ s'.1.1.0.now) × (s.1.1.1.0.now ≡ s'.1.1.1.0.now)
    × (s.1.1.1.1.0.now ≡ s'.1.1.1.1.0.now) × (s.1.1.1.1.1.0.now ≡ s'.1.1.1.1.1.0.now)
    × (s.1.1.1.1.1.1.0.now ≡ s'.1.1.1.1.1.1.0.now)
box_receive_one_answer κs a r r' s s' p q = same-steps (p ∙ sym q)

-- ---- `box_handed_out`: the number, and the count

pub box_handed_out_requires_nothing : (κs : _) (a : _) → box-handed-out.Pre κs a
box_handed_out_requires_nothing κs a = tt

pub box_handed_out_one_answer : (κs : _) (a : _) (r r' : _) (s s' : _) → box-handed-out.Post κs a r s → box-handed-out.Post κs a r' s'
    → (r ≡ r') × (s.1.1.1.0.now ≡ s'.1.1.1.0.now)
box_handed_out_one_answer κs a r r' s s' p q =
    let same = p ∙ sym q in (
      ap (λ (x : HandedFlat). x.refusal) same,
      ap (λ (x : HandedFlat). x.count) same,
    )

-- ---- `journal_open`: the number, the box, the log's terms and orders, and the sizes

pub journal_open_requires_nothing : (κs : _) (a : _) → journal-open.Pre κs a
journal_open_requires_nothing κs a = tt

pub journal_open_one_answer : (κs : _) (a : _) (r r' : _) (s s' : _) → journal-open.Post κs a r s → journal-open.Post κs a r' s'
    → (r ≡ r') × (s.1.1.0.now ≡ s'.1.1.0.now)
    × (s.1.1.1.0.now ≡ s'.1.1.1.0.now) × (s.1.1.1.1.0.now ≡ s'.1.1.1.1.0.now)
    × (s.1.1.1.1.1.0.now ≡ s'.1.1.1.1.1.0.now)
journal_open_one_answer κs a r r' s s' p q =
    let same = p ∙ sym q in (
      ap (λ (x : OpenFlat). x.refusal) same,
      ap (λ (x : OpenFlat). x.numbers) same,
      ap (λ (x : OpenFlat). x.terms) same,
      ap (λ (x : OpenFlat). x.orders) same,
      ap (λ (x : OpenFlat). x.sizes) same,
    )

-- ---- `journal_replay`: the number, the box, and the log's terms and orders

pub journal_replay_requires_nothing : (κs : _) (a : _) → journal-replay.Pre κs a
journal_replay_requires_nothing κs a = tt

pub journal_replay_one_answer : (κs : _) (a : _) (r r' : _) (s s' : _) → journal-replay.Post κs a r s → journal-replay.Post κs a r' s'
    → (r ≡ r') × (s.1.0.now ≡ s'.1.0.now)
    × (s.1.1.0.now ≡ s'.1.1.0.now) × (s.1.1.1.0.now ≡ s'.1.1.1.0.now)
journal_replay_one_answer κs a r r' s s' p q =
    let same = p ∙ sym q in (
      ap (λ (x : ReplayFlat). x.refusal) same,
      ap (λ (x : ReplayFlat). x.numbers) same,
      ap (λ (x : ReplayFlat). x.terms) same,
      ap (λ (x : ReplayFlat). x.orders) same,
    )

-- ---- `order_from_bytes`: the number

pub order_from_bytes_requires_nothing : (κs : _) (a : _) → order-from-bytes.Pre κs a
order_from_bytes_requires_nothing κs a = tt

pub order_from_bytes_one_answer : (κs : _) (a : _) (r r' : _) (s s' : _) → order-from-bytes.Post κs a r s → order-from-bytes.Post κs a r' s' → r ≡ r'
order_from_bytes_one_answer κs a r r' s s' p q = p ∙ sym q

-- ---- `order_to_bytes`: the bytes

pub order_to_bytes_requires_nothing : (κs : _) (a : _) → order-to-bytes.Pre κs a
order_to_bytes_requires_nothing κs a = tt

pub order_to_bytes_one_answer : (κs : _) (a : _) (r r' : _) (s s' : _) → order-to-bytes.Post κs a r s → order-to-bytes.Post κs a r' s'
    → s.1.0.now ≡ s'.1.0.now
order_to_bytes_one_answer κs a r r' s s' p q = p ∙ sym q
