-- The box's calls, for callers in C and Rust. Assumes nothing.
use Rattle.std.specs.Prelude.{ℕ, ◌+◌, ◌*◌, ◌≡◌, cond, List, eqb, set}
use Rattle.node.specs.Outside.{Answer}
use Rattle.raft.specs.Event.{Event}
use Rattle.record.specs.Calls.{Called, call, begun, handed}
use Rattle.flat.specs.Box.{box_range, box_in, box_flat}

-- What an event answers, and everything that was lent: on a refusal the numbers and the sizes are as they were.
pub record BoxFlat : Type 0 where
  pub refusal : ℕ
  pub numbers : List ℕ
  pub terms : List ℕ
  pub orders : List ℕ
  pub journal : List ℕ
  pub room : List ℕ
  pub sizes : List ℕ

abbrev pub sized_by : (line sent : ℕ) → List ℕ → List ℕ
sized_by line sent sizes = set (set sizes 0 line) 1 sent

abbrev pub flat_step : Called → List ℕ → List ℕ → BoxFlat
flat_step c n sizes =
    record {
      refusal = c.answer.refusal;
      numbers = cond (eqb c.answer.refusal 0) (box_flat c.answer.state n) n;
      terms = c.terms;
      orders = c.orders;
      journal = c.journal;
      room = c.messages;
      sizes = cond (eqb c.answer.refusal 0) (sized_by c.answer.line c.answer.sent sizes) sizes;
    }

unfoldable pub box_event : Event → List ℕ → List ℕ → List ℕ → List ℕ → List ℕ → List ℕ → BoxFlat
box_event event n terms orders journal room sizes =
    cond (box_range n) (flat_step (call event (box_in n) terms orders journal room) n sizes)
    (record { refusal = 12; numbers = n; terms = terms; orders = orders; journal = journal; room = room; sizes = sizes })

-- The answer's number as it is told, and the numbers and sizes as they are left.
pub record Stores (a : Answer) (n sizes : List ℕ) (r : ℕ) (n' sizes' : List ℕ) : Type 0 where
  pub number : r ≡ a.refusal
  pub numbers : n' ≡ cond (eqb a.refusal 0) (box_flat a.node.state n) n
  pub lengths : sizes' ≡ cond (eqb a.refusal 0) (sized_by a.line a.sent sizes) sizes

-- As the contract says it: the lent things before, the answer, and the lent things behind it.
abbrev pub Steps : Event → (n terms orders journal room sizes : List ℕ) → ℕ → (n' terms' orders' journal' room' sizes' : List ℕ) → Type 0
Steps e n terms orders journal room sizes r n' terms' orders' journal' room' sizes' =
    ◌≡◌ {A = BoxFlat}
    (record { refusal = r; numbers = n'; terms = terms'; orders = orders'; journal = journal'; room = room'; sizes = sizes' })
    (box_event e n terms orders journal room sizes)

-- A start: 01's number and 256 times the bytes of the head; the box's numbers where it is 0.
pub record StartFlat : Type 0 where
  pub answer : ℕ
  pub numbers : List ℕ
  pub room : List ℕ

unfoldable pub box_begun : ℕ → ℕ → List ℕ → List ℕ → StartFlat
box_begun me mask n room =
    record {
      answer = (begun me mask room).answer.refusal + 256 * (begun me mask room).answer.bytes;
      numbers = cond (eqb (begun me mask room).answer.refusal 0) (box_flat (begun me mask room).answer.state n) n;
      room = (begun me mask room).journal;
    }

abbrev pub Begins : (me mask : ℕ) (n room : List ℕ) → ℕ → (n' room' : List ℕ) → Type 0
Begins me mask n room r n' room' = ◌≡◌ {A = StartFlat} (record { answer = r; numbers = n'; room = room' }) (box_begun me mask n room)

-- How many entries are handed out, stored, or 12.
pub record HandedFlat : Type 0 where
  pub refusal : ℕ
  pub count : ℕ

unfoldable pub box_handed : List ℕ → List ℕ → List ℕ → ℕ → HandedFlat
box_handed n terms orders count =
    cond (box_range n)
    (record {
      refusal = (handed (box_in n) terms orders).refusal;
      count = cond (eqb (handed (box_in n) terms orders).refusal 0) (handed (box_in n) terms orders).count count;
    })
    (record { refusal = 12; count = count })

abbrev pub Hands : (n terms orders : List ℕ) (count : ℕ) → ℕ → (count' : ℕ) → Type 0
Hands n terms orders count r count' = ◌≡◌ {A = HandedFlat} (record { refusal = r; count = count' }) (box_handed n terms orders count)
