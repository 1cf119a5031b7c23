-- Opening a journal, for callers in C and Rust. Assumes nothing.
use Rattle.std.specs.Prelude.{ℕ, ◌≡◌, Bool, true, not, cond, List, eqb, set, Result, Ok, Err}
use Rattle.std.proofs.Common.{sym, ◌∙◌}
use borrow.Author.Tests.{not-true}
use Rattle.frames.specs.declared.refusal.Refusal.{Refusal}
use Rattle.frames.specs.Refusal.{code}
use Rattle.frames.specs.RefusalLaws.{refused}
use Rattle.record.specs.declared.Record.{Record}
use Rattle.opening.specs.declared.Opened.{Opened}
use Rattle.opening.specs.declared.Unopened.{Unopened}
use Rattle.opening.specs.Calls.{Replaying, replaying, Replays, OpenedTold, told_open, Opening, opens, Opens}
use Rattle.flat.specs.Box.{box_range, box_in, box_flat}

-- What opening answers, and everything that was lent: on a refusal the numbers are as they were.
pub record OpenFlat : Type 0 where
  pub refusal : ℕ
  pub numbers : List ℕ
  pub terms : List ℕ
  pub orders : List ℕ
  pub sizes : List ℕ

-- The bytes, or the number of the line that breaks a rule.
abbrev pub sized_open : OpenedTold → List ℕ → List ℕ
sized_open o sizes = cond (eqb o.refusal 0) (set sizes 0 o.bytes) (cond (eqb o.refusal 10) (set sizes 1 o.fault) sizes)

abbrev pub flat_open : Opening → List ℕ → List ℕ → OpenFlat
flat_open o n sizes =
    record {
      refusal = o.answer.refusal;
      numbers = cond (eqb o.answer.refusal 0) (box_flat o.answer.state n) n;
      terms = o.terms;
      orders = o.orders;
      sizes = sized_open o.answer sizes;
    }

unfoldable pub journal_opens : ℕ → List ℕ → List ℕ → List ℕ → List ℕ → List ℕ → OpenFlat
journal_opens me bytes n terms orders sizes = flat_open (opens me bytes terms orders) n sizes

-- As the contracts say it: the answer's number and what is stored of it; the lent things before, the answer, and the lent things behind it.
pub record StoresOpen (o : Result Opened Unopened) (n sizes : List ℕ) (r : ℕ) (n' sizes' : List ℕ) : Type 0 where
  pub number : r ≡ (told_open o).refusal
  pub numbers : n' ≡ cond (eqb (told_open o).refusal 0) (box_flat (told_open o).state n) n
  pub lengths : sizes' ≡ sized_open (told_open o) sizes

abbrev pub FlatOpens : (me : ℕ) (text n terms orders sizes : List ℕ) → ℕ → (n' terms' orders' sizes' : List ℕ) → Type 0
FlatOpens me text n terms orders sizes r n' terms' orders' sizes' =
    ◌≡◌ {A = OpenFlat}
    (record { refusal = r; numbers = n'; terms = terms'; orders = orders'; sizes = sizes' })
    (journal_opens me text n terms orders sizes)

-- The same of one line over the record that the numbers are; 12 where one of them does not fit its field.
pub record ReplayFlat : Type 0 where
  pub refusal : ℕ
  pub numbers : List ℕ
  pub terms : List ℕ
  pub orders : List ℕ

abbrev pub flat_replay : Replaying → List ℕ → ReplayFlat
flat_replay o n =
    record {
      refusal = o.answer.refusal;
      numbers = cond (eqb o.answer.refusal 0) (box_flat o.answer.state n) n;
      terms = o.terms;
      orders = o.orders;
    }

unfoldable pub journal_replays : List ℕ → List ℕ → List ℕ → List ℕ → ReplayFlat
journal_replays bytes n terms orders =
    cond (box_range n) (flat_replay (replaying (box_in n) bytes terms orders) n)
    (record { refusal = 12; numbers = n; terms = terms; orders = orders })

abbrev pub box_stored : Result Record Refusal → List ℕ → List ℕ
box_stored (Ok s) n = box_flat s n
box_stored (Err r) n = n

pub record StoresReplay (o : Result Record Refusal) (n : List ℕ) (r : ℕ) (n' : List ℕ) : Type 0 where
  pub number : r ≡ code o
  pub numbers : n' ≡ box_stored o n

abbrev pub FlatReplays : (text n terms orders : List ℕ) → ℕ → (n' terms' orders' : List ℕ) → Type 0
FlatReplays text n terms orders r n' terms' orders' =
    ◌≡◌ {A = ReplayFlat} (record { refusal = r; numbers = n'; terms = terms'; orders = orders' }) (journal_replays text n terms orders)

-- ---- what the code comes to

pub opens-flat : (me : ℕ) (text n terms orders sizes : List ℕ) (o : Result Opened Unopened) {r : ℕ} {n' terms' orders' sizes' : List ℕ}
    → Opens me text terms orders o terms' orders' → StoresOpen o n sizes r n' sizes'
    → FlatOpens me text n terms orders sizes r n' terms' orders' sizes'
unfolding journal_opens
opens-flat me text n terms orders sizes o e s = rw (← e, s.number, s.numbers, s.lengths)

module _ (text n terms orders : List ℕ) where
  -- numbers that do not fit are no record
  pub replays-none : {fits : Bool} → fits ≡ box_range n → not fits ≡ true → FlatReplays text n terms orders 12 n terms orders
  unfolding journal_replays
  replays-none {fits} t h = rw (sym t ∙ not-true fits h)

  pub replays-flat : {r : ℕ} {n' terms' orders' : List ℕ} → box_range n ≡ true → (b : Record) (o : Result Record Refusal) → b ≡ box_in n
      → Replays b text terms orders o terms' orders' → StoresReplay o n r n' → FlatReplays text n terms orders r n' terms' orders'
  unfolding journal_replays
  replays-flat h b (Ok next) i e s = rw (h, ← i, ← e, s.number, s.numbers)
  replays-flat h b (Err why) i e s = rw (h, ← i, ← e, s.number, s.numbers, refused why)
