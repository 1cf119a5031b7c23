-- The first line: a head starts its box, any other is answered 12. Assumes nothing.
use Rattle.std.specs.Prelude.{ℕ, ◌≤◌, ◌<◌, Bool, cond, ◌&&◌, List, eqb, leb}
use Rattle.std.proofs.Common.{arith, ◌∙◌, eqb-true, eq-eqb, leb-true, le-leb, sym}
use Rattle.std.proofs.Math.Path.{◌≡◌, refl, ap}
use Rattle.std.proofs.Math.Bool.{true, false}
use Rattle.std.proofs.Math.ListN.{length}
use Rattle.std.proofs.lemmas.Bool.{lt-leb}
use Rattle.digits.specs.Digits.{run}
use Rattle.digits.specs.Room.{over}
use Rattle.digits.specs.Tests.{and_left, and_right}
use Rattle.frames.specs.Reading.{is_line, version, kind}
use Rattle.frames.proofs.ReadingLaws.{line-run}
use Rattle.raft.specs.Record.{is_membership, fresh}
use Rattle.raft.specs.Journal.{head}
use Rattle.journal.specs.Lines.{box_in, mask_in, head_shaped}
use Rattle.journal.specs.Opening.{is_head}
use Rattle.record.specs.declared.Record.{Record}
use Rattle.record.specs.Calls.{StartTold, record_of, begun}
use Rattle.record.specs.Calls as calls
use Rattle.record.specs.WrittenLaws.{head-long}
use Rattle.console.specs.Session.{is_start}
use Rattle.printing.specs.Text.{refusal_line}
use Rattle.printing.specs.TextLaws.{refusal-most}
use Rattle.console.specs.Calls.{Begun, longest, starts, Starts, Beginning, none, beginning, Begins}
use Rattle.printing.specs.Putting.{Puts}

-- a head's form has eight digits
pub head-digits : (line : List ℕ) → head_shaped line ≡ true → run line ≡ 8
unfolding head_shaped
head-digits line h =
    let long : eqb (length line) 9 ≡ true = and_right (is_line line && eqb (version line) 1 && eqb (kind line) 17) _ h in
    let front = and_left (is_line line && eqb (version line) 1 && eqb (kind line) 17) _ h in
    let one : is_line line ≡ true = and_left (is_line line) _ (and_left (is_line line && eqb (version line) 1) _ front) in
    omega (arith, line-run line one, eqb-true (length line) 9 long)

-- what has not the form of a head starts nothing
pub unshaped : (line : List ℕ) → head_shaped line ≡ false → is_start line ≡ false
unfolding is_start is_head
unshaped line h = rw h

-- what has it starts a box exactly when its mask is a membership that holds the box
pub shaped : (line : List ℕ) → head_shaped line ≡ true → is_start line ≡ is_membership (box_in line) (mask_in line)
unfolding is_start is_head
shaped line h = rw (h, eq-eqb (box_in line) (box_in line) refl)

-- ---- no start

-- room that is too short for any answer stays as it is, and no box is handed out
pub begin_short : (line room : List ℕ) → length room < longest → {n : Record} → n ≡ none
    → Begins line room (record { fits = false; started = false; state = n; bytes = 0 }) room
unfolding beginning
begin_short line room h e = rw (lt-leb longest (length room) h, e)

-- ---- a start by a line

-- as its form tells
pub starts_none : (line room : List ℕ) → head_shaped line ≡ false → starts line room ≡ begun 0 0 room
unfolding starts
starts_none line room h = rw h

starts-head : (line room : List ℕ) → head_shaped line ≡ true → starts line room ≡ begun (box_in line) (mask_in line) room
unfolding starts
starts-head line room h = rw h

pub starts_unshaped : (line room : List ℕ) → head_shaped line ≡ false
    → ◌≡◌ {A = calls.Begun} (record { answer = record { refusal = 12; state = none; bytes = 0 }; journal = room }) (starts line room)
unfolding begun is_membership
starts_unshaped line room h = sym (starts_none line room h)

pub starts-shaped : (line room : List ℕ) {me mask : ℕ} → head_shaped line ≡ true → me ≡ box_in line → mask ≡ mask_in line
    → begun me mask room ≡ starts line room
starts-shaped line room h e f = rw (starts-head line room h, e, f)

-- with room for a head, it starts a box or it is 12
abbrev started_by : List ℕ → List ℕ → calls.Begun
started_by line room =
    cond (is_start line)
    (record {
      answer = record { refusal = 0; state = record_of (fresh (box_in line) (mask_in line)); bytes = length (head (box_in line) (mask_in line)) };
      journal = over room 0 (head (box_in line) (mask_in line));
    })
    (record { answer = record { refusal = 12; state = none; bytes = 0 }; journal = room })

starts_by : (line room : List ℕ) → longest ≤ length room → starts line room ≡ started_by line room
unfolding begun is_membership
starts_by line room h = go (head_shaped line) refl
  where
    go : (b : Bool) → head_shaped line ≡ b → starts line room ≡ started_by line room
    go true p =
        rw (
          starts-head line room p,
          shaped line p,
          le-leb (length (head (box_in line) (mask_in line))) (length room) (omega (arith, head-long (box_in line) (mask_in line))),
        )
    go false p = rw (starts_none line room p, unshaped line p)

module _ (line room : List ℕ) (h : longest ≤ length room) {st : StartTold} {room' : List ℕ} (e : Starts line room st room') where
  -- a start that is refused: 12 is printed
  pub start-bad : (st.refusal ≡ 0 → ⊥) → {room'' : List ℕ} {bytes : ℕ} → Puts room' 0 (refusal_line 12) bytes room''
      → Begins line room (record { fits = true; started = false; state = st.state; bytes = bytes }) room''
  unfolding beginning
  start-bad z {room''} {bytes} r = go (is_start line) refl (e ∙ starts_by line room h)
    where
      long : bytes ≡ length (refusal_line 12)
      long = omega (arith, r.behind)

      go : (b : Bool) → is_start line ≡ b → ◌≡◌ {A = calls.Begun} (record { answer = st; journal = room' }) (started_by line room)
          → Begins line room (record { fits = true; started = false; state = st.state; bytes = bytes }) room''
      go true p q = absurd (z (ap (λ (x : calls.Begun). x.answer.refusal) (rw p at q)))
      go false p q =
          let q' = rw p at q in
          rw (le-leb longest (length room) h, p, r.holds, long, ap (λ (x : calls.Begun). x.answer) q', ap (λ (x : calls.Begun). x.journal) q')

  -- one that is done: the fresh box and its head
  pub start-done : st.refusal ≡ 0 → Begins line room (record { fits = true; started = true; state = st.state; bytes = st.bytes }) room'
  unfolding beginning
  start-done z = go (is_start line) refl (e ∙ starts_by line room h)
    where
      go : (b : Bool) → is_start line ≡ b → ◌≡◌ {A = calls.Begun} (record { answer = st; journal = room' }) (started_by line room)
          → Begins line room (record { fits = true; started = true; state = st.state; bytes = st.bytes }) room'
      go true p q =
          let q' = rw p at q in
          rw (le-leb longest (length room) h, p, ap (λ (x : calls.Begun). x.answer) q', ap (λ (x : calls.Begun). x.journal) q')
      go false p q = absurd (omega (arith, z, ap (λ (x : calls.Begun). x.answer.refusal) (rw p at q)))

-- ---- what is printed fits

begin_most : (line room : List ℕ) → (beginning line room).answer.bytes ≤ length room
unfolding beginning
begin_most line room = go (leb longest (length room)) refl (is_start line) refl
  where
    go : (b : Bool) → leb longest (length room) ≡ b → (m : Bool) → is_start line ≡ m → (beginning line room).answer.bytes ≤ length room
    go true e true p = rw (e, p) (omega (arith, leb-true longest (length room) e, head-long (box_in line) (mask_in line)))
    go true e false p = rw (e, p) (omega (arith, leb-true longest (length room) e, refusal-most 12))
    go false e m p = rw e (omega arith)

pub begin_within : (line room : List ℕ) {x : Begun} {room' : List ℕ} → Begins line room x room' → x.bytes ≤ length room
begin_within line room e = omega (arith, ap (λ (b : Beginning). b.answer.bytes) e, begin_most line room)
