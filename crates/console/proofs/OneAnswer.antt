-- One answer only. `begin`, `answer` and `answer_lines` require nothing, and two answers that both meet the promise, from the same arguments, are the same
-- answer and leave the same in everything lent: the log's terms and orders, and the room that is printed. Stated over the contracts themselves: `Pre` and
-- `Post` are what a function's `requires` and `ensures` say; r is an answer, and s the parameters as the call leaves them, `s.0` the first, `s.1.0` the
-- second, and so on. Assumes nothing.
use mathlib.Core.Path.{◌≡◌, refl, sym, ap, ◌∙◌}
use Rattle.std.specs.Prelude.{ℕ, Bool, cond, Option, Some, None}
use native.Mathlib.Omega.{arith}
use Rattle.record.specs.declared.Record.{Record}
use Rattle.console.specs.declared.Begun as declared
use Rattle.console.specs.declared.Answered as answers
use Rattle.console.specs.Calls.{Begun, told_begun, started_or, Answered, told, Beginning, AfterLine, AfterLines}
use Rattle.console.proofs.lines.begin.Reads as begin
use Rattle.console.proofs.lines.answer.Reads as answer
use Rattle.console.proofs.blocks.answer_lines.Reads as answer-lines

-- ---- what is told of an answer is told of no other

-- yes is not no
number : Bool → ℕ
number b = cond b 1 0

fits : (s : Option Record) (n : ℕ) → number (started_or s n).fits ≡ 1
unfolding number
fits (Some s) n = refl
fits None n = refl

begun_one : (r r' : Option declared.Begun) → told_begun r ≡ told_begun r' → r ≡ r'
unfolding number
begun_one (Some x) (Some y) e = some-started x.state y.state x.bytes y.bytes e
  where
    some-started : (s t : Option Record) (m n : ℕ) → started_or s m ≡ started_or t n
        → ◌≡◌ {A = Option declared.Begun} (Some (record { state = s; bytes = m })) (Some (record { state = t; bytes = n }))
    some-started (Some s) (Some t) m n e = ap (λ (b : Begun). Some (record { state = Some b.state; bytes = b.bytes })) e
    some-started (Some s) None m n e = absurd (omega (arith, ap (λ (b : Begun). number b.started) e))
    some-started None (Some t) m n e = absurd (omega (arith, ap (λ (b : Begun). number b.started) e))
    some-started None None m n e = ap (λ (b : Begun). Some (record { state = None; bytes = b.bytes })) e
begun_one (Some x) None e = absurd (omega (arith, fits x.state x.bytes, ap (λ (b : Begun). number b.fits) e))
begun_one None (Some y) e = absurd (omega (arith, fits y.state y.bytes, ap (λ (b : Begun). number b.fits) e))
begun_one None None e = refl

told_one : (b : Record) (r r' : Option answers.Answered) → told b r ≡ told b r' → r ≡ r'
unfolding number
told_one b (Some x) (Some y) e = ap (λ (t : Answered). Some (record { state = t.state; bytes = t.bytes })) e
told_one b (Some x) None e = absurd (omega (arith, ap (λ (t : Answered). number t.fits) e))
told_one b None (Some y) e = absurd (omega (arith, ap (λ (t : Answered). number t.fits) e))
told_one b None None e = refl

-- ---- `begin`: the answer, and the room. (Its other promise is a bound on the answer.)

pub begin_requires_nothing : (κs : _) (a : _) → begin.Pre κs a
begin_requires_nothing κs a = tt

pub begin_one_answer : (κs : _) (a : _) (r r' : _) (s s' : _) → begin.Post κs a r s → begin.Post κs a r' s'
    → (r ≡ r') × (s.1.0.now ≡ s'.1.0.now)
begin_one_answer κs a r r' s s' p q =
    let same = p.0 ∙ sym q.0 in
    (begun_one r r' (ap (λ (x : Beginning). x.answer) same), ap (λ (x : Beginning). x.room) same)

-- ---- `answer`: the answer, the log's terms and orders, and the room

pub answer_requires_nothing : (κs : _) (a : _) → answer.Pre κs a
answer_requires_nothing κs a = tt

pub answer_one_answer : (κs : _) (a : _) (r r' : _) (s s' : _) → answer.Post κs a r s → answer.Post κs a r' s'
    → (r ≡ r') × (s.1.1.0.now ≡ s'.1.1.0.now) × (s.1.1.1.0.now ≡ s'.1.1.1.0.now)
    × (s.1.1.1.1.0.now ≡ s'.1.1.1.1.0.now)
answer_one_answer κs a r r' s s' p q =
    let same = p ∙ sym q in (
      told_one a.0 r r' (ap (λ (x : AfterLine). x.answer) same),
      ap (λ (x : AfterLine). x.terms) same,
      ap (λ (x : AfterLine). x.orders) same,
      ap (λ (x : AfterLine). x.room) same,
    )

-- ---- `answer_lines`: the same. (Its other promise is a bound on the answer.)

pub answer_lines_requires_nothing : (κs : _) (a : _) → answer-lines.Pre κs a
answer_lines_requires_nothing κs a = tt

pub answer_lines_one_answer : (κs : _) (a : _) (r r' : _) (s s' : _) → answer-lines.Post κs a r s → answer-lines.Post κs a r' s'
    → (r ≡ r') × (s.1.1.0.now ≡ s'.1.1.0.now) × (s.1.1.1.0.now ≡ s'.1.1.1.0.now)
    × (s.1.1.1.1.0.now ≡ s'.1.1.1.1.0.now)
answer_lines_one_answer κs a r r' s s' p q =
    let same = p.0 ∙ sym q.0 in (
      ap (λ (x : AfterLines). x.answer) same,
      ap (λ (x : AfterLines). x.terms) same,
      ap (λ (x : AfterLines). x.orders) same,
      ap (λ (x : AfterLines). x.room) same,
    )
