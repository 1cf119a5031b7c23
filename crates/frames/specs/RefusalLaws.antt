-- A refusal's number tells it: no two have one, and none has 0. So a promise of the number is a promise of the refusal.
use Rattle.std.specs.Prelude.{ℕ, ◌≡◌, false, cond, eqb, Result, Ok, Err}
use Rattle.std.proofs.Common.{arith, refl, sym, ap, ◌∙◌, eq-eqb, true≢false}
use Rattle.frames.specs.declared.refusal.Refusal.{Refusal}
use Rattle.frames.specs.declared.refusal.Refusal.TheVariants.{NotAFrame, NotForThisBox, NotLeader, LogFull, NoRoom, SecondLeader}
use Rattle.frames.specs.declared.refusal.Refusal.TheVariants.{CutsCommitted, PastLog, LastTerm, BadLine, NoHead, BadRecord, BlankOrder}
use Rattle.frames.specs.Refusal.{number}

pub refused : (r : Refusal) → eqb (number r) 0 ≡ false
refused NotAFrame = refl
refused NotForThisBox = refl
refused NotLeader = refl
refused LogFull = refl
refused NoRoom = refl
refused SecondLeader = refl
refused CutsCommitted = refl
refused PastLog = refl
refused LastTerm = refl
refused BadLine = refl
refused NoHead = refl
refused BadRecord = refl
refused BlankOrder = refl

-- So none is told by 0.
pub not_0 : (r : Refusal) → number r ≡ 0 → ⊥
not_0 r e = true≢false (sym (eq-eqb (number r) 0 e) ∙ refused r)

-- The refusal of a number.
abbrev named : ℕ → Refusal
named n =
    (cond (eqb n 1) NotAFrame (cond (eqb n 2) NotForThisBox (cond (eqb n 3) NotLeader
    (cond (eqb n 4) LogFull (cond (eqb n 5) NoRoom (cond (eqb n 6) SecondLeader
    (cond (eqb n 7) CutsCommitted (cond (eqb n 8) PastLog (cond (eqb n 9) LastTerm
    (cond (eqb n 10) BadLine (cond (eqb n 11) NoHead (cond (eqb n 12) BadRecord BlankOrder))))))))))))

named_number : (r : Refusal) → named (number r) ≡ r
named_number NotAFrame = refl
named_number NotForThisBox = refl
named_number NotLeader = refl
named_number LogFull = refl
named_number NoRoom = refl
named_number SecondLeader = refl
named_number CutsCommitted = refl
named_number PastLog = refl
named_number LastTerm = refl
named_number BadLine = refl
named_number NoHead = refl
named_number BadRecord = refl
named_number BlankOrder = refl

pub one_number : (r s : Refusal) → number r ≡ number s → r ≡ s
one_number r s e = sym (named_number r) ∙ ap named e ∙ named_number s

-- ---- an answer is one of its two cases, and tells what it holds

module _ {A : Type 0} where
  value_or : A → Result A Refusal → A
  value_or x (Ok y) = y
  value_or x (Err r) = x

  error_or : Refusal → Result A Refusal → Refusal
  error_or x (Ok y) = x
  error_or x (Err r) = r

  case_of : Result A Refusal → ℕ
  case_of (Ok y) = 0
  case_of (Err r) = 1

  pub ok_is : {x y : A} → ◌≡◌ {A = Result A Refusal} (Ok x) (Ok y) → x ≡ y
  unfolding value_or
  ok_is {x} e = ap (value_or x) e

  pub err_is : {r s : Refusal} → ◌≡◌ {A = Result A Refusal} (Err r) (Err s) → r ≡ s
  unfolding error_or
  err_is {r} e = ap (error_or r) e

  pub ok_not_err : {x : A} {r : Refusal} → ◌≡◌ {A = Result A Refusal} (Ok x) (Err r) → ⊥
  unfolding case_of
  ok_not_err e = omega (arith, ap case_of e)

  pub err_not_ok : {x : A} {r : Refusal} → ◌≡◌ {A = Result A Refusal} (Err r) (Ok x) → ⊥
  unfolding case_of
  err_not_ok e = omega (arith, ap case_of e)
