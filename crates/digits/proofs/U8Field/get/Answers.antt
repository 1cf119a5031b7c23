-- A field of one byte is two digits (`field_byte`), each worth less than 16; the run has digits alone.
use native.Mathlib.Omega.{arith}
use Prim.Native.Nat.{ℕ, ◌+◌, ◌<◌}
use mathlib.Core.Path.{◌≡◌, sym}
use Rattle.digits.specs.Digits.{worth}
use Rattle.digits.specs.Laws.{worth-lt, field_byte, run-le, run_at}
use Rattle.digits.proofs.U8Field.get.Goals as goal

-- what a digit character is worth is less than 16
worth_small : (w c : ℕ) → w ≡ worth c → w < 16
worth_small w c e = rw e (worth-lt c)

pub bounds-s-at : goal.bounds-s-at
bounds-s-at c =
    omega (arith, run-le c.args.s.now)

pub worth-high-requires : goal.worth-high-requires
worth-high-requires c =
    run_at c.args.s.now c.args.at (omega arith)

pub overflow_add-at : goal.overflow_add-at
overflow_add-at c =
    omega (arith, run-le c.args.s.now)

pub bounds-s-at-2 : goal.bounds-s-at-2
bounds-s-at-2 c =
    omega (arith, run-le c.args.s.now)

pub worth-low-requires : goal.worth-low-requires
worth-low-requires c =
    run_at c.args.s.now (c.args.at + 1) (omega arith)

pub overflow_mul-result : goal.overflow_mul-result
overflow_mul-result c = omega (arith, worth_small _ _ c.worth-high.ensures, worth_small _ _ c.worth-low.ensures)

pub overflow_add-result : goal.overflow_add-result
overflow_add-result c = omega (arith, worth_small _ _ c.worth-high.ensures, worth_small _ _ c.worth-low.ensures)

pub returns : goal.returns
returns c =
    rw (c.worth-high.ensures, c.worth-low.ensures) (sym (field_byte c.args.s.now c.args.at (omega (arith, run-le c.args.s.now))))
