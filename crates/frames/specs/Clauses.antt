-- Tests put together, taken apart: a rule of many clauses holds, so each of its clauses does. Assumes nothing.
use Rattle.std.specs.Prelude.{ℕ, ◌≡◌, Bool, true, ◌&&◌, eqb}
use Rattle.std.proofs.Common.{eqb-true}
use Rattle.digits.specs.Tests.{and_left, and_right}

-- four tests that hold together hold one by one (`true` in front leaves three)
pub four : (a b c d : Bool) → (a && b && c && d) ≡ true → (a ≡ true) × (b ≡ true) × (c ≡ true) × (d ≡ true)
four a b c d h =
    let abc = and_left (a && b && c) d h in
    let ab = and_left (a && b) c abc in
    (and_left a b ab, and_right a b ab, and_right (a && b) c abc, and_right (a && b && c) d h)

-- four numbers that are 0 (a 0 in front leaves three)
pub zeros : (a b c d : ℕ) → (eqb a 0 && eqb b 0 && eqb c 0 && eqb d 0) ≡ true → (a ≡ 0) × (b ≡ 0) × (c ≡ 0) × (d ≡ 0)
zeros a b c d h =
    let t = four (eqb a 0) (eqb b 0) (eqb c 0) (eqb d 0) h in
    (eqb-true a 0 t.0, eqb-true b 0 t.1, eqb-true c 0 t.2, eqb-true d 0 t.3)
