-- What is passed are digits exactly when all tests were passed.
use mathlib.Core.Path.{◌≡◌}
use lib.ListN.{take}
use Rattle.digits.specs.Digits.{all_digits}
use Rattle.digits.proofs.all_digits.Given as goal

-- `ok` says what was found up to here.
abbrev pub invariant-loop-c : goal.invariant-loop-c
invariant-loop-c l = l.ok ≡ all_digits (take l.c-index l.s)
