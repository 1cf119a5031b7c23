-- `ok` says what was found up to here.
use mathlib.Core.Path.{◌≡◌}
use lib.ListN.{take}
use Rattle.text.specs.Lines.{has_none}
use Rattle.text.proofs.is_plain.Given as goal

abbrev pub invariant-loop-b : goal.invariant-loop-b
invariant-loop-b l = l.ok ≡ has_none (take l.b-index l.bytes)
