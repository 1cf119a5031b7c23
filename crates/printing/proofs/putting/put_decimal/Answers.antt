-- The library's decimal is the definition's (`library-decimal`), of whatever number it was given, and that is the number asked for.
use native.Mathlib.Omega.{arith}
use mathlib.Core.Path.{ap, ◌∙◌}
use Prim.Native.Nat.{◌+◌}
use lib.ListN.{length}
use Rattle.digits.specs.Room.{over}
use Rattle.printing.specs.Text.{decimal}
use Rattle.printing.specs.TextLaws.{library-decimal}
use Rattle.printing.proofs.putting.put_decimal.Goals as goal

pub returns-clause-puts : goal.returns-clause-puts
returns-clause-puts c =
    let text = c.as_bytes-text.ensures.value ∙ c.format.ensures.text ∙ library-decimal _ (omega (arith, c.ranges.n.fits)) ∙ ap decimal (omega (arith, c.ranges.n.fits)) in
    record { behind = ap (λ s. c.args.at + length s) text; holds = c.put.ensures ∙ ap (λ s. over c.args.room.now c.args.at s) text }
