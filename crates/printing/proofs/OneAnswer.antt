-- One answer only. Of `asked`, the outside call: it requires nothing, and two answers that both meet its promise, on the same line, are the same. Stated over the
-- contract itself: `Pre` and `Post` are what its `requires` and `ensures` say. Assumes nothing.
use mathlib.Core.Path.{◌≡◌, sym, ◌∙◌}
use Rattle.printing.proofs.looking.asked.Reads as asked

pub asked_requires_nothing : (κs : _) (a : _) → asked.Pre κs a
asked_requires_nothing κs a = tt

pub asked_one_answer : (κs : _) (a : _) (r r' : _) (s s' : _) → asked.Post κs a r s → asked.Post κs a r' s' → r ≡ r'
asked_one_answer κs a r r' s s' p q = p ∙ sym q
