-- One answer only. Of `read`, the outside call: it requires nothing, and two answers that both meet its promise, on the same bytes, are the same. Stated over the
-- contract itself: `Pre` and `Post` are what its `requires` and `ensures` say. Assumes nothing.
use mathlib.Core.Path.{◌≡◌, sym, ◌∙◌}
use Rattle.frame_reader.proofs.read.Reads as read

pub read_requires_nothing : (κs : _) (a : _) → read.Pre κs a
read_requires_nothing κs a = tt

pub read_one_answer : (κs : _) (a : _) (r r' : _) (s s' : _) → read.Post κs a r s → read.Post κs a r' s' → r ≡ r'
read_one_answer κs a r r' s s' p q = p ∙ sym q
