-- One answer only. Of `write`, the outside call: it requires nothing, and two answers that both meet its promise, from the same fields and the same room, are
-- the same answer and leave the same bytes in the room. Stated over the contract itself: `Pre` and `Post` are what its `requires` and `ensures` say; r is an
-- answer, and s the parameters as the call leaves them, `s.0` the room. Assumes nothing.
use mathlib.Core.Path.{◌≡◌, sym, ap, ◌∙◌}
use Rattle.frames.specs.Writing.{Wrote}
use Rattle.frame_writer.proofs.write.Reads as write

pub write_requires_nothing : (κs : _) (a : _) → write.Pre κs a
write_requires_nothing κs a = tt

pub write_one_answer : (κs : _) (a : _) (r r' : _) (s s' : _) → write.Post κs a r s → write.Post κs a r' s' → (r ≡ r') × (s.0.now ≡ s'.0.now)
write_one_answer κs a r r' s s' p q =
    let same = p ∙ sym q in
    (ap (λ (x : Wrote). x.answer) same, ap (λ (x : Wrote). x.room) same)
