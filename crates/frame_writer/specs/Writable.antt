-- Fields that are one frame, and room for it: what the writer has looked at before it writes. Assumes nothing.
use Rattle.std.specs.Prelude.{ℕ, ◌≤◌, ◌≡◌, true, List, length}
use Rattle.std.proofs.Common.{arith, ap}
use Rattle.frames.specs.declared.Fields.{Fields}
use Rattle.frames.specs.Message.{text}
use Rattle.frames.specs.Reading.{size, text_size}
use Rattle.frames.specs.Fields.{message_of, one_frame}
use Rattle.frames.specs.WritingLaws.{text-bytes}

pub record Writable (f : Fields) (room : List ℕ) : Type 0 where
  pub frame : one_frame f ≡ true
  pub fits : length (text (message_of f)) ≤ length room

-- so the room is as long as the kind and the count tell
pub room_of : (f : Fields) (room : List ℕ) → Writable f room → (k : ℕ) → f.kind ≡ k → text_size (size k f.count) ≤ length room
room_of f room w k e = omega (arith, w.fits, text-bytes f w.frame, ap (λ (j : ℕ). size j f.count) e)
