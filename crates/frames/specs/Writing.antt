-- Writing a frame into room that the caller lends. Assumes nothing.
use Rattle.std.specs.Prelude.{ℕ, cond, List, leb, length, Result, Ok, Err}
use Rattle.digits.specs.Room.{over}
use Rattle.frames.specs.declared.Fields.{Fields}
use Rattle.frames.specs.declared.refusal.Refusal.{Refusal}
use Rattle.frames.specs.declared.refusal.Refusal.TheVariants.{NotAFrame, NoRoom}
use Rattle.frames.specs.Message.{text}
use Rattle.frames.specs.Fields.{message_of, one_frame}

-- The writer's answer, how many bytes it wrote or why it wrote none, with the room as it is then.
pub record Wrote : Type 0 where
  pub answer : Result ℕ Refusal
  pub room : List ℕ

-- `NotAFrame` where the fields are not one frame, then `NoRoom` where the room is too short, and neither touches the room;
-- otherwise how many bytes were written, and the frame at the room's start.
unfoldable pub written : Fields → List ℕ → Wrote
written f room =
    cond (one_frame f)
    (cond (leb (length (text (message_of f))) (length room))
    (record { answer = Ok (length (text (message_of f))); room = over room 0 (text (message_of f)) })
    (record { answer = Err NoRoom; room = room }))
    (record { answer = Err NotAFrame; room = room })
