-- What the proofs of a message's C functions use. Assumes nothing.
use Rattle.std.specs.Prelude.{ℕ, ◌≡◌, refl, true, false, List, Result, Ok, Err}
use Rattle.std.proofs.Common.{sym, ap, ◌∙◌}
use Rattle.frames.specs.declared.Fields.{Fields}
use Rattle.frames.specs.declared.refusal.Refusal.{Refusal}
use Rattle.frames.specs.Refusal.{number, code}
use Rattle.frames.specs.RefusalLaws.{ok_is, err_is, ok_not_err, err_not_ok}
use Rattle.frames.specs.Reading.{Reading, frame, refused}
use Rattle.frames.specs.Fields.{answer}
use Rattle.frames.specs.Writing.{Wrote, written}
use Rattle.flat.specs.Message.{flat, in_range, fields_in}
use Rattle.abi.specs.Frames.{ReadFlat, read_as, Writes, write_flat}

-- the reader's fields as numbers, where it read a frame
pub read-numbers : (r : Reading) (f : Fields) (n : List ℕ) {m : List ℕ} → Ok f ≡ answer r → m ≡ flat f n
    → ◌≡◌ {A = ReadFlat} (record { refusal = 0; numbers = m }) (read_as r n)
unfolding answer read_as
read-numbers (frame x) f n e w = rw (w, ok_is e)
read-numbers refused f n e w = absurd (ok_not_err e)

-- and where it did not
pub read-nothing : (r : Reading) (q : Refusal) (n : List ℕ) → Err q ≡ answer r → ◌≡◌ {A = ReadFlat} (record { refusal = number q; numbers = n }) (read_as r n)
unfolding answer read_as
read-nothing (frame x) q n e = absurd (err_not_ok e)
read-nothing refused q n e = rw (err_is e)

module _ (n room : List ℕ) where
  -- numbers that do not fit are no message
  pub write_nothing : in_range n ≡ false → Writes n room 1 room
  unfolding write_flat
  write_nothing h = rw h

  -- the writer's answer for the fields that the numbers are
  pub write_fields : {room' : List ℕ} → in_range n ≡ true → (f : Fields) (w : Result ℕ Refusal) → f ≡ fields_in n
      → ◌≡◌ {A = Wrote} (record { answer = w; room = room' }) (written f room) → Writes n room (code w) room'
  unfolding write_flat
  write_fields h f w i e = rw (h, ← i, ← e)
