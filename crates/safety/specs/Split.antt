-- What a call hands over in one room is the step's frames, one a line: who cuts the room at its line feeds has what Park calls sent. Assumes nothing.
use Rattle.std.specs.Prelude.{◌≡◌, refl, List, [], ◌∷◌, ◌++◌}
use Rattle.std.proofs.Common.{sym, ap, ◌∙◌, append-nil}
use Rattle.frames.specs.Message.{Message, text, table}
use Rattle.raft.specs.Sends.{texts}
use Rattle.raft.proofs.SendLaws.{All}
use Rattle.journal.specs.Lines.{lines}
use Rattle.journal.proofs.LinesLaws.{Whole, strung, lines-strung}
use Rattle.journal.proofs.LineSpelling.{whole-lined}
use Rattle.safety.specs.Park.{frames}

-- a frame is a line,
text-whole : (m : Message) → Whole (text m)
unfolding text
text-whole m = whole-lined (table m)

-- so frames are lines,
frames-whole : (ms : List Message) → All Whole (frames ms)
unfolding frames All
frames-whole [] = tt
frames-whole (m ∷ ms) = (text-whole m, frames-whole ms)

-- and what a call writes is those lines, one behind the other
texts-strung : (ms : List Message) → texts ms ≡ strung (frames ms)
unfolding texts frames strung
texts-strung [] = refl
texts-strung (m ∷ ms) = ap (λ l. text m ++ l) (texts-strung ms)

-- **Cut at its line feeds, it is the frames.**
pub room-is-frames : (ms : List Message) → lines (texts ms) ≡ frames ms
unfolding All
room-is-frames ms =
    ap lines (texts-strung ms ∙ sym (append-nil (strung (frames ms)))) ∙ lines-strung (frames ms) [] (frames-whole ms) tt
