-- The letter, the number behind it, the line feed behind both (`refusal-put`).
use Rattle.printing.specs.TextLaws.{refusal-put}
use Rattle.printing.proofs.putting.put_refusal.Goals as goal

pub returns : goal.returns
returns c =
    refusal-put c.args.room.now c.args.number c.requires c.put_decimal-end.ensures.puts
