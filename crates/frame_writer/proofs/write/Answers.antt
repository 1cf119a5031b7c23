-- A frame's kind is one of the four and its entries are at most four, so its size is far from overflowing.
use native.Mathlib.Omega.{arith}
use mathlib.Core.Path.{sym}
use Rattle.frames.proofs.ReadingLaws.{size-lt}
use Rattle.frames.specs.WritingLaws.{whole}
use Rattle.frame_writer.proofs.write.Goals as goal

pub size-requires : goal.size-requires
size-requires c =
    omega (arith, whole c.args.f (sym c.if-not-is_frame.ensures))

pub text_size-bytes-requires : goal.text_size-bytes-requires
text_size-bytes-requires c =
    let facts = whole c.args.f (sym c.if-not-is_frame.ensures) in
    omega (arith, c.size.ensures, size-lt c.args.f.kind c.args.f.count (omega arith) (omega arith))
