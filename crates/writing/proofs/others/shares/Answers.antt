-- The shares of the boxes before i, one more at each turn (`share_adds`, `share_skips`).
use Rattle.std.proofs.Common.{sym, ◌∙◌, arith}
use Rattle.frames.specs.Limits.{IsBox}
use Rattle.record.specs.SizeLaws.{shares-none}
use Rattle.writing.specs.Others.{share_adds, share_skips}
use Rattle.writing.proofs.others.shares.Goals.{then-is_other, else-is_other}
use Rattle.writing.proofs.others.shares.Goals as goal

pub loop-i-init : goal.loop-i-init
loop-i-init g c = record { low = omega arith; summed = λ share h. sym (shares-none c.args.n share) }

pub loop-i-preserved : goal.loop-i-preserved
loop-i-preserved g c =
    elim c.if-is_other.branch [
      | then-is_other w ↦
          let other = sym c.is_other.ensures ∙ w.if-is_other.true in
          let box : IsBox c.loop-i.i = record { least = omega arith; most = omega arith } in
          record {
            low = omega (arith, w.bytes-is, c.requires.low c.loop-i.i w.size-bytes.result box w.size-bytes.ensures);
            summed = λ share h.
                share_adds c.args.n share c.loop-i.i c.loop-i.bytes w.size-bytes.result c.if-is_other.bytes (omega arith) (c.loop-i.invariant.summed share h)
                other (h c.loop-i.i w.size-bytes.result box w.size-bytes.ensures) w.bytes-is;
          }
      | else-is_other w ↦
          let none = sym c.is_other.ensures ∙ w.if-is_other.false in
          record {
            low = omega (arith, w.bytes-is);
            summed = λ share h.
                share_skips c.args.n share c.loop-i.i c.loop-i.bytes c.if-is_other.bytes (omega arith) (c.loop-i.invariant.summed share h)
                none w.bytes-is;
          }
    ]
