-- No bytes are no line; any others are the line that the definition has.
use mathlib.Core.Path.{sym, ◌∙◌}
use Rattle.record.specs.Sizes.{line_bytes}
use Rattle.record.specs.WrittenLaws.{line-none, line-some}
use Rattle.finishing.proofs.bytes.put_line.Goals as goal

pub returns-then-line-eq0 : goal.returns-then-line-eq0
returns-then-line-eq0 c =
    λ n d same kept size. line-none n d c.args.terms.now c.args.orders.now c.args.journal.now (sym c.if-line-eq0.true ∙ size)

pub returns : goal.returns
unfolding line_bytes
returns c =
    λ n d same kept size. rw ((line-some n d _ c.if-line-eq0.false size).0, same, kept) c.put_line.ensures
