-- What the outcome leaves (`WrittenLaws`): a refusal nothing, the rest its line and its messages; the log stays as it was.
use mathlib.Core.Path.{refl, sym}
use Rattle.std.proofs.lemmas.Result.{err_from_is_err_and}
use Rattle.record.specs.WrittenLaws.{fitting, refused-left, log-stays, adds_none-decided, lent-line, lent-messages, lent-left}
use Rattle.finishing.proofs.plain.finish.Goals as goal

pub returns-in_err-sizes : goal.returns-in_err-sizes
returns-in_err-sizes c =
    let p = err_from_is_err_and c.from_residual.result c.from_residual.ensures.1 in
    rw (p.1, p.2, ← adds_none-decided c.requires.sound c.requires.none)
    (refused-left c.requires.sound c.args.journal.now c.args.messages.now c.in_err-sizes.ensures)

pub put_line-requires : goal.put_line-requires
put_line-requires c =
    let (terms, orders) = log-stays c.requires.sound c.requires.none in
    lent-line c.requires.sound (sym terms) (sym orders)
    (fitting c.args.n c.args.d _ _ c.in_ok-sizes.ensures)

pub put_messages-requires : goal.put_messages-requires
put_messages-requires c =
    let (terms, orders) = log-stays c.requires.sound c.requires.none in
    lent-messages c.requires.sound (sym terms) (sym orders)
    (fitting c.args.n c.args.d _ _ c.in_ok-sizes.ensures)

pub returns : goal.returns
returns c =
    let (terms, orders) = log-stays c.requires.sound c.requires.none in
    let fits = fitting c.args.n c.args.d _ _ c.in_ok-sizes.ensures in
    rw (← adds_none-decided c.requires.sound c.requires.none)
    (lent-left c.requires.sound (sym terms) (sym orders) c.args.journal.now c.args.messages.now fits
    (c.put_line.ensures c.args.n c.args.d refl refl fits.line)
    c.put_messages.ensures)
