-- What the outcome leaves (`WrittenLaws`): a refusal nothing, the rest the new entries, its line and its messages.
use mathlib.Core.List.{List}
use mathlib.Core.Path.{refl, ap, sym, ◌∙◌}
use Rattle.digits.specs.Room.{over}
use Rattle.frames.specs.declared.Entry.{Entry}
use Rattle.raft.specs.Lent.{terms_of, orders_of}
use Rattle.rules.specs.SliceLaws.{listed-slice}
use Rattle.std.proofs.lemmas.Result.{err_from_is_err_and}
use Rattle.record.specs.WrittenLaws.{fitting, refused-left, lent-line, lent-messages, lent-left}
use Rattle.finishing.proofs.adding.finish_adding.Goals as goal

pub returns-in_err-sizes : goal.returns-in_err-sizes
returns-in_err-sizes c =
    let p = err_from_is_err_and c.from_residual.result c.from_residual.ensures.1 in
    rw (p.1, p.2) (refused-left c.requires c.args.journal.now c.args.messages.now c.in_err-sizes.ensures)

pub put_line-requires : goal.put_line-requires
put_line-requires c =
    let added = sym (listed-slice c.args.offered.now c.args.d.first c.args.d.count c.requires.decides.held) in
    let terms = c.store.ensures.terms_after ∙ ap (λ (es : List Entry). over c.args.terms.now c.args.d.kept (terms_of es)) added in
    let orders = c.store.ensures.orders_after ∙ ap (λ (es : List Entry). over c.args.orders.now c.args.d.kept (orders_of es)) added in
    lent-line c.requires terms orders (fitting c.args.n c.args.d _ _ c.in_ok-sizes.ensures)

pub put_messages-requires : goal.put_messages-requires
put_messages-requires c =
    let added = sym (listed-slice c.args.offered.now c.args.d.first c.args.d.count c.requires.decides.held) in
    let terms = c.store.ensures.terms_after ∙ ap (λ (es : List Entry). over c.args.terms.now c.args.d.kept (terms_of es)) added in
    let orders = c.store.ensures.orders_after ∙ ap (λ (es : List Entry). over c.args.orders.now c.args.d.kept (orders_of es)) added in
    lent-messages c.requires terms orders (fitting c.args.n c.args.d _ _ c.in_ok-sizes.ensures)

pub returns : goal.returns
returns c =
    let added = sym (listed-slice c.args.offered.now c.args.d.first c.args.d.count c.requires.decides.held) in
    let terms = c.store.ensures.terms_after ∙ ap (λ (es : List Entry). over c.args.terms.now c.args.d.kept (terms_of es)) added in
    let orders = c.store.ensures.orders_after ∙ ap (λ (es : List Entry). over c.args.orders.now c.args.d.kept (orders_of es)) added in
    let fits = fitting c.args.n c.args.d _ _ c.in_ok-sizes.ensures in
    lent-left c.requires terms orders c.args.journal.now c.args.messages.now fits
    (c.put_line.ensures c.args.n c.args.d refl refl fits.line)
    c.put_messages.ensures
