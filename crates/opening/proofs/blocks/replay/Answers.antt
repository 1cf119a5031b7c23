-- A line with too many entries breaks a rule; and the next record and its log (`replay-next`).
use native.Mathlib.Omega.{arith}
use mathlib.Core.Path.{sym, ◌∙◌}
use Rattle.journal.specs.Lines.{count_in}
use Rattle.opening.specs.Calls.{LentLog}
use Rattle.opening.specs.CodeLaws.{allowed-numbers}
use Rattle.opening.specs.ReplayCode.{replay_many, replay-next}
use Rattle.opening.proofs.blocks.replay.Goals as goal

pub returns-then-get-gt-ENTRIES : goal.returns-then-get-gt-ENTRIES
unfolding count_in
returns-then-get-gt-ENTRIES c =
    replay_many c.args.n c.args.line.now c.args.terms.now c.args.orders.now
    (omega (arith, c.get.ensures, c.if-get-gt-ENTRIES.true))

pub store-requires : goal.store-requires
store-requires c =
    let holds = sym (c.is_allowed.ensures c.args.orders.now) ∙ c.if-not-is_allowed.false in
    let fits = allowed-numbers c.args.n _ c.args.terms.now c.args.orders.now holds in
    record {
      in_terms = omega (arith, fits.room, c.told-terms);
      in_orders = omega (arith, fits.room, c.told-orders);
    }

pub after-requires : goal.after-requires
after-requires c =
    let holds = sym (c.is_allowed.ensures c.args.orders.now) ∙ c.if-not-is_allowed.false in
    (allowed-numbers c.args.n _ c.args.terms.now c.args.orders.now holds).room

pub returns : goal.returns
returns c =
    let shaped = sym c.is_shaped.ensures ∙ c.if-not-is_shaped.false in
    let holds = sym (c.is_allowed.ensures c.args.orders.now) ∙ c.if-not-is_allowed.false in
    let lent : LentLog c.args.terms.now c.args.orders.now = record { terms_long = c.told-terms; orders_long = c.told-orders } in
    let next = replay-next c.args.n c.args.line.now c.args.terms.now c.args.orders.now _ shaped c.line_fields-l.ensures.result_value holds lent in
    next c.after.ensures (omega arith) c.store.ensures.terms_after c.store.ensures.orders_after
