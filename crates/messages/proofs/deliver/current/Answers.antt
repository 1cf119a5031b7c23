-- Each kind's decision is the definition's for that kind.
use native.Mathlib.Omega.{arith}
use mathlib.Core.List.{List}
use mathlib.Core.Path.{sym, ap, ◌∙◌}
use Rattle.std.proofs.lemmas.List.{length-take-le}
use Rattle.frames.specs.declared.Entry.{Entry}
use Rattle.frames.specs.Laws.{listed-take}
use Rattle.raft.specs.Append.{on_append}
use Rattle.raft.specs.Order.{blank}
use Rattle.record.specs.Calls.{state_of}
use Rattle.record.specs.DecidingLaws.{decides_as, answers_as, decides-term}
use Rattle.messages.specs.Required.{brought, brings_blank, brings_own}
use Rattle.messages.specs.DeliverLaws.{current_1, current_2, current_3, current_4, delivered-lent, delivered-offered}
use Rattle.messages.proofs.deliver.current.Goals as goal

pub vote_request-requires : goal.vote_request-requires
vote_request-requires c = delivered-lent c.requires.delivered

pub returns-in-1 : goal.returns-in-1
returns-in-1 c =
    decides_as (c.vote_request.ensures (brought c.args.f) c.args.orders.now)
    (current_1 c.args.f (state_of c.args.t c.args.terms.now c.args.orders.now) c.in-1.is)

pub returns-in-2 : goal.returns-in-2
returns-in-2 c =
    rw (brings_blank c.args.f c.in-2.is) (decides_as (decides-term blank c.requires.same c.vote_answer.ensures)
    (current_2 c.args.f (state_of c.args.t c.args.terms.now c.args.orders.now) c.in-2.is))

pub shared_ref_as_front-entries : goal.shared_ref_as_front-entries
shared_ref_as_front-entries c = omega (arith, (delivered-offered c.requires.delivered c.in-3.is).few)

pub append-requires : goal.append-requires
append-requires c =
    let offered = delivered-offered c.requires.delivered c.in-3.is in
    rw (length-take-le c.args.f.count c.args.f.entries (omega (arith, offered.few))) offered

pub returns-in-3 : goal.returns-in-3
returns-in-3 c =
    let s = state_of c.args.t c.args.terms.now c.args.orders.now in
    let own = listed-take c.args.f.entries c.args.f.count (omega (arith, (delivered-offered c.requires.delivered c.in-3.is).few)) in
    rw (brings_own c.args.f (omega (arith, c.in-3.is)) ∙ own)
    (answers_as _ c.append.result _ _ _ (c.append.ensures c.args.orders.now)
    (ap (λ (es : List Entry). on_append s c.args.f.from c.args.f.index c.args.f.prior c.args.f.commit es) (sym own)
    ∙ current_3 c.args.f s c.in-3.is))

pub returns-in_default : goal.returns-in_default
returns-in_default c =
    answers_as _ c.append_answer.result _ _ _ (c.append_answer.ensures (brought c.args.f))
    (current_4 c.args.f (state_of c.args.t c.args.terms.now c.args.orders.now) (omega arith) (omega arith) (omega arith))
