-- No frame is 1; what a frame's message decides, it decides for the bytes (`arrived`), and is finished with the entries that it brings.
use native.Mathlib.Omega.{arith}
use mathlib.Core.Path.{◌∙◌}
use Rattle.frames.specs.Laws.{listed-take}
use Rattle.raft.specs.Event.{step, receives}
use Rattle.record.specs.Calls.{state_of}
use Rattle.record.specs.DecidingLaws.{sound, finished, decides_as}
use Rattle.record.proofs.RefusalLaws.{exit-leaves}
use Rattle.messages.specs.Required.{brings_blank, brings_own}
use Rattle.messages.specs.DeliverLaws.{read-not, read-frame, frame-few}
use Rattle.messages.proofs.receive.run_bytes.Goals as goal

pub returns-in_err-fields : goal.returns-in_err-fields
unfolding step
returns-in_err-fields c =
    let s = state_of c.args.n c.args.terms.now c.args.orders.now in
    exit-leaves c.args.n _ c.from_residual.result c.from_residual.ensures.1 (read-not c.args.bytes.now _ c.in_err-fields.ensures s)

pub arrive-requires : goal.arrive-requires
arrive-requires c = record { ready = c.requires; frame = (read-frame c.args.bytes.now _ c.in_ok-fields.ensures).0 }

pub returns-in_err-d : goal.returns-in_err-d
unfolding step
returns-in_err-d c =
    let frame = read-frame c.args.bytes.now _ c.in_ok-fields.ensures in
    exit-leaves c.args.n _ c.from_residual-in_err-d.result c.from_residual-in_err-d.ensures.1
    (c.in_err-d.ensures ∙ frame.1 (state_of c.args.n c.args.terms.now c.args.orders.now))

pub finish_one-requires : goal.finish_one-requires
unfolding step
finish_one-requires c =
    let frame = read-frame c.args.bytes.now _ c.in_ok-fields.ensures in
    let arrived = decides_as c.in_ok-d.ensures (frame.1 (state_of c.args.n c.args.terms.now c.args.orders.now)) in
    let decides = rw (brings_blank c.in_ok-fields.fields c.if-fields-eq-VOTE_ANSWER.true) at arrived in
    sound (receives c.args.bytes.now) c.requires decides

pub returns-then-fields-eq-VOTE_ANSWER : goal.returns-then-fields-eq-VOTE_ANSWER
unfolding step
returns-then-fields-eq-VOTE_ANSWER c =
    let frame = read-frame c.args.bytes.now _ c.in_ok-fields.ensures in
    let arrived = decides_as c.in_ok-d.ensures (frame.1 (state_of c.args.n c.args.terms.now c.args.orders.now)) in
    let decides = rw (brings_blank c.in_ok-fields.fields c.if-fields-eq-VOTE_ANSWER.true) at arrived in
    c.finish_one.ensures ∙ finished (receives c.args.bytes.now) c.requires decides c.args.journal.now c.args.messages.now

pub shared_ref_as_front-offered : goal.shared_ref_as_front-offered
shared_ref_as_front-offered c =
    omega (arith, frame-few c.in_ok-fields.fields (read-frame c.args.bytes.now _ c.in_ok-fields.ensures).0)

pub finish_adding-requires : goal.finish_adding-requires
unfolding step
finish_adding-requires c =
    let f = c.in_ok-fields.fields in
    let frame = read-frame c.args.bytes.now _ c.in_ok-fields.ensures in
    let own = listed-take f.entries f.count (omega (arith, frame-few f frame.0)) in
    let arrived = decides_as c.in_ok-d.ensures (frame.1 (state_of c.args.n c.args.terms.now c.args.orders.now)) in
    let decides = rw (brings_own f c.if-fields-eq-VOTE_ANSWER.false ∙ own) at arrived in
    sound (receives c.args.bytes.now) c.requires decides

pub returns : goal.returns
unfolding step
returns c =
    let f = c.in_ok-fields.fields in
    let frame = read-frame c.args.bytes.now _ c.in_ok-fields.ensures in
    let own = listed-take f.entries f.count (omega (arith, frame-few f frame.0)) in
    let arrived = decides_as c.in_ok-d.ensures (frame.1 (state_of c.args.n c.args.terms.now c.args.orders.now)) in
    let decides = rw (brings_own f c.if-fields-eq-VOTE_ANSWER.false ∙ own) at arrived in
    c.finish_adding.ensures ∙ finished (receives c.args.bytes.now) c.requires decides c.args.journal.now c.args.messages.now
