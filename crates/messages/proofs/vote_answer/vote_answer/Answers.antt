-- The definition's three cases; who wins is a candidate still, and good, so it can lead.
use mathlib.Core.Path.{refl, sym, ◌∙◌}
use Rattle.raft.specs.VoteAnswer.{adding, counts}
use Rattle.record.specs.declared.Send.{Send}
use Rattle.record.specs.Calls.{state_of}
use Rattle.record.specs.Deciding.{messages_of, Aimed}
use Rattle.record.specs.DecidingLaws.{plain-decides, changed-decides, decides_as}
use Rattle.record.specs.GoodLaws.{ready-last}
use Rattle.messages.specs.VoteLaws.{answer_idle, answer-counts, answer-wins, counts-stands, counted-good}
use Rattle.messages.proofs.vote_answer.vote_answer.Goals as goal

pub returns-then-not-counts : goal.returns-then-not-counts
unfolding messages_of Aimed counts
returns-then-not-counts c =
    let s = state_of c.args.t c.args.terms.now c.args.orders.now in
    rw c.step.ensures
    (plain-decides c.args.t _ c.args.terms.now c.args.orders.now Send.Nothing (ready-last c.requires.ready) tt
    (answer_idle s c.args.from c.args.reply (c.if-not-counts.true)))

pub returns-then-not-is_majority : goal.returns-then-not-is_majority
unfolding messages_of Aimed counts adding
returns-then-not-is_majority c =
    let s = state_of c.args.t c.args.terms.now c.args.orders.now in
    let few = rw c.bit.ensures at (sym c.is_majority.ensures ∙ c.if-not-is_majority.true) in
    rw c.step-then-not-is_majority.ensures
    (changed-decides c.args.t _ _ c.args.terms.now c.args.orders.now Send.Nothing refl (ready-last c.requires.ready) tt
    (rw c.bit.ensures (answer-counts s c.args.from c.args.reply (c.if-not-counts.false) few)))

pub won-requires : goal.won-requires
unfolding adding counts
won-requires c =
    let s = state_of c.args.t c.args.terms.now c.args.orders.now in
    let counted = c.if-not-counts.false in
    record {
      ready = record {
        terms_long = c.requires.ready.terms_long;
        orders_long = c.requires.ready.orders_long;
        rules = rw c.bit.ensures
            (counted-good c.args.t c.args.from c.args.reply c.args.terms.now c.args.orders.now c.requires counted);
      };
      stands = counts-stands s c.args.from c.args.reply counted;
    }

pub returns : goal.returns
unfolding counts adding
returns c =
    let s = state_of c.args.t c.args.terms.now c.args.orders.now in
    let most = rw c.bit.ensures at (sym c.is_majority.ensures ∙ c.if-not-is_majority.false) in
    decides_as c.won.ensures.decides
    (rw c.bit.ensures (answer-wins s c.args.from c.args.reply (c.if-not-counts.false) most))
