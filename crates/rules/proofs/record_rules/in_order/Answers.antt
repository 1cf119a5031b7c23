-- Terms that never fall are at most the last of them: so the rule is that they rise from 1 on and that the last is at most the term (`order-whole`).
use Rattle.std.proofs.Common.{◌≡◌, refl, sym, length, arith}
use Rattle.raft.specs.Lent.{entries_of}
use Rattle.rules.specs.RecordLaws.{final, rises, rises_next, final-next, order-whole}
use Rattle.rules.proofs.record_rules.in_order.Goals as goal

pub loop-t-init : goal.loop-t-init
unfolding entries_of final rises
loop-t-init c = record { latest = refl; found = refl }

pub loop-t-preserved : goal.loop-t-preserved
loop-t-preserved c =
    record {
      latest = sym (final-next c.args.terms.now c.loop-t.t-index);
      found = rw (c.loop-t.invariant.latest, c.loop-t.invariant.found) (sym (rises_next c.args.terms.now c.loop-t.t-index));
    }

pub returns : goal.returns
returns c =
    let all : c.loop-t.t-index ≡ length c.args.terms.now = omega arith in
    rw (c.loop-t.invariant.latest, c.loop-t.invariant.found, all, c.is_empty.ensures) (order-whole c.args.terms.now (length c.args.terms.now) c.args.term)
