-- A change of membership: of boxes 1, 2 and 3, box 1 leads, adds the joint configuration of 07 and 06 and, once that is committed, 06, which boxes
-- 2 and 3 commit without it. The facts hold all along. Assumes nothing.
use Rattle.std.proofs.Common.{arith, inl, inr}
use Rattle.std.specs.Prelude.{◌≡◌, refl, [], ◌∷◌}
use Rattle.frames.specs.declared.Entry.{Entry}
use Rattle.history.specs.Conf.{one, joint, Agrees, Extends}
use Rattle.history.specs.InForce.{changing, named, configuration, names, found_by, found}
use Rattle.history.specs.History.{History, Committed, sooner, none, by, Facts}
use Rattle.history.specs.Grow.{asks-now, acks_now}
use Rattle.history.proofs.GrowLeaders.{may_change}
use Rattle.history.proofs.Steps.{wins-facts, adds, adds-facts, accepts, accepts-facts}
use Rattle.history.proofs.Example.{steps, won_1, boxes_1_2, boxes_2_3, voted_1-facts, granted_1}

-- To open this is to open the reading of configurations too.
unfoldable reads : Unit {0}
unfolding steps changing named configuration found_by found Extends
reads = tt

-- "first byte ff .. old mask .., new mask, five zeros"
abbrev both : Entry
both = record { term = 1; order = 18376663401578364928 }

abbrev new : Entry
new = record { term = 1; order = 18374693076741390336 }

-- they name the joint configuration of 07 and 06, and 06
both-named : named both ≡ names (joint 7 6)
unfolding named configuration
both-named = refl

new-named : named new ≡ names (one 6)
unfolding named configuration
new-named = refl

-- Box 1 of the Example has won term 1 by box 2's vote. It adds the joint configuration, boxes 2 and 3 accept it;
abbrev joined : History
joined = adds 1 both won_1

abbrev at_2 : History
at_2 = accepts 2 1 0 (both ∷ []) joined

abbrev at_3 : History
at_3 = accepts 3 1 0 (both ∷ []) at_2

-- box 1 adds the new one, and boxes 2 and 3 accept that.
abbrev changed : History
changed = adds 1 new at_3

abbrev next_2 : History
next_2 = accepts 2 1 1 (new ∷ []) changed

abbrev next_3 : History
next_3 = accepts 3 1 1 (new ∷ []) next_2

-- under 07 boxes 1 and 2 agree,
won-facts : Facts (changing 7) won_1
unfolding reads Agrees
won-facts =
    wins-facts 1 (voted_1-facts (changing 7)) (λ w. w.has) (inr asks-now)
    (record { held = record { small = omega arith; most = granted_1 } })

joined-facts : Facts (changing 7) joined
unfolding reads
joined-facts =
    adds-facts 1 both won-facts (record { box = 1; start = []; has = inr asks-now }) refl refl
    (may_change [] both (joint 7 6) both-named refl (none refl))

at_2-facts : Facts (changing 7) at_2
unfolding steps
at_2-facts =
    accepts-facts 2 1 {index = 0} {prior = 0} {es = both ∷ []} joined-facts (omega arith) (record { box = 1; start = []; has = inr asks-now })
    (record { reach = omega arith; before = refl; piece = record { first = refl } }) refl

at_3-facts : Facts (changing 7) at_3
unfolding steps
at_3-facts =
    accepts-facts 3 1 {index = 0} {prior = 0} {es = both ∷ []} at_2-facts (omega arith) (record { box = 1; start = []; has = inr asks-now })
    (record { reach = omega arith; before = refl; piece = record { first = refl } }) refl

-- under the joint one boxes 1 and 2 of 07 agree, and 2 and 3 of 06, so it is committed,
joint-committed : Committed (changing 7) at_3 1 1 1
unfolding reads Agrees
joint-committed =
    record {
      least = omega arith;
      within = omega arith;
      reach = omega arith;
      own = refl;
      agree = record {
        held = (
          record { small = omega arith; most = boxes_1_2 (λ j. at_3.acked j 1 1) (inl (inl (inr acks_now))) (inl (inr acks_now)) },
          record { small = omega arith; most = boxes_2_3 6 refl (λ j. at_3.acked j 1 1) (inl (inr acks_now)) (inr acks_now) },
        );
      };
    }

-- and box 1 may add 06
changed-facts : Facts (changing 7) changed
unfolding reads
changed-facts =
    adds-facts 1 new at_3-facts (record { box = 1; start = []; has = inr asks-now }) refl refl
    (may_change (both ∷ []) new (one 6) new-named refl (by joint-committed (omega arith) (record { first = refl }) (sooner refl (omega arith))))

next_2-facts : Facts (changing 7) next_2
unfolding steps
next_2-facts =
    accepts-facts 2 1 {index = 1} {prior = 1} {es = new ∷ []} changed-facts (omega arith) (record { box = 1; start = []; has = inr asks-now })
    (record { reach = omega arith; before = refl; piece = record { first = refl } }) refl

-- **The facts hold,**
pub change_facts : Facts (changing 7) next_3
unfolding steps
change_facts =
    accepts-facts 3 1 {index = 1} {prior = 1} {es = new ∷ []} next_2-facts (omega arith) (record { box = 1; start = []; has = inr asks-now })
    (record { reach = omega arith; before = refl; piece = record { first = refl } }) refl

-- and 06 is committed by boxes 2 and 3.
pub new-committed : Committed (changing 7) next_3 1 2 2
unfolding reads Agrees
new-committed =
    record {
      least = omega arith;
      within = omega arith;
      reach = omega arith;
      own = refl;
      agree = record { held = record { small = omega arith; most = boxes_2_3 6 refl (λ j. next_3.acked j 1 2) (inl (inr acks_now)) (inr acks_now) } };
    }
