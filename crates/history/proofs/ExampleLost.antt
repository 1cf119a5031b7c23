-- What is acknowledged and not committed may be lost: the facts say no more. Box 1 of the Example leads term 1 and adds an entry that no other box
-- takes up. Assumes nothing.
use Rattle.std.specs.Prelude.{ℕ, ◌≡◌, refl, List, [], ◌∷◌}
use Rattle.std.proofs.Common.{arith, inl, inr}
use Rattle.frames.specs.declared.Entry.{Entry}
use Rattle.history.specs.Conf.{Most}
use Rattle.history.specs.InForce.{fixed, agree-fixed}
use Rattle.history.specs.History.{History, Won, Granted, Facts}
use Rattle.history.specs.Grow.{asks-now, grants-now, acks_now}
use Rattle.history.proofs.GrowLeaders.{may_fixed}
use Rattle.history.proofs.Steps.{asks, asks-facts, gives, gives-facts, wins, wins-facts, adds, adds-facts, accepts, accepts-facts}
use Rattle.history.proofs.Example.{steps, added_1, added_1-facts, boxes_2_3}

-- Box 2 never hears of the entry: it asks in term 2 with an empty log, box 3 gives it its vote, it wins and adds another entry,
abbrev second : Entry
second = record { term = 2; order = 60 }

abbrev asked_3 : History
asked_3 = asks 2 added_1

abbrev voted_3 : History
voted_3 = gives 3 2 2 asked_3

abbrev won_3 : History
won_3 = wins 2 voted_3

abbrev added_3 : History
added_3 = adds 2 second won_3

-- and box 1 accepts that one.
abbrev taken_3 : History
taken_3 = accepts 1 2 0 (second ∷ []) added_3

-- Box 3 may give its vote,
voted_3-facts : Facts (fixed 7) voted_3
unfolding steps
voted_3-facts =
    let f = asks-facts 2 added_1-facts in
    gives-facts 3 2 2 f (omega arith) (λ d v. absurd (omega (arith, f.voted_reached 3 2 d v)))
    (record { log = []; has = inr asks-now; newer = refl })

-- nobody had won the term,
unwon_3 : Won voted_3.leaders 2 → ⊥
unfolding steps
unwon_3 w = go w.has
  where
    go : {d : ℕ} {start : List Entry} → voted_3.leaders.won 2 d start → ⊥
    go (inl v) = v
    go (inr q) = omega (arith, q.term)

unwon_3_by : (start : List Entry) → voted_3.leaders.won 2 2 start → ⊥
unwon_3_by start w = unwon_3 (record { box = 2; start = start; has = w })

-- boxes 2 and 3 granted,
granted_3 : Most 7 (λ j. Granted voted_3.granted j 2 2)
unfolding steps
granted_3 =
    boxes_2_3 7 refl (λ j. Granted voted_3.granted j 2 2)
    (record { log = []; has = inl (inr (grants-now unwon_3_by)) })
    (record { log = []; has = inr (grants-now unwon_3_by) })

-- so box 2 wins and adds its entry.
added_3-facts : Facts (fixed 7) added_3
unfolding steps
added_3-facts =
    adds-facts 2 second (wins-facts 2 voted_3-facts unwon_3 (inr asks-now) (agree-fixed 7 _ _ (omega arith) granted_3))
    (record { box = 2; start = []; has = inr asks-now }) refl refl (may_fixed 7 _ _)

-- The facts hold, box 1 had acknowledged its entry of term 1, and no longer has it.
pub lost-facts : Facts (fixed 7) taken_3
unfolding steps
lost-facts =
    accepts-facts 1 2 {index = 0} {prior = 0} {es = second ∷ []} added_3-facts (omega arith)
    (record { box = 2; start = []; has = inr asks-now })
    (record { reach = omega arith; before = refl; piece = record { first = refl } }) refl

-- it had acknowledged,
pub lost-acked : taken_3.acked 1 1 1
unfolding steps
lost-acked = inl (inl (inl (inr acks_now)))

-- and has another log
pub lost-log : taken_3.log 1 ≡ second ∷ []
unfolding steps
lost-log = refl
