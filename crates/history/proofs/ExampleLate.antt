-- Why a vote that is given once its candidate has won does not count: the box may have lost by then, to that leader, what it had acknowledged. Box 1 of
-- the Example leads term 1, box 3 term 2, and box 1 term 3, with the log of term 1; box 3 accepts that log and only then gives its vote. Assumes nothing.
use Rattle.std.specs.Prelude.{ℕ, ◌<◌, ◌≡◌, refl, List, [], ◌∷◌, get_or}
use Rattle.std.proofs.Common.{arith, ap, inl, inr}
use Rattle.frames.specs.declared.Entry.{Entry}
use Rattle.frames.specs.Fields.{no_entry}
use Rattle.history.specs.Conf.{Most}
use Rattle.history.specs.InForce.{fixed, agree-fixed}
use Rattle.history.specs.History.{History, Won, Granted, Retains, retains, beaten, kept, lost, Facts}
use Rattle.history.specs.Grow.{asks-now, grants-now, votes-now, acks_now}
use Rattle.history.proofs.GrowLeaders.{may_fixed}
use Rattle.history.proofs.Steps.{asks, asks-facts, gives, gives-facts, wins, wins-facts, adds, adds-facts, accepts, accepts-facts}
use Rattle.history.proofs.Example.{steps, first, added_1, added_1-facts, boxes_1_2, boxes_2_3}

-- Box 3 never hears of the entry of term 1. It asks in vain in term 1, and in term 2 box 2 gives it its vote; it wins and adds an entry,
abbrev second : Entry
second = record { term = 2; order = 60 }

abbrev asked_2 : History
asked_2 = asks 3 (asks 3 added_1)

abbrev voted_2 : History
voted_2 = gives 2 2 3 asked_2

abbrev added_2 : History
added_2 = adds 3 second (wins 3 voted_2)

-- box 1 asks in vain in term 2, and in term 3 box 2 gives it its vote; it wins,
abbrev asked_3 : History
asked_3 = asks 1 (asks 1 added_2)

abbrev voted_3 : History
voted_3 = gives 2 3 1 asked_3

abbrev won_3 : History
won_3 = wins 1 voted_3

-- box 3 accepts its log, and then gives it its vote.
abbrev taken_3 : History
taken_3 = accepts 3 3 0 (first ∷ []) won_3

abbrev late : History
late = gives 3 3 1 taken_3

-- ---- term 2

-- Box 2 may give its vote to box 3,
voted_2-facts : Facts (fixed 7) voted_2
unfolding steps
voted_2-facts =
    let f = asks-facts 3 (asks-facts 3 added_1-facts) in
    gives-facts 2 2 3 f (omega arith) (λ d v. absurd (omega (arith, f.voted_reached 2 2 d v)))
    (record { log = []; has = inr asks-now; newer = refl })

-- nobody had won the term,
unwon_2 : Won voted_2.leaders 2 → ⊥
unfolding steps
unwon_2 w = go w.has
  where
    go : {d : ℕ} {start : List Entry} → voted_2.leaders.won 2 d start → ⊥
    go (inl v) = v
    go (inr q) = omega (arith, q.term)

unwon_2_by : (start : List Entry) → voted_2.leaders.won 2 3 start → ⊥
unwon_2_by start w = unwon_2 (record { box = 3; start = start; has = w })

-- boxes 2 and 3 granted,
granted_2 : Most 7 (λ j. Granted voted_2.granted j 2 3)
unfolding steps
granted_2 =
    boxes_2_3 7 refl (λ j. Granted voted_2.granted j 2 3)
    (record { log = []; has = inr (grants-now unwon_2_by) })
    (record { log = []; has = inl (inr (grants-now unwon_2_by)) })

-- so box 3 wins and adds its entry.
added_2-facts : Facts (fixed 7) added_2
unfolding steps
added_2-facts =
    adds-facts 3 second (wins-facts 3 voted_2-facts unwon_2 (inr asks-now) (agree-fixed 7 _ _ (omega arith) granted_2))
    (record { box = 3; start = []; has = inr asks-now }) refl refl (may_fixed 7 _ _)

-- ---- term 3

-- Box 2 may give its vote to box 1,
voted_3-facts : Facts (fixed 7) voted_3
unfolding steps
voted_3-facts =
    let f = asks-facts 1 (asks-facts 1 added_2-facts) in
    gives-facts 2 3 1 f (omega arith) (λ d v. absurd (omega (arith, f.voted_reached 2 3 d v)))
    (record { log = first ∷ []; has = inr asks-now; newer = refl })

-- nobody had won the term,
unwon_3 : Won voted_3.leaders 3 → ⊥
unfolding steps
unwon_3 w = go w.has
  where
    go : {d : ℕ} {start : List Entry} → voted_3.leaders.won 3 d start → ⊥
    go (inl (inl v)) = v
    go (inl (inr q)) = omega (arith, q.term)
    go (inr q) = omega (arith, q.term)

unwon_3_by : (start : List Entry) → voted_3.leaders.won 3 1 start → ⊥
unwon_3_by start w = unwon_3 (record { box = 1; start = start; has = w })

-- boxes 1 and 2 granted,
granted_3 : Most 7 (λ j. Granted voted_3.granted j 3 1)
unfolding steps
granted_3 =
    boxes_1_2 (λ j. Granted voted_3.granted j 3 1)
    (record { log = first ∷ []; has = inl (inr (grants-now unwon_3_by)) })
    (record { log = []; has = inr (grants-now unwon_3_by) })

-- so box 1 wins,
won_3-facts : Facts (fixed 7) won_3
unfolding steps
won_3-facts = wins-facts 1 voted_3-facts unwon_3 (inr asks-now) (agree-fixed 7 _ _ (omega arith) granted_3)

-- and box 3 accepts its log.
taken_3-facts : Facts (fixed 7) taken_3
unfolding steps
taken_3-facts =
    accepts-facts 3 3 {index = 0} {prior = 0} {es = first ∷ []} won_3-facts (omega arith)
    (record { box = 1; start = first ∷ []; has = inr asks-now })
    (record { reach = omega arith; before = refl; piece = record { first = refl } }) refl

-- The facts hold, the late vote among them,
pub late-facts : Facts (fixed 7) late
unfolding steps
late-facts =
    gives-facts 3 3 1 taken_3-facts (omega arith) (λ d v. absurd (omega (arith, won_3-facts.voted_reached 3 3 d v)))
    (record { log = first ∷ []; has = inr asks-now; newer = refl })

-- which does not count;
pub late_uncounted : (log : List Entry) → late.granted 3 3 1 log → ⊥
unfolding steps
late_uncounted log (inl g) = omega (arith, won_3-facts.voted_reached 3 3 1 (won_3-facts.granted_voted 3 3 1 log g))
late_uncounted log (inr g) = g.unwon (first ∷ []) (inr asks-now)

-- box 3 had acknowledged its entry of term 2,
pub late-acked : late.acked 3 2 1
unfolding steps
late-acked = inl (inl (inr acks_now))

-- and no longer has it: nobody but the box that it votes for has won without it
lost_it : Retains late.leaders 2 1 3 1 (late.log 3) → ⊥
unfolding steps
lost_it (retains (kept b)) =
    let orders : ◌≡◌ {A = ℕ} 50 60 = ap (λ (l : List Entry). (get_or l 0 no_entry).order) b.first in
    omega arith
lost_it (retains (lost l)) = omega (arith, l.above, l.below)
lost_it (beaten d start w other b) = go w
  where
    go : late.leaders.won 3 d start → ⊥
    go (inl (inl (inl v))) = v
    go (inl (inl (inr q))) = omega (arith, q.term)
    go (inl (inr q)) = omega (arith, q.term)
    go (inr q) = other q.box

-- **Were every vote counted, one of the facts, `keeping`, would be false.**
pub late-counted : ((j t n s c : ℕ) → late.acked j t n → late.voted j s c → t < s → Retains late.leaders t n s c (late.log j)) → ⊥
unfolding steps
late-counted claim = lost_it (claim 3 2 1 3 1 late-acked (inr votes-now) (omega arith))
