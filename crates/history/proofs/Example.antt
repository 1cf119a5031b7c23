-- The facts can hold, and something can be committed: a park of three boxes, two terms. Box 1 leads term 1, box 2 acknowledges its entry, then box
-- 2 is elected for term 2 by itself and box 3, which never saw the entry. Assumes nothing.
use Rattle.std.specs.Prelude.{ℕ, ◌≡◌, refl, true, false, List, [], ◌∷◌}
use Rattle.std.proofs.Common.{arith, inl, inr}
use Rattle.std.specs.Int.Count.{ones}
use Rattle.frames.specs.declared.Entry.{Entry}
use Rattle.raft.specs.Majority.{holds, majority}
use Rattle.raft.proofs.MajorityLaws.{at-box}
use Rattle.raft.specs.Record.{term_at}
use Rattle.raft.specs.Append.{lacks, joined, agreed, stop, passes}
use Rattle.history.specs.Begins.{Begins}
use Rattle.history.specs.Conf.{Most}
use Rattle.history.specs.InForce.{Rule, fixed, agree-fixed}
use Rattle.history.specs.History.{History, Won, Granted, first_of, Committed, Facts}
use Rattle.history.proofs.Book.{leader-holds}
use Rattle.history.specs.Put.{put}
use Rattle.history.specs.Grow.{asks-now, grants-now, acks_now, raised, stood, gave, with_leaders, winner, longer, moved}
use Rattle.history.proofs.GrowLeaders.{may_fixed}
use Rattle.history.proofs.Steps.{fresh_park, fresh-facts, asks, asks-facts, gives, gives-facts, wins, wins-facts, adds, adds-facts, accepts, accepts-facts}

-- To open this is to open every step.
unfoldable pub steps : Unit {0}
unfolding majority ones fresh_park asks stood gives gave raised put wins with_leaders winner moved adds longer accepts joined stop passes agreed term_at lacks
steps = tt

-- an entry of term 1
abbrev pub first : Entry
first = record { term = 1; order = 50 }

-- Box 1 asks, box 2 gives it its vote, box 1 wins and adds the entry, box 2 accepts it;
abbrev asked_1 : History
asked_1 = asks 1 fresh_park

abbrev pub voted_1 : History
voted_1 = gives 2 1 1 asked_1

abbrev pub won_1 : History
won_1 = wins 1 voted_1

abbrev pub added_1 : History
added_1 = adds 1 first won_1

abbrev taken_1 : History
taken_1 = accepts 2 1 0 (first ∷ []) added_1

-- box 2 asks in term 2, box 3 gives it its vote, and box 2 wins.
abbrev asked_2 : History
asked_2 = asks 2 taken_1

abbrev voted_2 : History
voted_2 = gives 3 2 2 asked_2

abbrev won_2 : History
won_2 = wins 2 voted_2

-- Two of three are a majority: a test that failed is none,
never : {A : Type 0} → false ≡ true → A
never e = let z : ◌≡◌ {A = ℕ} 0 1 = cc in absurd (omega arith)

-- boxes 1 and 2,
pub boxes_1_2 : (P : ℕ → Type 0) → P 1 → P 2 → Most 7 P
unfolding holds majority ones
boxes_1_2 P a b =
    record {
      boxes = 3;
      enough = refl;
      each = λ j m. at-box (λ j. holds 3 j ≡ true → P j) (λ e. a) (λ e. b) never never never never never j m.least m.most;
    }

-- and boxes 2 and 3
pub boxes_2_3 : (members : ℕ) → majority members 6 ≡ true → (P : ℕ → Type 0) → P 2 → P 3 → Most members P
unfolding holds
boxes_2_3 members enough P a b =
    record {
      boxes = 6;
      enough = enough;
      each = λ j m. at-box (λ j. holds 6 j ≡ true → P j) never (λ e. a) (λ e. b) never never never never j m.least m.most;
    }

-- ---- term 1

-- Box 2 may give its vote, whatever the membership,
pub voted_1-facts : (rule : Rule) → Facts rule voted_1
unfolding steps
voted_1-facts rule =
    gives-facts 2 1 1 (asks-facts 1 (fresh-facts rule)) (omega arith) alone
    (record { log = []; has = inr asks-now; newer = refl })
  where
    alone : (d : ℕ) → asked_1.voted 2 1 d → d ≡ 1
    alone d (inl v) = absurd v
    alone d (inr v) = v.chosen

-- boxes 1 and 2 granted
pub granted_1 : Most 7 (λ j. Granted voted_1.granted j 1 1)
unfolding steps
granted_1 =
    boxes_1_2 (λ j. Granted voted_1.granted j 1 1)
    (record { log = []; has = inl (inr (grants-now (λ start w. w))) })
    (record { log = []; has = inr (grants-now (λ start w. w)) })

-- so box 1 wins,
won_1-facts : Facts (fixed 7) won_1
unfolding steps
won_1-facts = wins-facts 1 (voted_1-facts (fixed 7)) (λ w. w.has) (inr asks-now) (agree-fixed 7 _ _ (omega arith) granted_1)

-- adds its entry,
pub added_1-facts : Facts (fixed 7) added_1
unfolding steps
added_1-facts =
    adds-facts 1 first won_1-facts (record { box = 1; start = []; has = inr asks-now }) refl refl (may_fixed 7 _ _)

-- and box 2 accepts it.
taken_1-facts : Facts (fixed 7) taken_1
unfolding steps
taken_1-facts =
    accepts-facts 2 1 {index = 0} {prior = 0} {es = first ∷ []} added_1-facts (omega arith)
    (record { box = 1; start = []; has = inr asks-now })
    (record { reach = omega arith; before = refl; piece = record { first = refl } }) refl

-- ---- term 2

-- Box 3 may give its vote,
voted_2-facts : Facts (fixed 7) voted_2
unfolding steps
voted_2-facts =
    let f = asks-facts 2 taken_1-facts in
    gives-facts 3 2 2 f (omega arith) (λ d v. absurd (omega (arith, f.voted_reached 3 2 d v)))
    (record { log = first ∷ []; has = inr asks-now; newer = refl })

-- nobody had won it
unwon_2 : Won voted_2.leaders 2 → ⊥
unfolding steps
unwon_2 w = go w.has
  where
    go : {d : ℕ} {start : List Entry} → voted_2.leaders.won 2 d start → ⊥
    go (inl v) = v
    go (inr q) = omega (arith, q.term)

unwon_2_by : (start : List Entry) → voted_2.leaders.won 2 2 start → ⊥
unwon_2_by start w = unwon_2 (record { box = 2; start = start; has = w })

-- so boxes 2 and 3 granted
granted_2 : Most 7 (λ j. Granted voted_2.granted j 2 2)
unfolding steps
granted_2 =
    boxes_2_3 7 refl (λ j. Granted voted_2.granted j 2 2)
    (record { log = first ∷ []; has = inl (inr (grants-now unwon_2_by)) })
    (record { log = []; has = inr (grants-now unwon_2_by) })

-- The facts hold of all of it,
pub example_facts : Facts (fixed 7) won_2
unfolding steps
example_facts = wins-facts 2 voted_2-facts unwon_2 (inr asks-now) (agree-fixed 7 _ _ (omega arith) granted_2)

-- the entry is committed, by boxes 1 and 2,
pub example_committed : Committed (fixed 7) won_2 1 1 1
unfolding steps
example_committed =
    record {
      least = omega arith;
      within = omega arith;
      reach = omega arith;
      own = refl;
      agree = agree-fixed 7 _ _ (omega arith) (boxes_1_2 (λ j. won_2.acked j 1 1) (inl (inl (inr acks_now))) (inl (inr acks_now)));
    }

-- and the leader of term 2 holds it: by the law, and by a look at its log.
pub example_held : Begins (first_of won_2 1 1) (won_2.leaders.log 2)
unfolding steps
example_held =
    leader-holds example_facts example_committed 2
    (record { box = 2; start = first ∷ []; has = inr asks-now }) (omega arith)

-- what its log is
pub example_log : won_2.leaders.log 2 ≡ first ∷ []
unfolding steps
example_log = refl
