-- An election: a candidate to which those who agree said yes, and which has not won, wins. Each yes was granted, for it has not won; and nobody
-- else has won its term, for two who could win one term are one box (`one-standing`). Assumes nothing.
use Rattle.std.specs.Prelude.{ℕ, suc, List, length}
use Rattle.std.proofs.Common.{arith}
use Rattle.std.proofs.Math.Logic.{inr}
use Rattle.frames.specs.declared.Entry.{Entry}
use Rattle.history.specs.Conf.{Agree}
use Rattle.history.proofs.ConfLaws.{agree-map}
use Rattle.history.specs.InForce.{Rule, in_force}
use Rattle.history.specs.History.{History, Won, Granted, Facts}
use Rattle.history.proofs.LeaderComplete.{Standing, won-standing, one-standing}
use Rattle.history.specs.Grow.{asks-now, votes-now, grants-now, acks_now, raised, stood, gave, moved}
use Rattle.history.proofs.Steps.{asks, gives, wins, wins-facts, wins-later}
use Rattle.history.proofs.Later.{Later}
use Rattle.history.proofs.Told.{Vote}

-- a vote that is given is granted, unless the candidate has won
gave-vote : (i t c : ℕ) (h : History) → Vote (gave i t c h) i t c
unfolding gave
gave-vote i t c h = record { voted = inr votes-now; counts = λ free. record { log = h.log i; has = inr (grants-now free) } }

-- What a box that gives its vote says yes to.
pub gives-vote : (i t c : ℕ) (h : History) → Vote (gives i t c h) i t c
unfolding gives
gives-vote i t c h = gave-vote i t c (raised i t h)

module _ {rule : Rule} {h : History} (c : ℕ) (f : Facts rule h) where
  -- A candidate has its own vote,
  pub asks-vote : Vote (asks c h) c (suc (h.term c)) c
  unfolding asks
  asks-vote = gave-vote c (suc (h.term c)) c (stood c (suc (h.term c)) h)

  -- has asked with its log,
  pub asks-asked : (asks c h).asked (suc (h.term c)) c (h.log c)
  unfolding asks gave stood
  asks-asked = inr asks-now

  -- and has not won the term: who wins has asked in it, and this box had not reached it.
  pub asks-unwon : (start : List Entry) → (asks c h).leaders.won (suc (h.term c)) c start → ⊥
  unfolding asks gave stood
  asks-unwon start w =
      omega (arith, f.asked_reached (suc (h.term c)) c start (f.won_asked (suc (h.term c)) c start w))

-- What an election leaves behind.
pub record Elected (rule : Rule) (h : History) (c : ℕ) : Type 0 where
  pub facts : Facts rule (wins c h)
  pub later : Later h (wins c h)
  pub acked : (wins c h).acked c (h.term c) (length (h.log c))

-- A candidate that has not won, and to which those who agree under its configuration said yes, wins.
pub elected : {rule : Rule} {h : History} (c : ℕ) → Facts rule h → h.asked (h.term c) c (h.log c)
    → ((start : List Entry) → h.leaders.won (h.term c) c start → ⊥)
    → Agree (in_force rule (h.log c) (length (h.log c))) (λ j. Vote h j (h.term c) c) → Elected rule h c
unfolding wins moved
elected {rule} {h} c f a not m =
    record { facts = wins-facts c f free a grants; later = wins-later c f free; acked = inr acks_now }
  where
    grants : Agree (in_force rule (h.log c) (length (h.log c))) (λ j. Granted h.granted j (h.term c) c)
    grants = agree-map (λ j v. v.counts not) m

    mine : Standing rule h (h.term c) c (h.log c)
    mine = record { asked = a; agree = grants }

    free : Won h.leaders (h.term c) → ⊥
    free w = not w.start (rw (one-standing f (won-standing f w.has) mine) at w.has)
