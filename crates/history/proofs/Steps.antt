-- The steps of a park as its history has them, and that each keeps the facts: a candidate asks, a box gives its vote, a candidate wins, its
-- leader adds an entry, a box accepts an append. Assumes nothing.
use Rattle.std.specs.Prelude.{ℕ, suc, ◌+◌, ◌≤◌, ◌≡◌, refl, true, false, List, [], ◌∷◌, ◌++◌, length}
use Rattle.std.proofs.Common.{le_refl, arith, ap, ◌∙◌, inr, le-ltb, le-leb, eq-eqb}
use Rattle.std.proofs.Math.Seq.{take-length}
use Rattle.frames.specs.declared.Entry.{Entry}
use Rattle.raft.specs.Newer.{as_new}
use Rattle.raft.specs.Append.{lacks, joined}
use Rattle.history.specs.BeginsLaws.{begins_self, begins-added, begins-long}
use Rattle.history.specs.History.{History, Won, Granted, Fair, last_of, Facts}
use Rattle.history.proofs.Join.{Offered, offered-long, stays, follows, joined-joins}
use Rattle.history.specs.Put.{put}
use Rattle.history.specs.PutLaws.{put_same}
use Rattle.history.specs.Grow.{asks-now, raised, gave, stood, with_leaders, winner, longer, moved, won-grows}
use Rattle.history.specs.Conf.{Agree}
use Rattle.history.specs.InForce.{Rule, in_force}
use Rattle.history.proofs.Descent.{won-descends}
use Rattle.history.proofs.Later.{Later, later_trans, raised-later, stood-later, gave-later, led-later, moved_later}
use Rattle.history.proofs.GrowVotes.{raised-facts, stood-facts, gave-facts}
use Rattle.history.proofs.GrowLeaders.{May, winner-grows, winner-facts, longer-facts, longer-grows}
use Rattle.history.proofs.GrowBoxes.{accepted-facts}

-- Fresh boxes: nothing was asked, voted, won or acknowledged.
unfoldable pub fresh_park : History
fresh_park =
    record {
      asked = λ t c log. ⊥;
      voted = λ j t c. ⊥;
      granted = λ j t c log. ⊥;
      leaders = record { won = λ t c start. ⊥; log = λ t. [] };
      acked = λ j t n. ⊥;
      term = λ j. 0;
      log = λ j. [];
    }

-- The facts hold of fresh boxes, whatever the membership.
pub fresh-facts : (rule : Rule) → Facts rule fresh_park
unfolding fresh_park
fresh-facts rule =
    record {
      one_vote = λ j t c d v w. absurd v;
      granted_voted = λ j t c log g. g;
      asked_once = λ t c log other a b. absurd a;
      asked_descends = λ t c log a. absurd a;
      asked_below = λ t c log a. absurd a;
      fair = λ j t c log g. absurd g;
      won_asked = λ t c start w. w;
      won_once = λ t c d start other v w. absurd v;
      winning = λ t c start w. absurd w;
      leading = λ t c start w. absurd w;
      granted_descends = λ j t c log g. absurd g;
      descends = λ j. record { at = λ k a b. absurd (omega arith) };
      within = λ j. record { at = λ k a b. absurd (omega arith) };
      reaches = λ j t n a. absurd a;
      lower = λ j t n m a l. a;
      keeping = λ j t n s c log a g l. absurd a;
      keeps = λ j t n a. absurd a;
      asked_reached = λ t c log a. absurd a;
      voted_reached = λ j t c v. absurd v;
      acked_reached = λ j t n a. absurd a;
      chain = λ t c start w. absurd w;
    }

-- a log is at least as new as itself
newer_self : (log : List Entry) → as_new (length log) (last_of log) (length log) (last_of log) ≡ true
newer_self log =
    rw (le-ltb (last_of log) (last_of log) (le_refl _), eq-eqb (last_of log) (last_of log) refl, le-leb (length log) (length log) (le_refl _))

-- Box c becomes candidate of the next term, with its log, and gives itself its vote, member or not.
unfoldable pub asks : ℕ → History → History
asks c h = gave c (suc (h.term c)) c (stood c (suc (h.term c)) h)

pub asks-facts : {rule : Rule} {h : History} (c : ℕ) → Facts rule h → Facts rule (asks c h)
unfolding asks stood
asks-facts {rule} {h} c f =
    gave-facts c (suc (h.term c)) c (stood-facts c (suc (h.term c)) f (omega arith)) (put_same h.term c (suc (h.term c)))
    (λ d v. absurd (omega (arith, f.voted_reached c (suc (h.term c)) d v)))
    (record { log = h.log c; has = inr asks-now; newer = newer_self (h.log c) })

-- Box i gives its vote of term t, which it has reached or takes now, to c.
unfoldable pub gives : (i t c : ℕ) → History → History
gives i t c h = gave i t c (raised i t h)

pub gives-facts : {rule : Rule} {h : History} (i t c : ℕ) → Facts rule h → h.term i ≤ t → ((d : ℕ) → h.voted i t d → d ≡ c)
    → Fair h.asked t c (h.log i) → Facts rule (gives i t c h)
unfolding gives raised
gives-facts {h = h} i t c f l alone new = gave-facts i t c (raised-facts i t f l) (put_same h.term i t) alone new

-- Box c wins its term with its log, and acknowledges all of it.
unfoldable pub wins : ℕ → History → History
wins c h = moved c (h.term c) (length (h.log c)) (h.log c) (with_leaders (winner (h.term c) c (h.log c) h.leaders) h)

-- That keeps the facts, where nobody has won the term and those who agree granted.
pub wins-facts : {rule : Rule} {h : History} (c : ℕ) → Facts rule h → (Won h.leaders (h.term c) → ⊥)
    → h.asked (h.term c) c (h.log c) → Agree (in_force rule (h.log c) (length (h.log c))) (λ j. Granted h.granted j (h.term c) c)
    → Facts rule (wins c h)
unfolding wins winner with_leaders
wins-facts {rule} {h} c f unwon a m =
    accepted-facts (winner-facts c f unwon a m) c (h.term c) (length (h.log c)) (h.log c) (le_refl _)
    (record { won = won; within = rw own (le_refl _) })
    (stays refl (rw (own, take-length (h.log c)) (begins_self (h.log c))))
  where
    own : put h.leaders.log (h.term c) (h.log c) (h.term c) ≡ h.log c
    own = put_same h.leaders.log (h.term c) (h.log c)

    won : Won (winner (h.term c) c (h.log c) h.leaders) (h.term c)
    won = record { box = c; start = h.log c; has = inr asks-now }

-- ---- entries

-- The leader c adds an entry of its term to its log, and acknowledges it.
unfoldable pub adds : ℕ → Entry → History → History
adds c e h =
    moved c (h.term c) (length (h.log c ++ (e ∷ []))) (h.log c ++ (e ∷ [])) (with_leaders (longer (h.term c) e h.leaders) h)

pub adds-facts : {rule : Rule} {h : History} (c : ℕ) (e : Entry) → Facts rule h → Won h.leaders (h.term c)
    → h.leaders.log (h.term c) ≡ h.log c → e.term ≡ h.term c → May rule h (h.term c) (h.leaders.log (h.term c)) e
    → Facts rule (adds c e h)
unfolding adds longer with_leaders
adds-facts {rule} {h} c e f w own new may =
    accepted-facts (longer-facts e f new may) c (h.term c) (length (h.log c ++ (e ∷ []))) (h.log c ++ (e ∷ [])) (le_refl _)
    (record { won = won-grows (longer-grows (h.term c) e h.leaders) w; within = rw grown (le_refl _) })
    (follows (rw (grown, take-length (h.log c ++ (e ∷ []))))
    (λ part p q. omega (arith, begins-long p, begins-long (begins-added (h.log c) (e ∷ [])))))
  where
    grown : put h.leaders.log (h.term c) (h.leaders.log (h.term c) ++ (e ∷ [])) (h.term c) ≡ h.log c ++ (e ∷ [])
    grown = put_same h.leaders.log (h.term c) (h.leaders.log (h.term c) ++ (e ∷ [])) ∙ ap (λ x. x ++ (e ∷ [])) own

-- Box i accepts an append of term s, which it has reached or takes now: its log is joined, and it acknowledges what was offered.
unfoldable pub accepts : (i s index : ℕ) → List Entry → History → History
accepts i s index es h = moved i s (index + length es) (joined (h.log i) index es) h

-- That keeps the facts, where the term was won, the append is of its log, and the box does not lack the previous entry.
pub accepts-facts : {rule : Rule} {h : History} (i s : ℕ) {index prior : ℕ} {es : List Entry} → Facts rule h → h.term i ≤ s
    → Won h.leaders s → Offered (h.leaders.log s) index prior es → lacks (h.log i) index prior ≡ false
    → Facts rule (accepts i s index es h)
unfolding accepts
accepts-facts {h = h} i s {index} {prior} {es} f l w o has =
    accepted-facts f i s (index + length es) (joined (h.log i) index es) l (record { won = w; within = offered-long o })
    (joined-joins (h.log i) o has (f.descends i) (won-descends f w))

-- ---- each is a later history

-- so: a candidate asks,
pub asks-later : (c : ℕ) (h : History) → Later h (asks c h)
unfolding asks
asks-later c h = later_trans (stood-later c (suc (h.term c)) h (omega arith)) (gave-later c (suc (h.term c)) c _)

-- a box gives its vote,
pub gives-later : (i t c : ℕ) (h : History) → h.term i ≤ t → Later h (gives i t c h)
unfolding gives
gives-later i t c h l = later_trans (raised-later i t h l) (gave-later i t c _)

-- a candidate wins,
pub wins-later : {rule : Rule} {h : History} (c : ℕ) → Facts rule h → (Won h.leaders (h.term c) → ⊥) → Later h (wins c h)
unfolding wins with_leaders
wins-later {h = h} c f unwon = later_trans (led-later h (winner-grows c f unwon)) (moved_later c (h.term c) _ _ _ (le_refl _))

-- its leader adds an entry,
pub adds-later : (c : ℕ) (e : Entry) (h : History) → Later h (adds c e h)
unfolding adds with_leaders
adds-later c e h = later_trans (led-later h (longer-grows (h.term c) e h.leaders)) (moved_later c (h.term c) _ _ _ (le_refl _))

-- a box accepts an append.
pub accepts-later : (i s index : ℕ) (es : List Entry) (h : History) → h.term i ≤ s → Later h (accepts i s index es h)
unfolding accepts
accepts-later i s index es h l = moved_later i s _ _ h l
