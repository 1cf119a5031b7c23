-- What follows: every leader holds what was committed up to its term; what leaders have committed makes one book. Assumes nothing.
use Rattle.std.specs.Prelude.{ℕ, ◌≤◌, ◌<◌, ◌≡◌, List, [], length, take}
use Rattle.std.proofs.Math.Decide.{dec_le, dec_lt}
use Rattle.std.proofs.Common.{arith, ap, inl, inr, length-take-le}
use Rattle.frames.specs.declared.Entry.{Entry}
use Rattle.history.specs.Begins.{Begins, OneBegins}
use Rattle.history.specs.BeginsLaws.{begins-long, nothing-begins, begins-nothing, begins_self, begins_trans, begins-take, begins_either}
use Rattle.history.specs.History.{History, Won, first_of, Committed, Before, lower, sooner, Settled, none, by, Facts}
use Rattle.history.specs.Alike.{Alike, alike_both, alike_less, begins_alike, first_alike}
use Rattle.history.specs.InForce.{Rule}
use Rattle.history.proofs.Lineage.{committed-reaches}
use Rattle.history.proofs.LeaderComplete.{leader_complete, log-holds}

-- A log is in the book, by a term up to a bound.
pub data Covered (rule : Rule) (h : History) (bound : ℕ) (log : List Entry) : Type 0 where
  nothing : log ≡ [] → Covered rule h bound log
  written : {t n m : ℕ} → Committed rule h t n m → t ≤ bound → Begins log (first_of h t n) → Covered rule h bound log

-- what was committed is covered
pub committed-covered : {rule : Rule} {h : History} {t n m : ℕ} → Committed rule h t n m → Covered rule h t (first_of h t n)
committed-covered m = written m (omega arith) (begins_self _)

-- a beginning of what is covered is covered, in a higher term too
pub covered_less : {rule : Rule} {h : History} {bound : ℕ} {log : List Entry} → Covered rule h bound log
    → (part : List Entry) → Begins part log → (higher : ℕ) → bound ≤ higher → Covered rule h higher part
covered_less (nothing e) part p higher l = nothing (begins-nothing (rw e at p))
covered_less (written m a b) part p higher l = written m (omega arith) (begins_trans p b)

module _ {rule : Rule} {h : History} (f : Facts rule h) where
  -- Every leader's log begins with what was committed up to its term.
  pub leader-holds : {t n m : ℕ} → Committed rule h t n m → (s : ℕ) → Won h.leaders s → t ≤ s → Begins (first_of h t n) (h.leaders.log s)
  leader-holds x s w l = log-holds f x w (leader_complete f s w.box w.start w.has) l

  -- Alarm 7: the log of a leader whose term the box has not passed begins with what the box hands out.
  pub sender-holds : {bound : ℕ} {log : List Entry} → Covered rule h bound log → (s : ℕ) → Won h.leaders s → bound ≤ s
      → Begins log (h.leaders.log s)
  sender-holds (nothing e) s w l = rw e (nothing-begins _)
  sender-holds (written x a b) s w l = begins_trans b (leader-holds x s w (omega arith))

  -- Two committed beginnings: one begins the other.
  pub committed-agree : {t n m s i j : ℕ} → Committed rule h t n m → Committed rule h s i j
      → OneBegins (first_of h t n) (first_of h s i)
  committed-agree {t} {n} {m} {s} {i} {j} x y = go (dec_le t s)
    where
      go : Dec (t ≤ s) → OneBegins (first_of h t n) (first_of h s i)
      go (yes l) = begins_either (leader-holds x s (committed-reaches f y).won l) (begins-take i (h.leaders.log s))
      go (no l) = begins_either (begins-take n (h.leaders.log t)) (leader-holds y t (committed-reaches f x).won (omega arith))

  -- So all that is covered makes one book.
  pub one_book : {bound higher : ℕ} {log other : List Entry} → Covered rule h bound log → Covered rule h higher other
      → OneBegins log other
  one_book {other = other} (nothing e) y = inl (rw e (nothing-begins other))
  one_book {log = log} (written x a p) (nothing e) = inr (rw e (nothing-begins log))
  one_book {log = log} {other = other} (written x a p) (written y b q) = go (committed-agree x y) p q
    where
      go : {u v : List Entry} → OneBegins u v → Begins log u → Begins other v → OneBegins log other
      go (inl r) p q = begins_either (begins_trans p r) q
      go (inr r) p q = begins_either p (begins_trans q r)

-- ---- what a leader's commit covers it may build on

-- **An index up to a leader's commit is settled for what the leader adds next:** so a change that is not refused with 15, and the new configuration
-- behind a joint one that commit covers, may be there (`may_change`).
pub covered-settled : {rule : Rule} {h : History} {t commit p : ℕ} {log : List Entry} → h.leaders.log t ≡ log → commit ≤ length log → p ≤ commit
    → Covered rule h t (take commit log) → Settled rule h t (length log) p log
covered-settled {rule} {h} {t} {commit} {p} {log} own l b c = go c
  where
    long : length (take commit log) ≡ commit
    long = length-take-le commit log l

    go : Covered rule h t (take commit log) → Settled rule h t (length log) p log
    go (nothing e) = none (omega (arith, long, ap length e))
    go (written {t = u} {n} {m} x a q) =
        by x (omega (arith, long, begins-long q, length-take-le n (h.leaders.log u) (omega (arith, x.within, x.reach))))
        (alike_less (alike_both (first_alike q l) (alike_first-whole x)) p b) (when (dec_lt u t))
      where
        alike_first-whole : Committed rule h u n m → Alike commit (first_of h u n) (h.leaders.log u)
        alike_first-whole y = begins_alike (begins-take n (h.leaders.log u)) commit (omega (arith, long, begins-long q))

        when : Dec (u < t) → Before u m t (length log)
        when (yes v) = lower v
        when (no v) = sooner same (omega (arith, x.reach, ap length own, ap (λ z. length (h.leaders.log z)) same))
          where
            same : u ≡ t
            same = omega arith
