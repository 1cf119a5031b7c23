-- What a box hands out is covered, and stays so when it accepts an append. Assumes nothing.
use Rattle.std.specs.Prelude.{ℕ, ◌≤◌, max, min, ◌≡◌, refl, List, length, take}
use Rattle.std.proofs.Math.Decide.{dec_le}
use Rattle.std.proofs.Common.{le_refl, arith, take-take, length-take-le}
use Rattle.frames.specs.declared.Entry.{Entry}
use Rattle.raft.specs.Append.{commit_after}
use Rattle.history.specs.InForce.{Rule}
use Rattle.history.specs.Begins.{Begins}
use Rattle.history.specs.BeginsLaws.{begins-long, begins-same, begins_self, begins-take}
use Rattle.history.specs.History.{History, Won, Reaches, Facts}
use Rattle.history.proofs.Book.{Covered, nothing, covered_less, sender-holds}
use Rattle.history.proofs.Join.{Joins, joins-keeps, joins-first}

-- A box whose log is this, and whose commit is n, in a term.
pub record Hands (rule : Rule) (h : History) (term : ℕ) (log : List Entry) (n : ℕ) : Type 0 where
  pub within : n ≤ length log
  pub covered : Covered rule h term (take n log)

-- a box that has no commit hands out nothing: a fresh one, and one that has come back
pub hands-nothing : (rule : Rule) (h : History) (term : ℕ) (log : List Entry) → Hands rule h term log 0
hands-nothing rule h term log = record { within = omega arith; covered = nothing refl }

-- and what it hands out stays covered when it takes a higher term
pub hands-higher : {rule : Rule} {term n : ℕ} {h : History} {log : List Entry} → Hands rule h term log n → (higher : ℕ) → term ≤ higher
    → Hands rule h higher log n
hands-higher x higher l = record { within = x.within; covered = covered_less x.covered _ (begins_self _) higher l }

-- as it does when its log grows
pub hands-longer : {rule : Rule} {term n : ℕ} {h : History} {log longer : List Entry} → Begins log longer → Hands rule h term log n
    → Hands rule h term longer n
hands-longer {n = n} b x =
    record { within = omega (arith, x.within, begins-long b); covered = rw (begins-same b n x.within) at x.covered }

module _ {rule : Rule} {h : History} (f : Facts rule h) where
  -- the joined log begins with what was handed out, for the sender's log does
  joins-handed : {own next : List Entry} {bound s m n : ℕ} → Hands rule h bound own n → Won h.leaders s → bound ≤ s
      → Joins own (h.leaders.log s) m next → Begins (take n own) next
  joins-handed {own} {n = n} x w l j = joins-keeps j (begins-take n own) (sender-holds f x.covered _ w l)

  -- "Commit becomes the larger of itself and the smaller of (leader's commit, previous index + count)": what it handed out, or a beginning of
  -- what the leader hands out
  pub joins_either : {own next : List Entry} {bound s m n : ℕ} (k : ℕ) → Hands rule h bound own n → Reaches h.leaders s m → bound ≤ s
      → Joins own (h.leaders.log s) m next → (P : List Entry → Type 0) → P (take n own)
      → ((log : List Entry) → Begins log (take k (h.leaders.log s)) → P log) → P (take (commit_after n k m) next)
  joins_either {own} {next} {bound} {s} {m} {n} k x r l j P mine sender = go (dec_le (min k m) n)
    where
      log : List Entry
      log = h.leaders.log s

      kept : Begins (take n own) next
      kept = joins-handed x r.won l j

      go : Dec (min k m ≤ n) → P (take (max n (min k m)) next)
      go (yes a) =
          let all : max n (min k m) ≡ n = omega arith in
          rw (all, rw (length-take-le n own x.within) at kept.first) mine
      go (no a) =
          let all : max n (min k m) ≡ min k m = omega arith in
          let first = begins-same (joins-first j) (min k m) (omega (arith, length-take-le m log r.within)) in
          rw (all, ← first, take-take (min k m) m log (omega arith), ← take-take (min k m) k log (omega arith))
          (sender _ (begins-take (min k m) (take k log)))

  -- and that is covered
  pub joins-hands : {own next : List Entry} {bound s m n k : ℕ} → Hands rule h bound own n → Reaches h.leaders s m → bound ≤ s
      → Hands rule h s (h.leaders.log s) k → Joins own (h.leaders.log s) m next → Hands rule h s next (commit_after n k m)
  joins-hands {own} {next} {bound} {s} {m} {n} {k} x r l y j =
      record {
        within =
            omega (
              arith,
              length-take-le n own x.within,
              begins-long (joins-handed x r.won l j),
              length-take-le m (h.leaders.log s) r.within,
              begins-long (joins-first j),
            );
        covered =
            joins_either k x r l j (Covered rule h s) (covered_less x.covered _ (begins_self _) s l)
            (λ log b. covered_less y.covered log b s (le_refl s));
      }
