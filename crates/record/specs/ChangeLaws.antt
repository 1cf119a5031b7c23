-- What is proved of a struct's changes: the numbers that the code finds, and the record that it makes. Assumes nothing.
use Rattle.std.specs.Prelude.{ℕ, ◌+◌, ◌≤◌, ◌<◌, ◌≡◌, cond, ◌&&◌, List, [], ◌∷◌, ◌++◌, eqb, ltb, length}
use Rattle.std.proofs.Common.{arith, length-append}
use Rattle.frames.specs.declared.Entry.{Entry}
use Rattle.record.specs.declared.Record.{Record}
use Rattle.frames.specs.Limits.{log_limit}
use Rattle.raft.specs.Record.{State, leader, is_other, term_at}
use Rattle.raft.specs.Commit.{settled}
use Rattle.raft.proofs.CommitLaws.{largest_low, settled_quick, Ranged, ranged}
use Rattle.raft.specs.LargestMatch.{largest_matched}
use Rattle.raft.specs.Order.{ordered}
use Rattle.raft.proofs.RecordLaws.{facts-good}
use Rattle.raft.proofs.StepLaws.{good-ordered}
use Rattle.raft.specs.LentLaws.{length-entries_of}
use Rattle.record.specs.Calls.{entries_of, with_entries, state_of, Ready}
use Rattle.record.specs.GoodLaws.{ready-good}

-- ---- winning

-- next of box i, from the struct
abbrev pub next_of : Record → ℕ → ℕ
next_of b i = cond (is_other b.me b.members i) (b.last + 1) 0

-- ---- commit

-- The commit that the quick way finds is the settled one.
pub settles : (b : Record) (log : List Entry) → Ranged (with_entries b log) → (found t k : ℕ)
    → found ≡ largest_matched (with_entries b log) → t ≡ term_at log found → k ≡ cond (ltb b.commit found && eqb t b.term) found b.commit
    → k ≡ settled (with_entries b log)
settles b log r found t k e f g = rw (g, f, e, ← settled_quick (with_entries b log) r)

-- the largest-matched index is at most the last
pub largest_low-last : (b : Record) (log : List Entry) → Ranged (with_entries b log) → (found : ℕ) → found ≡ largest_matched (with_entries b log)
    → found ≤ length log
largest_low-last b log r found e = omega (arith, largest_low (with_entries b log) r)

-- ---- a log with one entry more

module _ (b : Record) (terms orders : List ℕ) (o : ℕ) where
  -- the log that a leader has behind an order
  abbrev pub longer : List Entry
  longer = entries_of terms orders 0 b.last ++ (record { term = b.term; order = o } ∷ [])

  pub longer-long : length longer ≡ b.last + 1
  longer-long = rw (length-append, length-entries_of terms orders 0 b.last)

  pub longer_ranged : Ready b terms orders → b.role ≡ leader → b.last < log_limit → Ranged (with_entries b longer)
  unfolding ordered
  longer_ranged r l h =
      ranged (ordered s o) (facts-good (ordered s o) (good-ordered s o (ready-good r) l (rw (length-entries_of terms orders 0 b.last) h)))
    where
      s : State
      s = state_of b terms orders
