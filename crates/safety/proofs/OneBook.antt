-- What follows for the boxes of a run from its accounts: what is handed out makes one book, and every leader holds it. Assumes nothing.
use Rattle.std.specs.Prelude.{ℕ, zero, suc, ◌≤◌, ◌<◌, ◌≡◌, List}
use Rattle.std.proofs.Common.{arith, ◌∙◌}
use Rattle.frames.specs.declared.Entry.{Entry}
use Rattle.raft.specs.Record.{handed_out}
use Rattle.history.specs.Begins.{Begins, OneBegins}
use Rattle.history.specs.BeginsLaws.{nothing-begins, begins_trans}
use Rattle.history.specs.InForce.{fixed}
use Rattle.history.specs.History.{History, Won}
use Rattle.history.proofs.LeaderComplete.{leader_complete}
use Rattle.history.proofs.Book.{Covered, nothing, written, sender-holds, one_book}
use Rattle.history.proofs.Later.{Later, covered-later}
use Rattle.safety.specs.Park.{Leads}
use Rattle.safety.specs.Book.{book, below, NoneAbove}
use Rattle.safety.specs.Runs.{Runs}
use Rattle.safety.proofs.BookLaws.{wrote-later, below-covered, below-nothing, below_all}
use Rattle.safety.proofs.Account.{StandsAs, Account, box-covered}

-- ---- one moment

-- A term was won, and this is its log.
record TermLog (h : History) (term : ℕ) (log : List Entry) : Type 0 where
  won : Won h.leaders term
  same : h.leaders.log term ≡ log

module _ {mask : ℕ} {R : Runs} {S : StandsAs R} {p : R.Moment} {r : R.Run R.first p} (x : Account mask R S r) where
  -- What a box hands out is covered, by a term that it has reached,
  handed-covered : (i : ℕ) → Covered (fixed mask) x.history (R.box p i).term (handed_out (R.box p i))
  handed-covered i = rw (x.same i) (box-covered mask x.reached x.carried i)

  -- and a box that leads has won its term, of which its log is the log.
  box-leads : (i term : ℕ) → Leads (R.box p i) term → TermLog x.history term (R.box p i).log
  box-leads i term a =
      let l : Leads (x.park.box i) term = rw (x.same i) at a in
      let y = (x.carried.kept i).leads l.role in
      rw (x.same i, ← l.in_term)
      (record { won = record { box = (x.park.box i).me; start = y.start; has = y.won }; same = y.log ∙ (x.carried.kept i).log })

  -- So a leader's log begins with all that is covered by a term up to its own.
  leader-has : {bound : ℕ} {log : List Entry} → Covered (fixed mask) x.history bound log → (j term : ℕ) → bound ≤ term → Leads (R.box p j) term
      → Begins log (R.box p j).log
  leader-has c j term l b =
      let led = box-leads j term b in
      rw led.same at (sender-holds x.carried.facts c term led.won l)

-- ---- two moments of a run

module _ {mask : ℕ} {R : Runs} {S : StandsAs R} {p q : R.Moment} {r : R.Run R.first p} {s : R.Run R.first q} (x : Account mask R S r) (y : Account mask R S s)
    (later : Later x.history y.history) where
  -- what a box handed out at the first is covered at the second
  still_covered : (i : ℕ) → Covered (fixed mask) y.history (R.box p i).term (handed_out (R.box p i))
  still_covered i = covered-later x.carried.facts later (handed-covered x i)

  -- A leader's log began already with all that is covered later by a term below its own.
  leader_had : {bound : ℕ} {log : List Entry} → Covered (fixed mask) y.history bound log → (i term : ℕ) → bound < term → Leads (R.box p i) term
      → Begins log (R.box p i).log
  leader_had {bound} {log} c i term l b =
      let led = box-leads x i term b in
      rw led.same at (go led.won c)
    where
      go : Won x.history.leaders term → Covered (fixed mask) y.history bound log → Begins log (x.history.leaders.log term)
      go w (nothing e) = rw e (nothing-begins _)
      go w (written m a z) =
          let has = later.leaders.won term w.box w.start w.has in
          begins_trans z (begins_trans ((leader_complete y.carried.facts term w.box w.start has).holds m (omega arith))
          (x.carried.facts.leading term w.box w.start w.has).begins)

  -- **What any two boxes hand out is of one book.**
  pub handed-agree : (i j : ℕ) → OneBegins (handed_out (R.box p i)) (handed_out (R.box q j))
  handed-agree i j = one_book y.carried.facts (still_covered i) (handed-covered y j)

  -- **A leader holds what any box has handed out before, in a term up to its own,**
  pub later-leader-holds : (i j term : ℕ) → (R.box p i).term ≤ term → Leads (R.box q j) term → Begins (handed_out (R.box p i)) (R.box q j).log
  later-leader-holds i j term l b = leader-has y (still_covered i) j term l b

  -- **and held already what any box hands out later, in a term below its own.**
  pub earlier-leader-holds : (i j term : ℕ) → Leads (R.box p i) term → (R.box q j).term < term → Begins (handed_out (R.box q j)) (R.box p i).log
  earlier-leader-holds i j term b l = leader_had (handed-covered y j) i term l b

  -- **A leader holds the book as it was, in the terms up to its own,**
  pub leader-holds_book : (j term : ℕ) → Leads (R.box q j) term → Begins (book (below (suc term) (R.changes r))) (R.box q j).log
  leader-holds_book j term b =
      leader-has y (below-covered term (R.changes r) (wrote-later (R.changes r) x.carried.facts later x.wrote)) j term (omega arith) b

  -- **all of it, where no leader had passed that term,**
  pub newest-leader-holds : (j term : ℕ) → NoneAbove term (R.changes r) → Leads (R.box q j) term → Begins (book (R.changes r)) (R.box q j).log
  newest-leader-holds j term none b = rw (below_all term (R.changes r) none) at (leader-holds_book j term b)

  -- **and held already what is written later, in the terms below its own.**
  pub leader-held_book : (i term : ℕ) → Leads (R.box p i) term → Begins (book (below term (R.changes s))) (R.box p i).log
  leader-held_book i zero b = rw (below-nothing (R.changes s)) (nothing-begins _)
  leader-held_book i (suc term) b = leader_had (below-covered term (R.changes s) y.wrote) i (suc term) (omega arith) b
