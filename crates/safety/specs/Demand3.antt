-- Demand 3, in its own words, of every run: of a park's records (Park), and of a site with its disks, power failing at any byte (Disks). That it holds of
-- them is `park_safe` and `site_safe` of proofs/Demand3. Assumes nothing.
use Rattle.std.specs.Prelude.{ℕ, suc, ◌≤◌, ◌<◌, ◌≡◌}
use Rattle.raft.specs.Record.{handed_out}
use Rattle.raft.specs.Outcome.{refuse}
use Rattle.raft.specs.Event.{Event, step}
use Rattle.history.specs.Begins.{Begins, OneBegins}
use Rattle.safety.specs.Park.{Comes, Leads}
use Rattle.safety.specs.Book.{book, below, NoneAbove}
use Rattle.safety.specs.Runs.{Runs}

-- "Take any run of fresh boxes with the same fixed membership and different numbers .." p is a moment of a run, q the same or a later one. What a box has
-- committed, and hands out, is `handed_out`: entries 1 to commit. `book (R.changes r)` is the book of run r: what leaders have committed in it (Book).
pub record Demand3 (R : Runs) : Type 0 where
  -- ".. Then no term has two leaders": not at one moment p of a run, nor at p and a later moment q.
  pub one_leader : (p q : R.Moment) → R.Run R.first p → R.Run p q → (i j term : ℕ)
      → Leads (R.box p i) term → Leads (R.box q j) term → i ≡ j
  -- "the beginnings that leaders have committed in the run all agree": of two of them one is a beginning of the other;
  pub one_book : (p q : R.Moment) → R.Run R.first p → R.Run p q → (i j t u : ℕ)
      → Leads (R.box p i) t → Leads (R.box q j) u → OneBegins (handed_out (R.box p i)) (handed_out (R.box q j))
  -- "and make one book": what any leader has committed is a beginning of it from then on,
  pub makes_book : (p q : R.Moment) (r : R.Run R.first p) (u : R.Run p q) (i t : ℕ)
      → Leads (R.box p i) t → Begins (handed_out (R.box p i)) (book (R.changes (R.both r u)))
  -- it only grows,
  pub book_grows : (p q : R.Moment) (r : R.Run R.first p) (u : R.Run p q) → Begins (book (R.changes r)) (book (R.changes (R.both r u)))
  -- and what was committed in the terms below a bound is a beginning of it.
  pub book_begins : (p : R.Moment) (r : R.Run R.first p) (bound : ℕ) → Begins (book (below bound (R.changes r))) (book (R.changes r))
  -- "every leader holds what was committed in earlier terms": what a leader had committed before, in a term up to its own; and also what
  -- a leader of a lower term commits only later;
  pub holds_before : (p q : R.Moment) → R.Run R.first p → R.Run p q → (i j t u : ℕ)
      → Leads (R.box p i) t → Leads (R.box q j) u → t ≤ u → Begins (handed_out (R.box p i)) (R.box q j).log
  pub holds_after : (p q : R.Moment) → R.Run R.first p → R.Run p q → (i j t u : ℕ)
      → Leads (R.box p i) t → Leads (R.box q j) u → u < t → Begins (handed_out (R.box q j)) (R.box p i).log
  -- so all of the book that was written before, in terms up to its own; the whole book as it was, where no leader had passed its term; and also
  -- what is written into it only later, in terms below its own.
  pub holds_book : (p q : R.Moment) (r : R.Run R.first p) → R.Run p q → (j t : ℕ)
      → Leads (R.box q j) t → Begins (book (below (suc t) (R.changes r))) (R.box q j).log
  pub newest_holds : (p q : R.Moment) (r : R.Run R.first p) → R.Run p q → (j t : ℕ)
      → NoneAbove t (R.changes r) → Leads (R.box q j) t → Begins (book (R.changes r)) (R.box q j).log
  pub held_book : (p q : R.Moment) (r : R.Run R.first p) (u : R.Run p q) (i t : ℕ)
      → Leads (R.box p i) t → Begins (book (below t (R.changes (R.both r u)))) (R.box p i).log
  -- "and what any box hands out, also after replaying its journal, is a beginning of that book", as it is at that moment;
  pub in_book : (p : R.Moment) (r : R.Run R.first p) (i : ℕ) → Begins (handed_out (R.box p i)) (book (R.changes r))
  -- so any two boxes agree, at any two moments.
  pub boxes_agree : (p q : R.Moment) → R.Run R.first p → R.Run p q → (i j : ℕ)
      → OneBegins (handed_out (R.box p i)) (handed_out (R.box q j))
  -- "Alarms 6, 7 and 8 never sound", whatever event comes to whichever box at whatever moment.
  pub no_alarm : (p : R.Moment) → R.Run R.first p → (i : ℕ) (e : Event) → Comes (R.sent p) e → (n : ℕ) → step e (R.box p i) ≡ refuse n
      → (n ≡ 6 → ⊥) × (n ≡ 7 → ⊥) × (n ≡ 8 → ⊥)
