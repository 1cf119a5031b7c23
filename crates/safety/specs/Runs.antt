-- The two tellings of a run under one name, so that what is claimed of runs is said once: the run of records (Park), and the run with the bytes on
-- the disks (Disks). Assumes nothing.
use Rattle.std.specs.Prelude.{ℕ, List, [], ◌∷◌}
use Rattle.raft.specs.Record.{State, fresh}
use Rattle.journal.specs.Opening.{restarted}
use Rattle.safety.specs.Park.{Park, start, Move, steps, restarts, Run as ParkRun, stays, moves, run_both}
use Rattle.safety.specs.Disks.{Site, built, Happens, Goes, goes_both}
use Rattle.safety.specs.Book.{Change}

-- Moments, the first of them, runs from one to a later one, one run behind the other; what the moves of a run did to the boxes' records, the latest
-- first; and at each moment each box's record and the frames that were sent.
pub record Runs : Type 1 where
  pub Moment : Type 0
  pub first : Moment
  pub Run : Moment → Moment → Type 0
  pub both : {a b c : Moment} → Run a b → Run b c → Run a c
  pub changes : {a b : Moment} → Run a b → List Change
  pub box : Moment → ℕ → State
  pub sent : Moment → List (List ℕ)

-- ---- a park

-- What a move did to its box's record,
unfoldable pub moved : {mask : ℕ} {p q : Park} → Move mask p q → Change
moved {p = p} (steps i m e c t messages o) = record { before = p.box i; behind = t }
moved {p = p} (restarts i m) = record { before = p.box i; behind = restarted (p.box i) }

-- and those of a run.
unfoldable pub moves_of : {mask : ℕ} {p q : Park} → ParkRun mask p q → List Change
moves_of stays = []
moves_of (moves r m) = moved m ∷ moves_of r

-- The runs of a park.
abbrev pub parks : ℕ → Runs
parks mask =
    record {
      Moment = Park;
      first = start mask;
      Run = ParkRun mask;
      both = run_both;
      changes = moves_of;
      box = λ p. p.box;
      sent = λ p. p.sent;
    }

-- ---- a site

-- What happened to a box's record: a step that power cut short is the opening that follows it, whose commit is 0. (Where its line was whole the park
-- has a step and a restart, and its commit counts: so a site's book is a beginning of its park's, `ParkOnDisk.as_park`.)
unfoldable pub happened : {mask : ℕ} {a b : Site} → Happens mask a b → Change
happened {mask} {a = a} (Happens.starts i m z) = record { before = (a.seat i).now; behind = fresh i mask }
happened {mask} {a = a} (Happens.tears i m z k l) = record { before = (a.seat i).now; behind = fresh i mask }
happened {a = a} (Happens.steps i m up e c t messages o) = record { before = (a.seat i).now; behind = t }
happened {a = a} (Happens.fails i m up e c t messages o k u n h) = record { before = (a.seat i).now; behind = u }
happened {a = a} (Happens.reopens i m u n h) = record { before = (a.seat i).now; behind = u }
happened {a = a} (Happens.trims i m k) = record { before = (a.seat i).now; behind = (a.seat i).now }

-- and in a run.
unfoldable pub happened_in : {mask : ℕ} {a b : Site} → Goes mask a b → List Change
happened_in Goes.stays = []
happened_in (Goes.goes g h) = happened h ∷ happened_in g

-- The runs of a site.
abbrev pub sites : ℕ → Runs
sites mask =
    record {
      Moment = Site;
      first = built mask;
      Run = Goes mask;
      both = goes_both;
      changes = happened_in;
      box = λ a i. (a.seat i).now;
      sent = λ a. a.sent;
    }
