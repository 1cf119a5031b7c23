-- The book of a run: what its leaders have committed so far. Definitions alone. (Its laws: BookLaws.) Assumes nothing.
use Rattle.std.specs.Prelude.{ℕ, ◌≤◌, ◌≡◌, Bool, true, cond, ◌&&◌, ◌||◌, eqb, ltb, length}
use mathlib.Core.List.{List, [], ◌∷◌, Memᴰ}
use Rattle.frames.specs.declared.Entry.{Entry}
use Rattle.raft.specs.Record.{State, leader, handed_out}

-- What one move of a run did: the record of its box before the move and behind it.
pub record Change : Type 0 where
  pub before : State
  pub behind : State

-- The box leads its term behind the move, or led that same term before it. (Whether a commit is a leader's is a matter of the move and not of the role
-- behind it: a leader that steps down in the very step that commits has committed as leader. Today no step does that: `BookToday`. A box that led a
-- lower term, and commits as follower of a higher one in the step that takes that term, does not count.)
unfoldable pub by_leader : Change → Bool
by_leader c = eqb c.behind.role leader || (eqb c.before.role leader && eqb c.before.term c.behind.term)

-- What a leader has committed by a move: entries 1 to commit. What is no leader's writes nothing.
unfoldable pub writes : Change → List Entry
writes c = cond (by_leader c) (handed_out c.behind) []

-- The longer of two logs.
unfoldable pub longer : List Entry → List Entry → List Entry
longer a b = cond (ltb (length a) (length b)) b a

-- **The book** of the moves of a run, the latest first: the longest of all that leaders have committed by them. (That it is one book, and not only the
-- longest of many, is what Demand3 claims of it.)
unfoldable pub book : List Change → List Entry
book [] = []
book (c ∷ earlier) = longer (book earlier) (writes c)

-- The moves of boxes that are in a term below a bound: their book is what was committed in those terms.
unfoldable pub below : ℕ → List Change → List Change
below bound [] = []
below bound (c ∷ earlier) = cond (ltb c.behind.term bound) (c ∷ below bound earlier) (below bound earlier)

-- No leader has committed by these moves in a term above t.
abbrev pub NoneAbove : ℕ → List Change → Type 0
NoneAbove t moves = (c : Change) → Memᴰ c moves → by_leader c ≡ true → c.behind.term ≤ t
