-- 01, 'Commit at a leader': "the largest index above commit whose entry has the current term and which a majority matches; otherwise
-- unchanged". Assumes nothing.
use Rattle.std.specs.Prelude.{ℕ, zero, suc, ◌+◌, Bool, cond, ◌&&◌, eqb, ltb, leb}
use Rattle.raft.specs.Majority.{bit, majority}
use Rattle.raft.specs.Record.{State, last_index, term_at, of_box, with_commit}

-- "The leader counts as matching its own last index."
unfoldable pub matches : State → ℕ → ℕ
matches s i = cond (eqb i s.me) (last_index s) (of_box s.lead.matched i)

-- The boxes that match an index.
abbrev pub if_matches : State → ℕ → ℕ → ℕ
if_matches s n i = cond (leb n (matches s i)) (bit i) 0

unfoldable pub matching : State → ℕ → ℕ
matching s n =
    if_matches s n 1 + if_matches s n 2 + if_matches s n 3 + if_matches s n 4 + if_matches s n 5 + if_matches s n 6 + if_matches s n 7

-- A majority matches the index.
unfoldable pub is_matched : State → ℕ → Bool
is_matched s n = majority s.members (matching s n)

-- The largest number above low, and at most n, that passes a test; low where there is none.
unfoldable pub highest : (ℕ → Bool) → ℕ → ℕ → ℕ
highest test low zero = low
highest test low (suc n) = cond (ltb low (suc n) && test (suc n)) (suc n) (highest test low n)

unfoldable pub settled : State → ℕ
settled s = highest (λ n. eqb (term_at s.log n) s.term && is_matched s n) s.commit (last_index s)

-- The leader with its commit settled.
unfoldable pub settle : State → State
settle s = with_commit (settled s) s
