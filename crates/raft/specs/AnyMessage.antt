-- 01, 'Any message': the term, settled once, before the kinds. Assumes nothing.
use Rattle.std.specs.Prelude.{ℕ, Bool, cond, ltb}
use Rattle.raft.specs.Record.{State, with_term, with_vote, as_follower}

-- "take that term, vote 0, follower"
unfoldable pub taking : ℕ → State → State
taking term s = as_follower (with_vote 0 (with_term term s))

-- "Any message with a higher term: take that term, .., then go on as below."
unfoldable pub taken : ℕ → State → State
taken term s = cond (ltb s.term term) (taking term s) s

-- An answer says yes, 1, or no, 0.
abbrev pub reply_of : Bool → ℕ
reply_of granted = cond granted 1 0
