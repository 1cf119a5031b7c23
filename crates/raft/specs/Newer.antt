-- 01, 'Vote request': "the asker's log is at least as new: higher last term, or the same and last index no smaller". Assumes nothing.
use Rattle.std.specs.Prelude.{ℕ, Bool, ◌&&◌, ◌||◌, eqb, ltb, leb}

-- The asker's last index and term against the box's own.
abbrev pub as_new : (index term own-index own-term : ℕ) → Bool
as_new index term own-index own-term = ltb own-term term || (eqb term own-term && leb own-index index)
