-- The log as the caller lends it: the entries' terms and their orders, entry i at place i-1. Assumes nothing.
use Rattle.std.specs.Prelude.{ℕ, zero, suc, List, [], ◌∷◌, map, get_or}
use Rattle.frames.specs.declared.Entry.{Entry}

-- So many entries of the lent log, from a place on.
unfoldable pub entries_of : List ℕ → List ℕ → ℕ → ℕ → List Entry
entries_of terms orders at zero = []
entries_of terms orders at (suc n) = record { term = get_or terms at 0; order = get_or orders at 0 } ∷ entries_of terms orders (suc at) n

-- The lent log with a record's entries in it: what stands past them stays.
unfoldable pub terms_of : List Entry → List ℕ
terms_of log = map (λ e. e.term) log

unfoldable pub orders_of : List Entry → List ℕ
orders_of log = map (λ e. e.order) log
