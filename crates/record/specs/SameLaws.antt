-- A struct and its record, there and back. Assumes nothing.
use Rattle.std.specs.Prelude.{ℕ, zero, suc, ◌≡◌, refl, List, [], ◌∷◌, ◌++◌, length}
use Rattle.std.proofs.Common.{sym, ap, ◌∙◌}
use Rattle.digits.specs.Room.{over}
use Rattle.frames.specs.declared.Entry.{Entry}
use Rattle.record.specs.declared.Record.{Record}
use Rattle.raft.specs.Record.{State}
use Rattle.record.specs.Calls.{entries_of, terms_of, orders_of, with_entries, state_of, record_of}

-- a struct is that of its record
pub record_same : (b : Record) (log : List Entry) → length log ≡ b.last → b ≡ record_of (with_entries b log)
record_same b log e = rw e

-- a record whose log is the lent one is that of its struct
pub lent_same : (s : State) (terms orders : List ℕ) → s.log ≡ entries_of terms orders 0 (length s.log) → state_of (record_of s) terms orders ≡ s
lent_same s terms orders e = ap (with_entries (record_of s)) (sym e)

-- ---- a log that is written from the start is the lent one

behind-first : (x y : ℕ) (terms orders : List ℕ) (at n : ℕ) → entries_of (x ∷ terms) (y ∷ orders) (suc at) n ≡ entries_of terms orders at n
unfolding entries_of
behind-first x y terms orders at zero = refl
behind-first x y terms orders at (suc n) = rw (behind-first x y terms orders (suc at) n)

in_front : (log : List Entry) (terms orders : List ℕ) → log ≡ entries_of (terms_of log ++ terms) (orders_of log ++ orders) 0 (length log)
unfolding entries_of terms_of orders_of
in_front [] terms orders = refl
in_front (e ∷ log) terms orders =
    ap (λ (l : List Entry). e ∷ l) (in_front log terms orders ∙ sym (behind-first e.term e.order _ _ 0 (length log)))

pub written-log : (log : List Entry) (terms orders : List ℕ) → log ≡ entries_of (over terms 0 (terms_of log)) (over orders 0 (orders_of log)) 0 (length log)
unfolding over
written-log log terms orders = in_front log _ _

-- the struct and the log that a step leaves are the next record
pub next-lent : (t : State) (terms orders : List ℕ) → state_of (record_of t) (over terms 0 (terms_of t.log)) (over orders 0 (orders_of t.log)) ≡ t
next-lent t terms orders =
    lent_same t (over terms 0 (terms_of t.log)) (over orders 0 (orders_of t.log)) (written-log t.log terms orders)
