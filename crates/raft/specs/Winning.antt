-- 01, 'Winning', as 02, T-01, amends it. Assumes nothing.
use Rattle.std.specs.Prelude.{ℕ, ◌+◌, cond}
use Rattle.raft.specs.Record.{State, last_index, is_other, of_each, zeros, as_leader}
use Rattle.raft.specs.Outcome.{Outcome}
use Rattle.raft.specs.Led.{led}
use Rattle.raft.specs.Order.{is_full, ordered, blank}

-- "Next = last index + 1, match = 0 for the others"
abbrev pub next_after : State → ℕ → ℕ
next_after s i = cond (is_other s.me s.members i) (last_index s + 1) 0

unfoldable pub leading : State → State
leading s = as_leader (record { next = of_each (next_after s); matched = zeros }) s

-- T-01: "On winning, if the log has room, the leader now adds an entry of its term with an order of eight zero bytes ..; with a full log it adds none."
unfoldable pub with_blank : State → State
with_blank s = cond (is_full s) s (ordered s blank)

-- "Next for the others is the blank's index": it was set before the blank came behind the log.
unfoldable pub winner : State → State
winner s = with_blank (leading s)

-- The blank is there "before its first appends .. so the first appends carry it".
unfoldable pub won : State → Outcome
won s = led (winner s)
