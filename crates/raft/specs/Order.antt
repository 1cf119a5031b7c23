-- 01, 'Order', and what 02, T-01, says of a client's order. Assumes nothing.
use Rattle.std.specs.Prelude.{ℕ, Bool, cond, [], ◌∷◌, ◌++◌, eqb, leb}
use Rattle.frames.specs.Limits.{log_limit}
use Rattle.raft.specs.Record.{State, leader, last_index, with_log}
use Rattle.raft.specs.Outcome.{Outcome, refuse}
use Rattle.raft.specs.Led.{led}

-- "log holds 256": there is room for no entry more.
unfoldable pub is_full : State → Bool
is_full s = leb log_limit (last_index s)

-- "Entry with the current term"
unfoldable pub ordered : State → ℕ → State
ordered s o = with_log (s.log ++ (record { term = s.term; order = o } ∷ [])) s

-- T-01: "an order of eight zero bytes", which a new leader adds and no client may send.
abbrev pub blank : ℕ
blank = 0

-- "Order (leader). Entry with the current term, then an append to each other member."
-- Refusal 3: "order or prompt, not leader"; 13: "A client order of eight zeros .. checked after 3 and before 4"; 4: "order, log holds 256".
unfoldable pub order : ℕ → State → Outcome
order o s =
    cond (eqb s.role leader)
    (cond (eqb o blank) (refuse 13)
    (cond (is_full s) (refuse 4) (led (ordered s o))))
    (refuse 3)
