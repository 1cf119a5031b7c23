-- 01, 'Prompt'. Assumes nothing.
use Rattle.std.specs.Prelude.{cond, eqb}
use Rattle.raft.specs.Record.{State, leader}
use Rattle.raft.specs.Sends.{appends}
use Rattle.raft.specs.Outcome.{Outcome, done, refuse}

-- "Prompt (leader): an append to each." Refusal 3: "order or prompt, not leader".
unfoldable pub prompt : State → Outcome
prompt s = cond (eqb s.role leader) (done s (appends s)) (refuse 3)
