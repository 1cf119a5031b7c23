-- What every step of a leader that changes its log ends with. Assumes nothing.
use Rattle.raft.specs.Record.{State}
use Rattle.raft.specs.Commit.{settle}
use Rattle.raft.specs.Sends.{appends}
use Rattle.raft.specs.Outcome.{Outcome, done}

-- "Winning .. one append to each"; "Order .. an append to each other member"; "Commit at a leader, after an order, an append answer or winning .. is
-- settled before the step's messages are written, so they carry it."
abbrev pub led : State → Outcome
led s = done (settle s) (appends (settle s))
