-- Commit never falls over a step: what a box has handed out it goes on handing out, until it is restarted. (That it is the same entries is demand 3's
-- `boxes_agree`.) Assumes nothing.
use Rattle.std.specs.Prelude.{ℕ, ◌≤◌, List}
use Rattle.std.proofs.Common.{le_refl, arith}
use Rattle.frames.specs.Message.{Message, vote_request, vote_answer, append, append_answer}
use Rattle.raft.specs.Record.{State}
use Rattle.raft.specs.Commit.{settle}
use Rattle.raft.specs.Order.{ordered}
use Rattle.raft.specs.Winning.{winner}
use Rattle.raft.specs.Timeout.{standing}
use Rattle.raft.specs.AnyMessage.{taking, taken}
use Rattle.raft.specs.VoteRequest.{voting}
use Rattle.raft.specs.VoteAnswer.{adding}
use Rattle.raft.specs.Append.{following, joining}
use Rattle.raft.specs.AppendAnswer.{heard}
use Rattle.raft.specs.Receive.{deliver}
use Rattle.raft.specs.Event.{Event, times_out, takes_order, is_prompted, receives, step}
use Rattle.raft.proofs.CommitLaws.{settled-least}
use Rattle.raft.proofs.StepLaws.{timeout-ends, order-ends, prompt-ends}
use Rattle.raft.proofs.WinningLaws.{winner-commit}
use Rattle.raft.proofs.ReceiveLaws.{taken-by, Ends, Arrives, vote_request-ends, vote_answer-ends, append-ends, append_answer-ends, receive-ends}

-- The next record's commit is no lower.
abbrev Rises : State → State → List Message → Type 0
Rises s t ms = s.commit ≤ t.commit

-- A term that is taken leaves it,
taken-rises : (term : ℕ) (s : State) → s.commit ≤ (taken term s).commit
unfolding taking
taken-rises term s = taken-by (λ t. s.commit ≤ t.commit) term s (λ l. le_refl _) (λ l. le_refl _)

-- and who wins settles it from where it was.
winner-rises : (s : State) → s.commit ≤ (settle (winner s)).commit
unfolding settle
winner-rises s = omega (arith, settled-least (winner s), winner-commit s)

-- So it is over each message that arrives,
deliver-rises : (s : State) (m : Message) → Arrives s m → Ends (Rises s) (deliver m s)
unfolding voting adding following joining settle heard
deliver-rises s (vote_request from to term index prior) a =
    vote_request-ends (Rises s) s from to term index prior (λ y. taken-rises term s) (taken-rises term s)
deliver-rises s (vote_answer from to term reply) a =
    vote_answer-ends (Rises s) s from to term reply (λ c m. winner-rises (adding s from)) (λ c m. le_refl _) (taken-rises term s)
deliver-rises s (append from to term index prior commit es) a =
    append-ends (Rises s) s from to term index prior commit es (λ l. le_refl _) (λ l n. taken-rises term s) (λ l n c. omega (arith, taken-rises term s))
deliver-rises s (append_answer from to term reply index) a =
    append_answer-ends (Rises s) s from to term reply index (λ h b. settled-least (heard s from reply index)) (λ h b. settled-least (heard s from reply index))
    (taken-rises term s)

-- **and over every step.**
pub step-rises : (e : Event) (s : State) → Ends (Rises s) (step e s)
unfolding step settle standing ordered
step-rises times_out s = timeout-ends (Rises s) s (λ r. le_refl _) (λ c m. winner-rises (standing s)) (λ c m. le_refl _)
step-rises (takes_order o) s = order-ends (Rises s) o s (λ r l. settled-least (ordered s o))
step-rises is_prompted s = prompt-ends (Rises s) s (λ r. le_refl _)
step-rises (receives bytes) s = receive-ends (Rises s) s (deliver-rises s) bytes
