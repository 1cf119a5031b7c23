-- How a move of one box may end: one line for each kind, with what is known of it. What is shown of each of these is shown of every event.
-- Assumes nothing.
use Rattle.std.specs.Prelude.{ℕ, ◌+◌, ◌<◌, ◌≡◌, true, false, List, [], ◌∷◌, length}
use Rattle.frames.specs.declared.Entry.{Entry}
use Rattle.frames.specs.Limits.{log_limit}
use Rattle.frames.specs.Message.{Message, vote_request, vote_answer, append, append_answer}
use Rattle.raft.specs.Majority.{bit, majority}
use Rattle.raft.specs.Record.{State, leader, last_index}
use Rattle.raft.specs.Commit.{settle}
use Rattle.raft.specs.Sends.{append_to, appends, vote_requests}
use Rattle.raft.specs.Timeout.{standing}
use Rattle.raft.specs.Winning.{winner}
use Rattle.raft.specs.Order.{ordered}
use Rattle.raft.specs.AnyMessage.{taken}
use Rattle.raft.specs.VoteRequest.{voting, vote_answer_to}
use Rattle.raft.specs.VoteAnswer.{adding}
use Rattle.raft.specs.Append.{lacks, following, joining, append_answer_to}
use Rattle.raft.specs.Receive.{deliver}
use Rattle.raft.specs.Event.{Event, times_out, takes_order, is_prompted, receives, step}
use Rattle.raft.proofs.StepLaws.{timeout-ends, order-ends, prompt-ends}
use Rattle.raft.proofs.ReceiveLaws.{Ends, ends-refuse, vote_request-ends, Grants, Counts, vote_answer-ends, Looks, append-ends, Hears, settled_heard, append_answer-ends, Arrives}
use Rattle.safety.specs.Park.{Comes}
use Rattle.safety.specs.Sent.{Sent, bytes_come}

-- A message that was sent has come to the box for which it is.
pub record Came (sent : List (List ℕ)) (s : State) (m : Message) : Type 0 where
  pub arrives : Arrives s m
  pub sent_once : Sent sent m

-- From a record, and the frames that were sent, to the next record and the messages that leave.
pub data Ending (sent : List (List ℕ)) (s : State) : State → List Message → Type 0 where
  -- a timeout: a leader's does nothing; any other box stands, and leads at once where its own vote is a majority
  rests : Ending sent s s []
  stands : Ending sent s (standing s) (vote_requests (standing s))
  leads_alone : majority s.members (bit s.me) ≡ true → Ending sent s (settle (winner (standing s))) (appends (settle (winner (standing s))))
  -- an order, and a prompt
  takes_up : s.role ≡ leader → last_index s < log_limit → (o : ℕ) → Ending sent s (settle (ordered s o)) (appends (settle (ordered s o)))
  prompts : s.role ≡ leader → Ending sent s s (appends s)
  -- an answer that at most brings a higher term
  takes : (term : ℕ) → Ending sent s (taken term s) []
  -- a vote request: a yes, and a no
  votes : (from to term index prior : ℕ) → Came sent s (vote_request from to term index prior) → Grants s from term index prior
      → Ending sent s (voting (taken term s) from) (vote_answer_to (voting (taken term s) from) from true ∷ [])
  votes_not : (from term : ℕ) → Ending sent s (taken term s) (vote_answer_to (taken term s) from false ∷ [])
  -- a yes to a candidate: it wins, or waits for more
  wins : (from to term reply : ℕ) → Came sent s (vote_answer from to term reply) → Counts s term reply
      → majority s.members (adding s from).votes ≡ true
      → Ending sent s (settle (winner (adding s from))) (appends (settle (winner (adding s from))))
  counts : (from to term reply : ℕ) → Came sent s (vote_answer from to term reply) → Counts s term reply → Ending sent s (adding s from) []
  -- an append: the no to a lower term, the no for want of the previous entry, and the yes
  declines : (from : ℕ) → Ending sent s s (append_answer_to s from 0 false ∷ [])
  wants : (from term : ℕ) → Looks s term → Ending sent s (following (taken term s)) (append_answer_to (following (taken term s)) from 0 false ∷ [])
  joins : (from to term index prior commit : ℕ) (es : List Entry) → Came sent s (append from to term index prior commit es) → Looks s term
      → lacks (taken term s).log index prior ≡ false
      → Ending sent s (joining (taken term s) index commit es)
      (append_answer_to (joining (taken term s) index commit es) from (index + length es) true ∷ [])
  -- an append answer at a leader: an append follows, or none
  hears : (from to term reply index : ℕ) → Came sent s (append_answer from to term reply index) → Hears s term reply index
      → Ending sent s (settled_heard s from reply index) []
  hears_again : (from to term reply index : ℕ) → Came sent s (append_answer from to term reply index) → Hears s term reply index
      → Ending sent s (settled_heard s from reply index) (append_to (settled_heard s from reply index) from ∷ [])

-- Each message that has come ends so,
deliver_ending : (sent : List (List ℕ)) (s : State) (m : Message) → Came sent s m → Ends (Ending sent s) (deliver m s)
deliver_ending sent s (vote_request from to term index prior) c =
    vote_request-ends (Ending sent s) s from to term index prior (λ y. votes from to term index prior c y) (votes_not from term)
deliver_ending sent s (vote_answer from to term reply) c =
    vote_answer-ends (Ending sent s) s from to term reply (λ k m. wins from to term reply c k m) (λ k m. counts from to term reply c k)
    (takes term)
deliver_ending sent s (append from to term index prior commit es) c =
    append-ends (Ending sent s) s from to term index prior commit es (λ l. declines from) (λ l n. wants from term l)
    (λ l n k. joins from to term index prior commit es c l n)
deliver_ending sent s (append_answer from to term reply index) c =
    append_answer-ends (Ending sent s) s from to term reply index (λ h b. hears_again from to term reply index c h)
    (λ h b. hears from to term reply index c h) (takes term)

-- and so does each event that may come and is not refused.
pub event_ending : (sent : List (List ℕ)) (s : State) (e : Event) → Comes sent e → Ends (Ending sent s) (step e s)
unfolding step
event_ending sent s times_out c = timeout-ends (Ending sent s) s (λ r. rests) (λ c m. leads_alone m) (λ c m. stands)
event_ending sent s (takes_order o) c = order-ends (Ending sent s) o s (λ r l. takes_up r l o)
event_ending sent s is_prompted c = prompt-ends (Ending sent s) s (λ r. prompts r)
event_ending sent s (receives bytes) there =
    bytes_come (Ends (Ending sent s)) s bytes
    (λ m a r. deliver_ending sent s m (record { arrives = a; sent_once = record { bytes = bytes; there = there; read = r } }))
    (ends-refuse (Ending sent s) 1) (ends-refuse (Ending sent s) 2)
