-- What the bytes of a frame do to a good record: refusals 1 and 2, 'any message', then the kind. Assumes nothing.
use Rattle.std.specs.Prelude.{ℕ, Bool, false, cond, ◌&&◌, List, [], ◌∷◌, eqb, ltb}
use Rattle.frames.specs.Message.{Message, vote_request, vote_answer, append, append_answer}
use Rattle.frames.specs.Reading.{Reading, frame, refused, reading}
use Rattle.raft.specs.Record.{State, is_other}
use Rattle.raft.specs.Outcome.{Outcome, done, refuse}
use Rattle.raft.specs.AnyMessage.{taken}
use Rattle.raft.specs.VoteRequest.{vote_answer_to, on_vote_request}
use Rattle.raft.specs.VoteAnswer.{on_vote_answer}
use Rattle.raft.specs.Append.{say_no, on_append}
use Rattle.raft.specs.AppendAnswer.{on_append_answer}

-- ---- what every message has

unfoldable pub sender : Message → ℕ
sender (vote_request from to term index prior) = from
sender (vote_answer from to term reply) = from
sender (append from to term index prior commit es) = from
sender (append_answer from to term reply index) = from

unfoldable pub receiver : Message → ℕ
receiver (vote_request from to term index prior) = to
receiver (vote_answer from to term reply) = to
receiver (append from to term index prior commit es) = to
receiver (append_answer from to term reply index) = to

unfoldable pub term_of : Message → ℕ
term_of (vote_request from to term index prior) = term
term_of (vote_answer from to term reply) = term
term_of (append from to term index prior commit es) = term
term_of (append_answer from to term reply index) = term

-- ---- "Any message"

-- "A lower term: a request gets a no with the box's own term; an answer does nothing."
unfoldable pub stale : Message → State → Outcome
stale (vote_request from to term index prior) s = done s (vote_answer_to s from false ∷ [])
stale (vote_answer from to term reply) s = done s []
stale (append from to term index prior commit es) s = say_no s from
stale (append_answer from to term reply index) s = done s []

-- Its kind, at a box that is in the message's term.
unfoldable pub current : Message → State → Outcome
current (vote_request from to term index prior) s = on_vote_request s from index prior
current (vote_answer from to term reply) s = on_vote_answer s from reply
current (append from to term index prior commit es) s = on_append s from index prior commit es
current (append_answer from to term reply index) s = on_append_answer s from reply index

-- "with a higher term: take that term, .., then go on as below."
unfoldable pub deliver : Message → State → Outcome
deliver m s = cond (ltb (term_of m) s.term) (stale m s) (current m (taken (term_of m) s))

-- ---- any bytes

-- Refusal 2: "not to this box, from itself, or from a non-member".
unfoldable pub is_for : State → (from to : ℕ) → Bool
is_for s from to = eqb to s.me && is_other s.me s.members from

unfoldable pub arrive : Message → State → Outcome
arrive m s = cond (is_for s (sender m) (receiver m)) (deliver m s) (refuse 2)

-- Refusal 1: "the bytes .. are not one frame".
unfoldable pub arrive_read : Reading → State → Outcome
arrive_read (frame m) s = arrive m s
arrive_read refused s = refuse 1

unfoldable pub receive : List ℕ → State → Outcome
receive bytes s = arrive_read (reading bytes) s
