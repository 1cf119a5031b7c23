-- What a step of a good record writes is no longer than Longest says. Assumes nothing.
use Rattle.std.specs.Prelude.{ℕ, zero, suc, ◌+◌, ◌*◌, ◌≤◌, ◌<◌, ◌≡◌, refl, Bool, true, false, cond, List, [], ◌∷◌, eqb, length}
use Rattle.std.proofs.Common.{arith, length-append, length-drop}
use Rattle.std.proofs.lemmas.Bool.{eqb-false}
use Rattle.frames.specs.Limits.{boxes, longest_message}
use Rattle.frames.specs.Message.{Message, vote_request, vote_answer, append, append_answer, text}
use Rattle.frames.specs.Reading.{size}
use Rattle.frames.specs.Rules.{obeys}
use Rattle.frames.specs.WritingLaws.{length-text}
use Rattle.raft.specs.Majority.{holds}
use Rattle.raft.specs.Record.{State, is_other, good}
use Rattle.raft.specs.Commit.{settle}
use Rattle.raft.specs.Sends.{vote_request_to, append_to, to_others, vote_requests, appends, texts}
use Rattle.raft.specs.Journal.{same_stored, line_of, journaled}
use Rattle.raft.specs.Winning.{leading, winner}
use Rattle.raft.specs.Timeout.{standing, timeout}
use Rattle.raft.specs.Order.{ordered, blank, order}
use Rattle.raft.specs.Prompt.{prompt}
use Rattle.raft.specs.VoteAnswer.{adding}
use Rattle.raft.specs.Receive.{deliver, receive}
use Rattle.raft.specs.Event.{Event, times_out, takes_order, is_prompted, receives, step}
use Rattle.raft.proofs.CommitLaws.{by_test}
use Rattle.raft.proofs.RecordLaws.{good-facts, Member, member-facts}
use Rattle.raft.proofs.StepLaws.{winner-ends, timeout-ends, order-ends, prompt-ends}
use Rattle.raft.proofs.SendLaws.{All, Obey}
use Rattle.raft.proofs.ReceiveLaws.{Ends, vote_request-ends, vote_answer-ends, append-ends, append_answer-ends, Arrives, receive-ends, offer-facts}
use Rattle.raft.proofs.EventLaws.{step-obeys}
unfoldable pub use Rattle.journal.specs.Longest.{longest_line, longest_messages}
use Rattle.journal.proofs.LineSpelling.{line-lined, length-lined, line-chars}
use Rattle.journal.specs.StepMoves.{Moved, step-moves}

-- What a step from s to t writes is no longer: its line, and its messages.
pub record Longest (s t : State) (ms : List Message) : Type 0 where
  pub line : length (journaled s t) ≤ longest_line
  pub sent : length (texts ms) ≤ longest_messages

-- ---- the line

-- At most four entries lie behind what is kept, and a line carries no others: 23 bytes, and 24 for each.
line-most : (s t : State) → Moved s t → length (journaled s t) ≤ longest_line
unfolding journaled line_of
line-most s t m =
    by_test (λ bytes. length bytes ≤ longest_line) (same_stored s t) [] _ (λ e. omega arith)
    (λ e. rw (line-lined, length-lined, line-chars, length-drop) (omega (arith, m.few)))

-- ---- the messages

-- Only an append has entries, and the rules of frames give it at most four.
pub text-most : (m : Message) → obeys m ≡ true → length (text m) ≤ longest_message
unfolding size
text-most (vote_request from to term index prior) o = omega (arith, length-text (vote_request from to term index prior))
text-most (vote_answer from to term reply) o = omega (arith, length-text (vote_answer from to term reply))
text-most (append from to term index prior commit es) o =
    let few = (offer-facts from to term index prior commit es o).few in
    omega (arith, length-text (append from to term index prior commit es))
text-most (append_answer from to term reply index) o = omega (arith, length-text (append_answer from to term reply index))

-- So messages that obey are no longer than so many of the longest.
texts-most : (ms : List Message) → Obey ms → length (texts ms) ≤ longest_message * length ms
unfolding texts All
texts-most [] o = omega arith
texts-most (m ∷ ms) o = rw length-append (omega (arith, text-most m o.0, texts-most ms o.1))

-- ---- how many they are

-- one message more, or none
one_more : (b : Bool) (m : Message) (ms : List Message) → length (cond b (m ∷ ms) ms) ≤ suc (length ms)
one_more true m ms = omega arith
one_more false m ms = omega arith

-- n boxes get at most one message each,
others-most : (s : State) (message : ℕ → Message) (i n : ℕ) → length (to_others s message i n) ≤ n
unfolding to_others
others-most s message i zero = omega arith
others-most s message i (suc n) =
    omega (arith, one_more (is_other s.me s.members i) (message i) (to_others s message (suc i) n), others-most s message (suc i) n)

-- and the box itself, where it is one of them, gets none.
others_fewer : (s : State) (message : ℕ → Message) (i n : ℕ) → i ≤ s.me → s.me < i + n → length (to_others s message i n) < n
unfolding to_others is_other
others_fewer s message i zero l h = absurd (omega arith)
others_fewer s message i (suc n) l h = go (eqb i s.me) refl (others_fewer s message (suc i) n)
  where
    rest : List Message
    rest = to_others s message (suc i) n

    go : (b : Bool) → eqb i s.me ≡ b → (suc i ≤ s.me → s.me < suc i + n → length rest < n)
        → length (cond (cond b false (holds s.members i)) (message i ∷ rest) rest) < suc n
    go true e below = omega (arith, others-most s message (suc i) n)
    go false e below =
        let few = below (omega (arith, eqb-false i s.me e)) (omega arith) in
        omega (arith, one_more (holds s.members i) (message i) rest)

-- At most six messages: fewer than there are boxes.
abbrev Six : State → List Message → Type 0
Six t ms = length ms < boxes

-- Vote requests go to the other boxes alone,
requests_six : (s : State) → Member s.me s.members → Six s (vote_requests s)
unfolding vote_requests
requests_six s m = others_fewer s (vote_request_to s) 1 boxes m.least (omega arith)

-- and so do appends.
appends_six : (s : State) → Member s.me s.members → Six s (appends s)
unfolding appends
appends_six s m = others_fewer s (append_to s) 1 boxes m.least (omega arith)

-- So does a box that wins.
winner_six : (s : State) → Member s.me s.members → Six (settle (winner s)) (appends (settle (winner s)))
unfolding settle leading ordered
winner_six s m =
    winner-ends (λ w. Six (settle w) (appends (settle w))) s (appends_six (settle (leading s)) m) (λ l. appends_six (settle (ordered (leading s) blank)) m)

-- A timeout sends no others, and leaves the box among its members;
timeout_six : (s : State) → Member s.me s.members → Ends Six (timeout s)
unfolding standing
timeout_six s m =
    timeout-ends Six s (λ r. omega arith) (λ c w. winner_six (standing s) m) (λ c w. requests_six (standing s) m)

-- so does an order,
order_six : (o : ℕ) (s : State) → Member s.me s.members → Ends Six (order o s)
unfolding settle ordered
order_six o s m = order-ends Six o s (λ r l. appends_six (settle (ordered s o)) m)

-- and a prompt.
prompt_six : (s : State) → Member s.me s.members → Ends Six (prompt s)
prompt_six s m = prompt-ends Six s (λ r. appends_six s m)

-- A message that arrives gets at most one answer, or makes a leader that sends appends,
deliver_six : (s : State) → Member s.me s.members → (m : Message) → Arrives s m → Ends Six (deliver m s)
unfolding adding
deliver_six s m (vote_request from to term index prior) a =
    vote_request-ends Six s from to term index prior (λ y. omega arith) (omega arith)
deliver_six s m (vote_answer from to term reply) a =
    vote_answer-ends Six s from to term reply (λ c w. winner_six (adding s from) m) (λ c w. omega arith) (omega arith)
deliver_six s m (append from to term index prior commit es) a =
    append-ends Six s from to term index prior commit es (λ l. omega arith) (λ l n. omega arith) (λ l n c. omega arith)
deliver_six s m (append_answer from to term reply index) a =
    append_answer-ends Six s from to term reply index (λ h b. omega arith) (λ h b. omega arith) (omega arith)

-- and so do any bytes.
receive_six : (bytes : List ℕ) (s : State) → Member s.me s.members → Ends Six (receive bytes s)
receive_six bytes s m = receive-ends Six s (deliver_six s m) bytes

-- Any event sends at most six.
step_six : (e : Event) (s : State) → Member s.me s.members → Ends Six (step e s)
unfolding step
step_six times_out s m = timeout_six s m
step_six (takes_order o) s m = order_six o s m
step_six is_prompted s m = prompt_six s m
step_six (receives bytes) s m = receive_six bytes s m

-- ---- any event

-- At most six messages of at most 131 bytes are at most 786.
longest-when : (s t : State) (ms : List Message) → Moved s t → Obey ms → Six t ms → Longest s t ms
longest-when s t ms m o six = record { line = line-most s t m; sent = omega (arith, texts-most ms o) }

-- the box of a good record is a member
good-member : (s : State) → good s ≡ true → Member s.me s.members
good-member s h = member-facts s.me s.members (good-facts s h).membership

-- **So no event makes a good record write more.**
pub step-longest : (e : Event) (s : State) → good s ≡ true → Ends (λ t ms. Longest s t ms) (step e s)
step-longest e s h t ms o =
    longest-when s t ms (step-moves e s (good-facts s h) t ms o) (step-obeys e s h t ms o) (step_six e s (good-member s h) t ms o)
