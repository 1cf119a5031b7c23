-- 01's table of refusals has no number 0: whoever refuses says so. Assumes nothing.
use Rattle.std.specs.Prelude.{ℕ, ◌≤◌, ◌≡◌, Bool, true, false, cond, ◌&&◌, List, eqb, ltb}
use Rattle.std.proofs.Common.{arith, eq-eqb, ne_eqb}
use Rattle.frames.specs.declared.Entry.{Entry}
use Rattle.frames.specs.Message.{Message, vote_request, vote_answer, append, append_answer}
use Rattle.frames.specs.Reading.{Reading, frame, refused, reading}
use Rattle.raft.specs.Majority.{bit, majority}
use Rattle.raft.specs.Record.{State, leader, last_index}
use Rattle.raft.specs.Outcome.{Outcome, done, refuse}
use Rattle.raft.specs.Timeout.{last_of_terms, timeout}
use Rattle.raft.specs.Winning.{won}
use Rattle.raft.specs.Order.{is_full, blank, order}
use Rattle.raft.specs.Prompt.{prompt}
use Rattle.raft.specs.AnyMessage.{taken}
use Rattle.raft.specs.VoteAnswer.{counts, counted, on_vote_answer}
use Rattle.raft.specs.Append.{lacks, cuts_committed, accept, on_append}
use Rattle.raft.specs.VoteRequest.{on_vote_request}
use Rattle.raft.specs.AppendAnswer.{answered, hear, on_append_answer}
use Rattle.raft.specs.Receive.{sender, receiver, term_of, stale, current, deliver, is_for, arrive, arrive_read, receive}

-- a refusal's number is at least 1
unfoldable pub Numbered : Outcome → Type 0
Numbered (done t messages) = Unit {0}
Numbered (refuse number) = 1 ≤ number

pub ends : (t : State) (messages : List Message) → Numbered (done t messages)
unfolding Numbered
ends t messages = tt

pub numbers : (number : ℕ) → 1 ≤ number → Numbered (refuse number)
unfolding Numbered
numbers number h = h

pub at_least_one : (number : ℕ) → Numbered (refuse number) → 1 ≤ number
unfolding Numbered
at_least_one number h = h

-- whichever way it goes
pub by_test : (b : Bool) (x y : Outcome) → Numbered x → Numbered y → Numbered (cond b x y)
by_test true x y p q = p
by_test false x y p q = q

-- 9 alone
pub timeout-numbered : (s : State) → Numbered (timeout s)
unfolding timeout won
timeout-numbered s =
    by_test (eqb s.role leader) _ _ (ends _ _)
    (by_test (eqb s.term last_of_terms) _ _ (numbers 9 (omega arith))
    (by_test (majority s.members (bit s.me)) _ _ (ends _ _) (ends _ _)))

-- 3, then 13, then 4
pub order-numbered : (o : ℕ) (s : State) → Numbered (order o s)
unfolding order
order-numbered o s =
    by_test (eqb s.role leader) _ _
    (by_test (eqb o blank) _ _ (numbers 13 (omega arith)) (by_test (is_full s) _ _ (numbers 4 (omega arith)) (ends _ _)))
    (numbers 3 (omega arith))

-- Who does not lead says 3 to any order,
pub unled-order : (o : ℕ) (s : State) → (s.role ≡ leader → ⊥) → order o s ≡ refuse 3
unfolding order
unled-order o s n = rw (ne_eqb s.role leader n)

-- and a leader 13 to the blank, however full its log is.
pub blank-refused : (s : State) → s.role ≡ leader → order blank s ≡ refuse 13
unfolding order
blank-refused s r = rw (eq-eqb s.role leader r)

pub prompt-numbered : (s : State) → Numbered (prompt s)
unfolding prompt
prompt-numbered s = by_test (eqb s.role leader) _ _ (ends _ _) (numbers 3 (omega arith))

counted-numbered : (s : State) → Numbered (counted s)
unfolding counted won
counted-numbered s = by_test (majority s.members s.votes) _ _ (ends _ _) (ends _ _)

-- 7 alone
accept-numbered : (s : State) (from index commit : ℕ) (es : List Entry) → Numbered (accept s from index commit es)
accept-numbered s from index commit es = by_test (cuts_committed s index es) _ _ (numbers 7 (omega arith)) (ends _ _)

-- 6, then 7
append-numbered : (s : State) (from index prior commit : ℕ) (es : List Entry) → Numbered (on_append s from index prior commit es)
unfolding on_append
append-numbered s from index prior commit es =
    by_test (eqb s.role leader) _ _ (numbers 6 (omega arith))
    (by_test (lacks s.log index prior) _ _ (ends _ _) (accept-numbered s from index commit es))

-- 8 alone
hear-numbered : (s : State) (from reply index : ℕ) → Numbered (hear s from reply index)
unfolding hear answered
hear-numbered s from reply index = by_test (eqb reply 1 && ltb (last_index s) index) _ _ (numbers 8 (omega arith)) (ends _ _)

stale-numbered : (m : Message) (s : State) → Numbered (stale m s)
unfolding stale
stale-numbered (vote_request from to term index prior) s = ends _ _
stale-numbered (vote_answer from to term reply) s = ends _ _
stale-numbered (append from to term index prior commit es) s = ends _ _
stale-numbered (append_answer from to term reply index) s = ends _ _

current-numbered : (m : Message) (s : State) → Numbered (current m s)
unfolding current on_vote_request on_vote_answer on_append_answer
current-numbered (vote_request from to term index prior) s = ends _ _
current-numbered (vote_answer from to term reply) s = by_test (counts s reply) _ _ (counted-numbered _) (ends _ _)
current-numbered (append from to term index prior commit es) s = append-numbered s from index prior commit es
current-numbered (append_answer from to term reply index) s = by_test (eqb s.role leader) _ _ (hear-numbered s from reply index) (ends _ _)

deliver-numbered : (m : Message) (s : State) → Numbered (deliver m s)
unfolding deliver
deliver-numbered m s = by_test (ltb (term_of m) s.term) _ _ (stale-numbered m s) (current-numbered m (taken (term_of m) s))

-- 1 and 2
read-numbered : (r : Reading) (s : State) → Numbered (arrive_read r s)
unfolding arrive_read arrive
read-numbered (frame m) s = by_test (is_for s (sender m) (receiver m)) _ _ (deliver-numbered m s) (numbers 2 (omega arith))
read-numbered refused s = numbers 1 (omega arith)

pub receive-numbered : (bytes : List ℕ) (s : State) → Numbered (receive bytes s)
unfolding receive
receive-numbered bytes s = read-numbered (reading bytes) s
