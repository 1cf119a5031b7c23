-- Why an alarm sounds: what a refusal with number 6, 7 or 8 says of the box and of the message that came. Assumes nothing.
use Rattle.std.specs.Prelude.{ℕ, ◌≤◌, ◌<◌, ◌≡◌, false, ◌&&◌, List}
use Rattle.std.proofs.Common.{arith}
use Rattle.std.proofs.Math.Path.{refl}
use Rattle.std.proofs.Math.Bool.{true}
use Rattle.std.proofs.Math.Dec.{eqb, ltb}
use borrow.Author.Tests.{eqb-true, eqb-false, ltb-true, ltb-false}
use Rattle.digits.specs.Tests.{and_left, and_right}
use Rattle.frames.specs.declared.Entry.{Entry}
use Rattle.frames.specs.Message.{Message, vote_request, vote_answer, append, append_answer}
use Rattle.raft.specs.Majority.{bit, majority}
use Rattle.raft.specs.Record.{State, leader, last_index}
use Rattle.raft.specs.Outcome.{Outcome, done, refuse}
use Rattle.raft.specs.Winning.{won}
use Rattle.raft.specs.Timeout.{timeout}
use Rattle.raft.specs.Order.{is_full, blank, order}
use Rattle.raft.specs.Prompt.{prompt}
use Rattle.raft.specs.AnyMessage.{taken}
use Rattle.raft.specs.VoteRequest.{on_vote_request}
use Rattle.raft.specs.VoteAnswer.{counted, counts, on_vote_answer}
use Rattle.raft.specs.Append.{lacks, cuts_committed, on_append}
use Rattle.raft.specs.AppendAnswer.{answered, hear, on_append_answer}
use Rattle.raft.specs.Receive.{term_of, stale, current, deliver}
use Rattle.raft.specs.Event.{Event, times_out, takes_order, is_prompted, receives, step}
use Rattle.raft.proofs.CommitLaws.{by_test}
use Rattle.raft.proofs.ReceiveLaws.{taken_none, Looks, Arrives}
use Rattle.safety.specs.Park.{Comes}
use Rattle.safety.specs.Sent.{Sent, bytes_come}

-- A refusal's number, and why it is given where it is an alarm.
pub data Alarm (sent : List (List ℕ)) (s : State) (n : ℕ) : Type 0 where
  -- 6: "append of the box's own term, and it leads"
  two_lead : n ≡ 6 → (from to term index prior commit : ℕ) (es : List Entry) → Arrives s (append from to term index prior commit es)
      → Sent sent (append from to term index prior commit es) → s.term ≡ term → s.role ≡ leader → Alarm sent s n
  -- 7: "an append of no lower term would cut at or below commit"
  cuts : n ≡ 7 → (from to term index prior commit : ℕ) (es : List Entry) → Arrives s (append from to term index prior commit es)
      → Sent sent (append from to term index prior commit es) → Looks s term → lacks (taken term s).log index prior ≡ false
      → cuts_committed (taken term s) index es ≡ true → Alarm sent s n
  -- 8: "at a leader, an append answer yes of its term names an index past its log"
  past : n ≡ 8 → (from to term index : ℕ) → Arrives s (append_answer from to term 1 index) → Sent sent (append_answer from to term 1 index)
      → s.term ≡ term → s.role ≡ leader → last_index s < index → Alarm sent s n
  quiet : (n ≡ 6 → ⊥) → (n ≡ 7 → ⊥) → (n ≡ 8 → ⊥) → Alarm sent s n

-- ---- refusals

-- What holds of an outcome's number, where it is a refusal.
abbrev pub Refuses : (ℕ → Type 0) → Outcome → Type 0
Refuses Q o = (n : ℕ) → o ≡ refuse n → Q n

-- What is done is no refusal,
refuses-done : (Q : ℕ → Type 0) (t : State) (ms : List Message) → Refuses Q (done t ms)
refuses-done Q t ms n e = let never : ◌≡◌ {A = ℕ} 0 1 = cc in absurd (omega arith)

-- and a refusal has its number.
refuses_with : (Q : ℕ → Type 0) (m : ℕ) → Q m → Refuses Q (refuse m)
refuses_with Q m q n e = let same : m ≡ n = cc in rw (← same) q

-- ---- the messages

module _ (sent : List (List ℕ)) (s : State) where
  -- what is shown of an outcome: why, where it is an alarm
  abbrev Why : Outcome → Type 0
  Why = Refuses (Alarm sent s)

  -- A message of a lower term is never refused,
  stale-alarms : (m : Message) → Why (stale m s)
  unfolding stale
  stale-alarms (vote_request from to term index prior) = refuses-done _ _ _
  stale-alarms (vote_answer from to term reply) = refuses-done _ _ _
  stale-alarms (append from to term index prior commit es) = refuses-done _ _ _
  stale-alarms (append_answer from to term reply index) = refuses-done _ _ _

  -- nor is a vote answer.
  vote_answer-alarms : (t : State) (from reply : ℕ) → Why (on_vote_answer t from reply)
  unfolding on_vote_answer counted won
  vote_answer-alarms t from reply =
      by_test Why (counts t reply) _ _ (λ c. by_test Why (majority _ _) _ _ (λ m. refuses-done _ _ _) (λ m. refuses-done _ _ _))
      (λ c. refuses-done _ _ _)

  -- An append is refused with 6 or 7,
  append-alarms : (from to term index prior commit : ℕ) (es : List Entry) → Arrives s (append from to term index prior commit es)
      → Sent sent (append from to term index prior commit es) → s.term ≤ term → Why (on_append (taken term s) from index prior commit es)
  unfolding on_append
  append-alarms from to term index prior commit es a v l =
      by_test Why (eqb (taken term s).role leader) _ _
      (λ r. let o = taken_none term s 1 l (eqb-true _ _ r) in
      refuses_with (Alarm sent s) 6 (two_lead refl from to term index prior commit es a v o.1 o.2))
      (λ r. by_test Why (lacks (taken term s).log index prior) _ _ (λ k. refuses-done _ _ _)
      (λ k. by_test Why (cuts_committed (taken term s) index es) _ _
      (λ c. refuses_with (Alarm sent s) 7
      (cuts refl from to term index prior commit es a v (record { current = l; unled = eqb-false _ _ r }) k c))
      (λ c. refuses-done _ _ _)))

  -- and an append answer with 8.
  append_answer-alarms : (from to term reply index : ℕ) → Arrives s (append_answer from to term reply index)
      → Sent sent (append_answer from to term reply index) → s.term ≤ term → Why (on_append_answer (taken term s) from reply index)
  unfolding on_append_answer hear answered
  append_answer-alarms from to term reply index a v l =
      by_test Why (eqb (taken term s).role leader) _ _ at-leader (λ e. refuses-done _ _ _)
    where
      at-leader : eqb (taken term s).role leader ≡ true → Why (hear (taken term s) from reply index)
      at-leader e =
          let o = taken_none term s 1 l (eqb-true (taken term s).role leader e) in
          rw o.0 (by_test Why (eqb reply 1 && ltb (last_index s) index) _ _
          (λ h. let said = eqb-true reply 1 (and_left (eqb reply 1) _ h) in
          refuses_with (Alarm sent s) 8
          (past refl from to term index (rw said at a) (rw said at v) o.1 o.2 (ltb-true _ _ (and_right (eqb reply 1) _ h))))
          (λ h. refuses-done _ _ _))

  -- So each message of no lower term, where it was sent,
  current-alarms : (m : Message) → Arrives s m → Sent sent m → s.term ≤ term_of m → Why (current m (taken (term_of m) s))
  unfolding current term_of on_vote_request
  current-alarms (vote_request from to term index prior) a v l = refuses-done _ _ _
  current-alarms (vote_answer from to term reply) a v l = vote_answer-alarms (taken term s) from reply
  current-alarms (append from to term index prior commit es) a v l = append-alarms from to term index prior commit es a v l
  current-alarms (append_answer from to term reply index) a v l = append_answer-alarms from to term reply index a v l

  -- and so any that arrives.
  deliver-alarms : (m : Message) → Arrives s m → Sent sent m → Why (deliver m s)
  unfolding deliver
  deliver-alarms m a v =
      by_test Why (ltb (term_of m) s.term) _ _ (λ l. stale-alarms m) (λ l. current-alarms m a v (ltb-false _ _ l))

  -- ---- any event

  -- a number that is no alarm's
  no_alarm : (n : ℕ) → (n ≡ 6 → ⊥) × (n ≡ 7 → ⊥) × (n ≡ 8 → ⊥) → Why (refuse n)
  no_alarm n q = refuses_with (Alarm sent s) n (quiet q.0 q.1 q.2)

  -- **Why an alarm sounds,** at any event.
  pub event-alarms : (e : Event) → Comes sent e → Refuses (Alarm sent s) (step e s)
  unfolding step timeout order prompt won
  event-alarms times_out c =
      by_test Why (eqb s.role leader) _ _ (λ r. refuses-done _ _ _)
      (λ r. by_test Why (eqb s.term _) _ _ (λ t. no_alarm 9 (omega arith))
      (λ t. by_test Why (majority s.members (bit s.me)) _ _ (λ m. refuses-done _ _ _) (λ m. refuses-done _ _ _)))
  event-alarms (takes_order o) c =
      by_test Why (eqb s.role leader) _ _
      (λ r. by_test Why (eqb o blank) _ _ (λ z. no_alarm 13 (omega arith))
      (λ z. by_test Why (is_full s) _ _ (λ f. no_alarm 4 (omega arith)) (λ f. refuses-done _ _ _)))
      (λ r. no_alarm 3 (omega arith))
  event-alarms is_prompted c = by_test Why (eqb s.role leader) _ _ (λ r. refuses-done _ _ _) (λ r. no_alarm 3 (omega arith))
  event-alarms (receives bytes) there =
      bytes_come Why s bytes (λ m a r. deliver-alarms m a (record { bytes = bytes; there = there; read = r }))
      (no_alarm 1 (omega arith)) (no_alarm 2 (omega arith))
