-- Why 01's table holds row by row: the number that a call answers is that of the first row that holds, in the order of checking, event by event and kind by
-- kind; a row is then given exactly when it is the first (`raft/specs/Exactly`). And a refusal leaves everything as it was. Assumes nothing.
use Rattle.std.specs.Prelude.{ℕ, ◌≤◌, ◌≡◌, refl, Bool, true, false, not, cond, ◌&&◌, ◌||◌, List, [], ◌∷◌, eqb, ltb, leb, length}
use Rattle.std.proofs.Common.{arith, sym, ap, ◌∙◌, ltb-true, ltb-false, leb-true, leb-false, lt-ltb, le-ltb, le-leb, eq-eqb, ne_eqb}
use Rattle.std.proofs.lemmas.Bool.{lt-leb}
use Rattle.frames.specs.Refusal.{code}
use Rattle.frames.specs.declared.Entry.{Entry}
use Rattle.frames.specs.Limits.{log_limit}
use Rattle.frames.specs.Message.{Message, vote_request, vote_answer, append, append_answer, text}
use Rattle.frames.specs.Reading.{frame, refused, reading, is_frame, message_in}
use Rattle.frames.specs.Fields.{message_of, one_frame}
use Rattle.frames.specs.Writing.{Wrote, written}
use Rattle.raft.specs.Majority.{bit, majority, holds}
use Rattle.raft.specs.Record.{State, last_index, is_other, is_membership, good}
use Rattle.raft.proofs.RecordLaws.{good-facts}
use Rattle.raft.specs.Timeout.{last_of_terms, timeout, standing}
use Rattle.raft.specs.Order.{is_full, blank, order}
use Rattle.raft.specs.Prompt.{prompt}
use Rattle.raft.specs.Sends.{texts, vote_requests}
use Rattle.raft.specs.Winning.{won}
use Rattle.raft.specs.Journal.{head, journaled, kept}
use Rattle.raft.specs.Outcome.{Outcome, done, refuse}
use Rattle.raft.specs.AnyMessage.{taking, taken}
use Rattle.raft.specs.VoteRequest.{on_vote_request}
use Rattle.raft.specs.VoteAnswer.{counts, counted, adding, on_vote_answer}
use Rattle.raft.specs.Append.{lacks, stop, passes, joined, cuts_committed, say_no, on_append}
use Rattle.raft.proofs.JoinLaws.{joined_same, kept-joined, kept_self, lacks-not}
use Rattle.raft.specs.AppendAnswer.{answered, hear, on_append_answer}
use Rattle.raft.specs.Receive.{sender, receiver, term_of, stale, current, deliver, is_for, arrive, arrive_read, receive}
use Rattle.raft.specs.Event.{Event, times_out, takes_order, is_prompted, receives, step}
use Rattle.raft.specs.Exactly.{Exactly, Row, row, first, at_row, at_none}
use Rattle.record.specs.declared.Record.{Record}
use Rattle.record.specs.Calls.{state_of, Called, untouched, fit, run, call, Begun, begun, handed, HandedTold}
use Rattle.record.specs.Calls as calls
use Rattle.record.specs.ExactlyWhen.{Asked, state, left_by, Answers, leads, astray, longer, overflows, of_own_term, cuts, names_past, checked, Table}
use Rattle.record.specs.ExactlyWhen.{breaks_a_rule, not_one_frame, not_for_this_box, not_leader, client_blank, log_full, in_last_term, second_leader, would_cut, past_its_log, too_long}
use Rattle.record.specs.ExactlyWhen.{Starting, bad_box_or_mask, head_too_long, start_checked, StartTable, Handing, bad_record, hand_checked, HandTable}
use Rattle.record.specs.ExactlyWhen.{Writing, not_fields, frame_too_long, write_checked, WriteTable}

-- ---- the room

-- longer is not at most
more_not : (m n : ℕ) → ltb n m ≡ not (leb m n)
more_not m n = go (leb m n) refl
  where
    go : (b : Bool) → leb m n ≡ b → ltb n m ≡ not b
    go true h = le-ltb n m (leb-true m n h)
    go false h = lt-ltb n m (leb-false m n h)

-- either is longer exactly when not both fit
either_longer : (line sent journal messages : List ℕ) → (longer line journal || longer sent messages) ≡ not (fit line sent journal messages)
unfolding fit
either_longer line sent journal messages =
    rw (more_not (length line) (length journal), more_not (length sent) (length messages))
    (go (leb (length line) (length journal)) (leb (length sent) (length messages)))
  where
    go : (p q : Bool) → (not p || not q) ≡ not (p && q)
    go true q = refl
    go false q = refl

-- The number that an outcome comes to: 5 where it is too long for the room.
abbrev comes_to : Asked → Outcome → ℕ
comes_to a (done t sent) = cond (overflows a (done t sent)) 5 0
comes_to a (refuse number) = number

-- a choice's number is the chosen one's
by_choice : (c : Bool) (x y : Called) → x.answer.refusal ≡ 0 → y.answer.refusal ≡ 5 → (cond c x y).answer.refusal ≡ cond (not c) 5 0
by_choice true x y p q = p
by_choice false x y p q = q

run-number : (a : Asked) (o : Outcome) → (run o a.box a.terms a.orders a.journal a.messages).answer.refusal ≡ comes_to a o
unfolding run calls.written
run-number a (done t sent) =
    rw (either_longer (journaled (state a) t) (texts sent) a.journal a.messages)
    (by_choice (fit (journaled (state a) t) (texts sent) a.journal a.messages) _ _ refl refl)
run-number a (refuse number) = refl

-- An outcome that is no refusal comes to 5 or 0, by the room alone,
unfoldable Finishes : Asked → Outcome → Type 0
Finishes a o = comes_to a o ≡ cond (overflows a o) 5 0

finishes : (a : Asked) (t : State) (sent : List Message) → Finishes a (done t sent)
unfolding Finishes
finishes a t sent = refl

finished : (a : Asked) (o : Outcome) → Finishes a o → comes_to a o ≡ cond (overflows a o) 5 0
unfolding Finishes
finished a o f = f

-- whichever way it goes.
either_way : (a : Asked) (c : Bool) (x y : Outcome) → Finishes a x → Finishes a y → Finishes a (cond c x y)
either_way a true x y p q = p
either_way a false x y p q = q

won_finishes : (a : Asked) (s : State) → Finishes a (won s)
unfolding won
won_finishes a s = finishes a _ _

-- ---- the messages, kind by kind

-- What is left to check of a message that is for this box: 6, 7, 8, 5.
abbrev Checks : Asked → State → Message → Outcome → Type 0
Checks a s m o =
    comes_to a o ≡ cond (of_own_term s m) 6 (cond (cuts s m) 7 (cond (names_past s m) 8 (cond (overflows a o) 5 0)))

-- none of them refuses a vote request or a vote answer
vote_request_finishes : (a : Asked) (s : State) (from to term index prior : ℕ) → Finishes a (deliver (vote_request from to term index prior) s)
unfolding deliver stale current on_vote_request
vote_request_finishes a s from to term index prior =
    either_way a (ltb (term_of (vote_request from to term index prior)) s.term) _ _ (finishes a _ _) (finishes a _ _)

vote_answer_finishes : (a : Asked) (s : State) (from to term reply : ℕ) → Finishes a (deliver (vote_answer from to term reply) s)
unfolding deliver term_of stale current on_vote_answer counted adding
vote_answer_finishes a s from to term reply =
    either_way a (ltb (term_of (vote_answer from to term reply)) s.term) _ _ (finishes a _ _)
    (either_way a (counts u reply) _ _ (either_way a (majority u.members (adding u from).votes) _ _ (won_finishes a _) (finishes a _ _)) (finishes a _ _))
  where
    u : State
    u = taken term s

-- no to a log that lacks the previous entry, then 7
joins_checks : (a : Asked) (lack cut : Bool) (x y : Outcome) → Finishes a x → Finishes a y
    → comes_to a (cond lack x (cond cut (refuse 7) y))
    ≡ cond (not lack && cut) 7 (cond (overflows a (cond lack x (cond cut (refuse 7) y))) 5 0)
joins_checks a true cut x y p q = finished a x p
joins_checks a false true x y p q = refl
joins_checks a false false x y p q = finished a y q

-- 6 before that
append-here : (a : Asked) (led lack cut : Bool) (x y : Outcome) → Finishes a x → Finishes a y
    → comes_to a (cond led (refuse 6) (cond lack x (cond cut (refuse 7) y)))
    ≡ cond led 6 (cond (not lack && cut) 7 (cond (overflows a (cond led (refuse 6) (cond lack x (cond cut (refuse 7) y)))) 5 0))
append-here a true lack cut x y p q = refl
append-here a false lack cut x y p q = joins_checks a lack cut x y p q

append_checks : (a : Asked) (s : State) (from to term index prior commit : ℕ) (es : List Entry)
    → Checks a s (append from to term index prior commit es) (deliver (append from to term index prior commit es) s)
unfolding deliver term_of stale current on_append taken taking cuts_committed
append_checks a s from to term index prior commit es = go (ltb term s.term) refl (ltb s.term term) refl
  where
    go : (low : Bool) → ltb term s.term ≡ low → (high : Bool) → ltb s.term term ≡ high
        → Checks a s (append from to term index prior commit es)
        (cond low (say_no s from) (on_append (cond high (taking term s) s) from index prior commit es))
    go true p high q = rw (ne_eqb term s.term (omega (arith, ltb-true term s.term p)), lt-leb s.term term (ltb-true term s.term p))
    go false p true q =
        rw (ne_eqb term s.term (omega (arith, ltb-true s.term term q)), le-leb s.term term (omega (arith, ltb-true s.term term q)))
        (append-here a false (lacks s.log index prior) (cuts_committed s index es) _ _ (finishes a _ _) (finishes a _ _))
    go false p false q =
        rw (eq-eqb term s.term (omega (arith, ltb-false term s.term p, ltb-false s.term term q)), le-leb s.term term (ltb-false term s.term p))
        (append-here a (leads s) (lacks s.log index prior) (cuts_committed s index es) _ _ (finishes a _ _) (finishes a _ _))

-- 8 at a leader
answer-here : (a : Asked) (led yeah past : Bool) (x y : Outcome) → Finishes a x → Finishes a y
    → comes_to a (cond led (cond (yeah && past) (refuse 8) x) y)
    ≡ cond (led && yeah && past) 8 (cond (overflows a (cond led (cond (yeah && past) (refuse 8) x) y)) 5 0)
answer-here a true true true x y p q = refl
answer-here a true true false x y p q = finished a x p
answer-here a true false past x y p q = finished a x p
answer-here a false yeah past x y p q = finished a y q

-- of its own term
and-own : (led yeah past : Bool) → (led && yeah && true && past) ≡ (led && yeah && past)
and-own true true past = refl
and-own true false past = refl
and-own false yeah past = refl

-- and no other
and_else : (led yeah past : Bool) → (led && yeah && false && past) ≡ false
and_else true true past = refl
and_else true false past = refl
and_else false yeah past = refl

append_answer_checks : (a : Asked) (s : State) (from to term reply index : ℕ)
    → Checks a s (append_answer from to term reply index) (deliver (append_answer from to term reply index) s)
unfolding deliver term_of stale current on_append_answer hear answered taken taking
append_answer_checks a s from to term reply index = go (ltb term s.term) refl (ltb s.term term) refl
  where
    go : (low : Bool) → ltb term s.term ≡ low → (high : Bool) → ltb s.term term ≡ high
        → Checks a s (append_answer from to term reply index)
        (cond low (done s []) (on_append_answer (cond high (taking term s) s) from reply index))
    go true p high q =
        rw (ne_eqb term s.term (omega (arith, ltb-true term s.term p)), and_else (leads s) (eqb reply 1) (ltb (last_index s) index))
    go false p true q =
        rw (ne_eqb term s.term (omega (arith, ltb-true s.term term q)), and_else (leads s) (eqb reply 1) (ltb (last_index s) index))
    go false p false q =
        rw (
          eq-eqb term s.term (omega (arith, ltb-false term s.term p, ltb-false s.term term q)),
          and-own (leads s) (eqb reply 1) (ltb (last_index s) index),
        )
        (answer-here a (leads s) (eqb reply 1) (ltb (last_index s) index) _ _ (finishes a _ _) (finishes a _ _))

deliver_checks : (a : Asked) (s : State) (m : Message) → Checks a s m (deliver m s)
deliver_checks a s (vote_request from to term index prior) = finished a _ (vote_request_finishes a s from to term index prior)
deliver_checks a s (vote_answer from to term reply) = finished a _ (vote_answer_finishes a s from to term reply)
deliver_checks a s (append from to term index prior commit es) = append_checks a s from to term index prior commit es
deliver_checks a s (append_answer from to term reply index) = append_answer_checks a s from to term reply index

-- 2 before them: a message is for this box exactly when it is not astray
is_for-not : (s : State) (m : Message) → is_for s (sender m) (receiver m) ≡ not (astray s m)
unfolding is_for is_other
is_for-not s m = go (eqb (receiver m) s.me) (eqb (sender m) s.me) (holds s.members (sender m))
  where
    go : (to from member : Bool) → (to && cond from false member) ≡ not (not to || from || not member)
    go true true member = refl
    go true false true = refl
    go true false false = refl
    go false from member = refl

arrive_checks : (a : Asked) (s : State) (m : Message)
    → comes_to a (arrive m s)
    ≡ cond (astray s m) 2 (cond (of_own_term s m) 6 (cond (cuts s m) 7 (cond (names_past s m) 8 (cond (overflows a (arrive m s)) 5 0))))
unfolding arrive
arrive_checks a s m = rw (is_for-not s m) (go (astray s m) (deliver_checks a s m))
  where
    go : (c : Bool) → Checks a s m (deliver m s)
        → comes_to a (cond (not c) (deliver m s) (refuse 2))
        ≡ cond c 2
        (cond (of_own_term s m) 6
        (cond (cuts s m) 7 (cond (names_past s m) 8 (cond (overflows a (cond (not c) (deliver m s) (refuse 2))) 5 0))))
    go true h = refl
    go false h = h

-- ---- the events

-- 9 alone, then 5
timeout_checks : (a : Asked) (s : State)
    → comes_to a (timeout s) ≡ cond (not (leads s) && eqb s.term last_of_terms) 9 (cond (overflows a (timeout s)) 5 0)
unfolding timeout
timeout_checks a s =
    go (leads s) (eqb s.term last_of_terms) _
    (either_way a (majority s.members (bit s.me)) _ _ (won_finishes a (standing s)) (finishes a (standing s) (vote_requests (standing s))))
  where
    go : (led last : Bool) (x : Outcome) → Finishes a x
        → comes_to a (cond led (done s []) (cond last (refuse 9) x))
        ≡ cond (not led && last) 9 (cond (overflows a (cond led (done s []) (cond last (refuse 9) x))) 5 0)
    go true last x f = refl
    go false true x f = refl
    go false false x f = finished a x f

-- 3, 13, 4, then 5: a log that is good and not shorter than 256 holds 256
order_checks : (a : Asked) (o : ℕ) (s : State) → good s ≡ true
    → comes_to a (order o s)
    ≡ cond (not (leads s)) 3 (cond (eqb o blank) 13 (cond (eqb (last_index s) log_limit) 4 (cond (overflows a (order o s)) 5 0)))
unfolding order is_full
order_checks a o s h = rw full (go (leads s) (eqb o blank) (eqb (last_index s) log_limit) _ (finishes a _ _))
  where
    full : leb log_limit (last_index s) ≡ eqb (last_index s) log_limit
    full = at (leb log_limit (last_index s)) refl
      where
        at : (b : Bool) → leb log_limit (last_index s) ≡ b → b ≡ eqb (last_index s) log_limit
        at true e = sym (eq-eqb (last_index s) log_limit (omega (arith, leb-true log_limit (last_index s) e, (good-facts s h).room)))
        at false e = sym (ne_eqb (last_index s) log_limit (omega (arith, leb-false log_limit (last_index s) e)))

    go : (led zeros most : Bool) (x : Outcome) → Finishes a x
        → comes_to a (cond led (cond zeros (refuse 13) (cond most (refuse 4) x)) (refuse 3))
        ≡ cond (not led) 3 (cond zeros 13 (cond most 4 (cond (overflows a (cond led (cond zeros (refuse 13) (cond most (refuse 4) x)) (refuse 3))) 5 0)))
    go true true most x f = refl
    go true false true x f = refl
    go true false false x f = finished a x f
    go false zeros most x f = refl

-- 3, then 5
prompt_checks : (a : Asked) (s : State) → comes_to a (prompt s) ≡ cond (not (leads s)) 3 (cond (overflows a (prompt s)) 5 0)
unfolding prompt
prompt_checks a s = go (leads s) _ (finishes a _ _)
  where
    go : (led : Bool) (x : Outcome) → Finishes a x
        → comes_to a (cond led x (refuse 3)) ≡ cond (not led) 3 (cond (overflows a (cond led x (refuse 3))) 5 0)
    go true x f = finished a x f
    go false x f = refl

-- 1, then as the message says
receive_checks : (a : Asked) (bytes : List ℕ) (s : State)
    → comes_to a (receive bytes s)
    ≡ cond (not (is_frame bytes)) 1
    (cond (is_frame bytes && astray s (message_in bytes)) 2
    (cond (is_frame bytes && of_own_term s (message_in bytes)) 6
    (cond (is_frame bytes && cuts s (message_in bytes)) 7
    (cond (is_frame bytes && names_past s (message_in bytes)) 8 (cond (overflows a (receive bytes s)) 5 0)))))
unfolding receive arrive_read reading
receive_checks a bytes s = go (is_frame bytes) (arrive_checks a s (message_in bytes))
  where
    m : Message
    m = message_in bytes

    go : (b : Bool)
        → comes_to a (arrive m s)
        ≡ cond (astray s m) 2 (cond (of_own_term s m) 6 (cond (cuts s m) 7 (cond (names_past s m) 8 (cond (overflows a (arrive m s)) 5 0))))
        → comes_to a (arrive_read (cond b (frame m) refused) s)
        ≡ cond (not b) 1
        (cond (b && astray s m) 2
        (cond (b && of_own_term s m) 6
        (cond (b && cuts s m) 7
        (cond (b && names_past s m) 8 (cond (overflows a (arrive_read (cond b (frame m) refused) s)) 5 0)))))
    go true h = h
    go false h = refl

-- ---- the call

-- the rows behind 12
abbrev behind : List (Row Asked)
behind =
    row 1 not_one_frame ∷ row 2 not_for_this_box ∷ row 3 not_leader ∷ row 13 client_blank ∷ row 4 log_full ∷ row 9 in_last_term
    ∷ row 6 second_leader ∷ row 7 would_cut ∷ row 8 past_its_log ∷ row 5 too_long ∷ []

step-first : (e : Event) (b : Record) (terms orders journal messages : List ℕ) → good (state_of b terms orders) ≡ true
    → comes_to (record { event = e; box = b; terms = terms; orders = orders; journal = journal; messages = messages }) (step e (state_of b terms orders))
    ≡ first behind (record { event = e; box = b; terms = terms; orders = orders; journal = journal; messages = messages })
unfolding step first
step-first times_out b terms orders journal messages h =
    timeout_checks (record { event = times_out; box = b; terms = terms; orders = orders; journal = journal; messages = messages }) (state_of b terms orders)
step-first (takes_order o) b terms orders journal messages h =
    order_checks (record { event = takes_order o; box = b; terms = terms; orders = orders; journal = journal; messages = messages }) o (state_of b terms orders) h
step-first is_prompted b terms orders journal messages h =
    prompt_checks (record { event = is_prompted; box = b; terms = terms; orders = orders; journal = journal; messages = messages }) (state_of b terms orders)
step-first (receives bytes) b terms orders journal messages h =
    receive_checks (record { event = receives bytes; box = b; terms = terms; orders = orders; journal = journal; messages = messages }) bytes (state_of b terms orders)

-- **A call answers the number of the first row that holds, in 01's order of checking.**
pub answers-first : (a : Asked) → (left_by a).answer.refusal ≡ first checked a
unfolding call first
answers-first a = go (good (state a)) refl
  where
    go : (g : Bool) → good (state a) ≡ g
        → (cond g (run (step a.event (state a)) a.box a.terms a.orders a.journal a.messages)
        (untouched 12 a.box a.terms a.orders a.journal a.messages)).answer.refusal
        ≡ cond (not g) 12 (first behind a)
    go true h =
        run-number a (step a.event (state a)) ∙ step-first a.event a.box a.terms a.orders a.journal a.messages h
    go false h = refl

-- what is exact of a number is exact of one that is the same
carried : {Q : Type 0} {x y : ℕ} (n : ℕ) → x ≡ y → Exactly (y ≡ n) Q → Exactly (x ≡ n) Q
carried n e q = record { only = λ p. q.only (sym e ∙ p); when = λ h. e ∙ q.when h }

-- **01's table, of every call.**
pub given_exactly_when : (a : Asked) → Table a
given_exactly_when a =
    let e = answers-first a in
    let r12 = row 12 breaks_a_rule in
    let r1 = row 1 not_one_frame in
    let r2 = row 2 not_for_this_box in
    let r3 = row 3 not_leader in
    let r13 = row 13 client_blank in
    let r4 = row 4 log_full in
    let r9 = row 9 in_last_term in
    let r6 = row 6 second_leader in
    let r7 = row 7 would_cut in
    let r8 = row 8 past_its_log in
    let r5 = row 5 too_long in
    record {
      row_0 = carried 0 e (at_none checked refl a);
      row_1 = carried 1 e (at_row 1 not_one_frame (r12 ∷ []) (r2 ∷ r3 ∷ r13 ∷ r4 ∷ r9 ∷ r6 ∷ r7 ∷ r8 ∷ r5 ∷ []) refl refl refl a);
      row_2 = carried 2 e (at_row 2 not_for_this_box (r12 ∷ r1 ∷ []) (r3 ∷ r13 ∷ r4 ∷ r9 ∷ r6 ∷ r7 ∷ r8 ∷ r5 ∷ []) refl refl refl a);
      row_3 = carried 3 e (at_row 3 not_leader (r12 ∷ r1 ∷ r2 ∷ []) (r13 ∷ r4 ∷ r9 ∷ r6 ∷ r7 ∷ r8 ∷ r5 ∷ []) refl refl refl a);
      row_4 = carried 4 e (at_row 4 log_full (r12 ∷ r1 ∷ r2 ∷ r3 ∷ r13 ∷ []) (r9 ∷ r6 ∷ r7 ∷ r8 ∷ r5 ∷ []) refl refl refl a);
      row_5 = carried 5 e (at_row 5 too_long (r12 ∷ r1 ∷ r2 ∷ r3 ∷ r13 ∷ r4 ∷ r9 ∷ r6 ∷ r7 ∷ r8 ∷ []) [] refl refl refl a);
      row_6 = carried 6 e (at_row 6 second_leader (r12 ∷ r1 ∷ r2 ∷ r3 ∷ r13 ∷ r4 ∷ r9 ∷ []) (r7 ∷ r8 ∷ r5 ∷ []) refl refl refl a);
      row_7 = carried 7 e (at_row 7 would_cut (r12 ∷ r1 ∷ r2 ∷ r3 ∷ r13 ∷ r4 ∷ r9 ∷ r6 ∷ []) (r8 ∷ r5 ∷ []) refl refl refl a);
      row_8 = carried 8 e (at_row 8 past_its_log (r12 ∷ r1 ∷ r2 ∷ r3 ∷ r13 ∷ r4 ∷ r9 ∷ r6 ∷ r7 ∷ []) (r5 ∷ []) refl refl refl a);
      row_9 = carried 9 e (at_row 9 in_last_term (r12 ∷ r1 ∷ r2 ∷ r3 ∷ r13 ∷ r4 ∷ []) (r6 ∷ r7 ∷ r8 ∷ r5 ∷ []) refl refl refl a);
      row_12 = carried 12 e (at_row 12 breaks_a_rule [] (r1 ∷ r2 ∷ r3 ∷ r13 ∷ r4 ∷ r9 ∷ r6 ∷ r7 ∷ r8 ∷ r5 ∷ []) refl refl refl a);
      row_13 = carried 13 e (at_row 13 client_blank (r12 ∷ r1 ∷ r2 ∷ r3 ∷ []) (r4 ∷ r9 ∷ r6 ∷ r7 ∷ r8 ∷ r5 ∷ []) refl refl refl a);
    }

-- everything as it was, but for the answer's number
abbrev left : Asked → ℕ → Called
left a n = untouched n a.box a.terms a.orders a.journal a.messages

run-untouched : (a : Asked) (o : Outcome) (n : ℕ) → 1 ≤ n
    → (run o a.box a.terms a.orders a.journal a.messages).answer.refusal ≡ n
    → run o a.box a.terms a.orders a.journal a.messages ≡ left a n
unfolding run calls.written
run-untouched a (done t sent) n l = go (fit (journaled (state a) t) (texts sent) a.journal a.messages) _ refl
  where
    go : (c : Bool) (x : Called) → x.answer.refusal ≡ 0 → (cond c x (left a 5)).answer.refusal ≡ n → cond c x (left a 5) ≡ left a n
    go true x z p = absurd (omega (arith, sym z ∙ p))
    go false x z p = ap (left a) p
run-untouched a (refuse number) n l = λ p. ap (left a) p

-- "A refusal leaves state, log, journal and output untouched."
pub refusal-untouched : (a : Asked) (n : ℕ) → 1 ≤ n → Answers a n → left_by a ≡ untouched n a.box a.terms a.orders a.journal a.messages
unfolding call
refusal-untouched a n l = go (good (state a)) _ (run-untouched a (step a.event (state a)) n l)
  where
    go : (g : Bool) (x : Called) → (x.answer.refusal ≡ n → x ≡ left a n) → (cond g x (left a 12)).answer.refusal ≡ n → cond g x (left a 12) ≡ left a n
    go true x f p = f p
    go false x f p = ap (left a) p

-- ---- starting, writing, and what is handed out

start_first : (a : Starting) → (begun a.me a.mask a.journal).answer.refusal ≡ first start_checked a
unfolding begun first
start_first a =
    rw (more_not (length (head a.me a.mask)) (length a.journal))
    (go (is_membership a.me a.mask) (leb (length (head a.me a.mask)) (length a.journal)) _ _ _ refl refl refl)
  where
    go : (m l : Bool) (x y z : Begun) → x.answer.refusal ≡ 0 → y.answer.refusal ≡ 5 → z.answer.refusal ≡ 12
        → (cond m (cond l x y) z).answer.refusal ≡ cond (not m) 12 (cond (not l) 5 0)
    go true true x y z p q r = p
    go true false x y z p q r = q
    go false l x y z p q r = r

-- **The table, of every start,**
pub start_exactly_when : (a : Starting) → StartTable a
start_exactly_when a =
    let e = start_first a in
    record {
      row_0 = carried 0 e (at_none start_checked refl a);
      row_5 = carried 5 e (at_row 5 head_too_long (row 12 bad_box_or_mask ∷ []) [] refl refl refl a);
      row_12 = carried 12 e (at_row 12 bad_box_or_mask [] (row 5 head_too_long ∷ []) refl refl refl a);
    }

write_first : (a : Writing) → code (written a.fields a.room).answer ≡ first write_checked a
unfolding written first
write_first a =
    rw (more_not (length (text (message_of a.fields))) (length a.room))
    (go (one_frame a.fields) (leb (length (text (message_of a.fields))) (length a.room)) _ _ _ refl refl refl)
  where
    go : (m l : Bool) (x y z : Wrote) → code x.answer ≡ 0 → code y.answer ≡ 5 → code z.answer ≡ 1
        → code (cond m (cond l x y) z).answer ≡ cond (not m) 1 (cond (not l) 5 0)
    go true true x y z p q r = p
    go true false x y z p q r = q
    go false l x y z p q r = r

-- **of every frame that is written,**
pub write_exactly_when : (a : Writing) → WriteTable a
write_exactly_when a =
    let e = write_first a in
    record {
      row_0 = carried 0 e (at_none write_checked refl a);
      row_1 = carried 1 e (at_row 1 not_fields [] (row 5 frame_too_long ∷ []) refl refl refl a);
      row_5 = carried 5 e (at_row 5 frame_too_long (row 1 not_fields ∷ []) [] refl refl refl a);
    }

hand_first : (a : Handing) → (handed a.box a.terms a.orders).refusal ≡ first hand_checked a
unfolding handed first
hand_first a = go (good (state_of a.box a.terms a.orders)) _ _ refl refl
  where
    go : (g : Bool) (x y : HandedTold) → x.refusal ≡ 0 → y.refusal ≡ 12 → (cond g x y).refusal ≡ cond (not g) 12 0
    go true x y p q = p
    go false x y p q = q

-- **and of asking what is handed out.**
pub hand_exactly_when : (a : Handing) → HandTable a
hand_exactly_when a =
    let e = hand_first a in
    record {
      row_0 = carried 0 e (at_none hand_checked refl a);
      row_12 = carried 12 e (at_row 12 bad_record [] [] refl refl refl a);
    }

-- ---- what "would cut at or below commit" says

-- **At a good record whose log does not lack the previous entry, alarm 7's test is that the log that the append would leave no longer begins with all that is
-- handed out**: the two logs have fewer entries in common, from the front, than commit.
pub cuts-handed_out : (s : State) (index prior : ℕ) (es : List Entry) → good s ≡ true → lacks s.log index prior ≡ false
    → cuts_committed s index es ≡ ltb (kept s.log (joined s.log index es)) s.commit
unfolding cuts_committed
cuts-handed_out s index prior es h l = go (passes s.log index es) refl
  where
    go : (b : Bool) → passes s.log index es ≡ b
        → (not b && ltb (stop s.log index es) s.commit) ≡ ltb (kept s.log (joined s.log index es)) s.commit
    go true p =
        rw (joined_same s.log index es p, kept_self s.log, le-ltb (length s.log) s.commit (good-facts s h).commit)
    go false p = rw (kept-joined s.log index es (lacks-not s.log index prior l).0 p)
