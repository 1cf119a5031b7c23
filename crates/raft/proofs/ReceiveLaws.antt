-- What a frame's bytes come to, case by case; and a good record stays good over them. Assumes nothing.
use Rattle.std.specs.Prelude.{ℕ, zero, suc, ◌+◌, ◌-◌, ◌≤◌, ◌<◌, max, min, ◌≡◌, refl, Bool, true, false, cond}
use Rattle.std.specs.Prelude.{◌&&◌, ◌||◌, List, [], ◌∷◌, ◌++◌, eqb, ltb, leb, length, get_or, take, drop, set}
use Rattle.std.proofs.Math.Decide.{dec_le, ℕ_discrete}
use Rattle.std.proofs.Common.{one-add, arith, sym, true≢false, append_assoc, take-add, get_or-set_other, eqb-true, ltb-true, ltb-false, leb-true, le-leb, lt-ltb, le-ltb, eq-eqb, ne_eqb}
use Rattle.std.proofs.lemmas.Bool.{eqb-false}
use Rattle.digits.specs.Tests.{and_left, and_right, and_both}
use Rattle.frames.specs.declared.Entry.{Entry}
use Rattle.frames.specs.Limits.{boxes, log_limit, entry_limit}
use Rattle.frames.specs.Message.{Message, vote_request, vote_answer, append, append_answer, table, IsSized}
use Rattle.frames.specs.Rules.{is_box, is_index, is_start, is_pair, in_order, obeys}
use Rattle.frames.specs.Fields.{no_entry}
use Rattle.frames.specs.Clauses.{four}
use Rattle.frames.specs.Reading.{Reading, frame, refused, reading}
use Rattle.frames.proofs.OneSpelling.{frame_exactly}
use Rattle.raft.specs.Majority.{bit, holds, majority, within}
use Rattle.raft.specs.Newer.{as_new}
use Rattle.raft.specs.Record.{State, follower, candidate, leader, last_index, last_term, term_at, of_box, is_other, is_vote, is_role, are_votes, is_progress, sends_to, has_progress, good}
use Rattle.raft.specs.Commit.{settle}
use Rattle.raft.specs.Sends.{append_to}
use Rattle.raft.specs.Outcome.{Outcome, done, refuse}
use Rattle.raft.specs.Winning.{winner, won}
use Rattle.raft.specs.AnyMessage.{taking, taken}
use Rattle.raft.specs.VoteRequest.{grants, voting, asked, vote_answer_to, on_vote_request}
use Rattle.raft.specs.Receive.{sender, receiver, term_of, stale, current, deliver, is_for, arrive, arrive_read, receive}
use Rattle.raft.specs.VoteAnswer.{adding, counted, counts, on_vote_answer}
use Rattle.raft.specs.Append.{lacks, agreed, stop, passes, joined, cuts_committed, following, joining, append_answer_to, on_append}
use Rattle.raft.specs.AppendAnswer.{match_after, next_heard, heard, sends_again, answered, hear, on_append_answer}
use Rattle.raft.proofs.MajorityLaws.{within-or, holds-or}
use Rattle.raft.proofs.CommitLaws.{by_test}
use Rattle.raft.proofs.RecordLaws.{box_range, range_box, Good, good-facts, facts-good, member-facts, self_voted, leader-sent}
use Rattle.raft.proofs.StepLaws.{in_order-later, follows-facts, facts_follow, own-bit, none-of_box, good-winner, good-settle, same-done, no_done, Led, won-led}
use Rattle.raft.proofs.SendLaws.{in_order-drop}
use Rattle.raft.proofs.JoinLaws.{stop-offered, joined_same, joined-long, passes-long, lacks-not}

-- ---- "Any message": the term taken

-- A higher term is taken,
pub taken-higher : (term : ℕ) (s : State) → s.term < term → taken term s ≡ taking term s
unfolding taken
taken-higher term s l = rw (lt-ltb s.term term l)

-- and no other.
pub taken-same : (term : ℕ) (s : State) → term ≤ s.term → taken term s ≡ s
unfolding taken
taken-same term s l = rw (le-ltb s.term term l)

-- what holds of the record with the term taken, and of the record where it is not higher, holds of what a message meets
pub taken-by : (P : State → Type 0) (term : ℕ) (s : State) → (s.term < term → P (taking term s)) → (term ≤ s.term → P s) → P (taken term s)
unfolding taken
taken-by P term s higher same =
    by_test P (ltb s.term term) (taking term s) s (λ e. higher (ltb-true _ _ e)) (λ e. same (ltb-false _ _ e))

-- The term is then no lower than the message's,
pub taken-least : (term : ℕ) (s : State) → term ≤ (taken term s).term
unfolding taking
taken-least term s = taken-by (λ t. term ≤ t.term) term s (λ l. omega arith) (λ l. l)

-- and the same where the box's own was not above it.
pub taken-term : (term : ℕ) (s : State) → s.term ≤ term → (taken term s).term ≡ term
unfolding taking
taken-term term s h = taken-by (λ t. t.term ≡ term) term s (λ l. refl) (λ l. omega arith)

-- The box, its membership, its log and its commit stay.
pub taken-keeps : (term : ℕ) (s : State)
    → ((taken term s).me ≡ s.me) × ((taken term s).members ≡ s.members) × ((taken term s).log ≡ s.log) × ((taken term s).commit ≡ s.commit)
unfolding taking
taken-keeps term s =
    taken-by (λ t. (t.me ≡ s.me) × (t.members ≡ s.members) × (t.log ≡ s.log) × (t.commit ≡ s.commit)) term s
    (λ l. (refl, refl, refl, refl)) (λ l. (refl, refl, refl, refl))

-- A box that is then no follower took none, and is in the message's term where its own was not above it.
pub taken_none : (term : ℕ) (s : State) (n : ℕ) → s.term ≤ term → (taken term s).role ≡ suc n
    → (taken term s ≡ s) × (s.term ≡ term) × (s.role ≡ suc n)
unfolding taking
taken_none term s n h =
    taken-by (λ t. t.role ≡ suc n → (t ≡ s) × (s.term ≡ term) × (s.role ≡ suc n)) term s
    (λ l r. absurd (omega arith)) (λ l r. (refl, omega arith, r))

-- ---- the events, case by case

-- What holds of an outcome's record and messages, where it is no refusal.
abbrev pub Ends : (State → List Message → Type 0) → Outcome → Type 0
Ends P o = (t : State) (ms : List Message) → o ≡ done t ms → P t ms

-- It holds of an outcome of which it is shown,
pub ends-done : (P : State → List Message → Type 0) (s : State) (ms : List Message) → P s ms → Ends P (done s ms)
ends-done P s ms p t ns e = same-done P s t ms ns e p

-- and a refusal has none.
pub ends-refuse : (P : State → List Message → Type 0) (n : ℕ) → Ends P (refuse n)
ends-refuse P n t ms e = no_done n t ms e

-- a box that won settles its commit and sends appends that carry it
ends-won : (P : State → List Message → Type 0) (s : State) → Led P (winner s) → Ends P (won s)
ends-won P s p = rw (won-led s) (ends-done P _ _ p)

-- What holds of a lower term's end, and of the kind's at the record with the term taken, holds of a message's end.
deliver-ends : (P : State → List Message → Type 0) (s : State) (m : Message) → (term_of m < s.term → Ends P (stale m s))
    → (s.term ≤ term_of m → Ends P (current m (taken (term_of m) s))) → Ends P (deliver m s)
unfolding deliver
deliver-ends P s m low rest =
    by_test (Ends P) (ltb (term_of m) s.term) _ _ (λ e. low (ltb-true _ _ e)) (λ e. rest (ltb-false _ _ e))

-- A yes is of the term taken, by a box that has voted for nobody else, to a log that is as new.
pub record Grants (s : State) (from term index prior : ℕ) : Type 0 where
  pub current : s.term ≤ term
  pub free : (eqb (taken term s).vote 0 || eqb (taken term s).vote from) ≡ true
  pub new : as_new index prior (last_index (taken term s)) (last_term (taken term s)) ≡ true

-- What holds of a yes and of a no holds of a vote request's record and answer.
pub vote_request-ends : (P : State → List Message → Type 0) (s : State) (from to term index prior : ℕ)
    → (Grants s from term index prior → P (voting (taken term s) from) (vote_answer_to (voting (taken term s) from) from true ∷ []))
    → P (taken term s) (vote_answer_to (taken term s) from false ∷ [])
    → Ends P (deliver (vote_request from to term index prior) s)
unfolding stale current term_of on_vote_request asked grants
vote_request-ends P s from to term index prior yeah nay =
    deliver-ends P s (vote_request from to term index prior)
    (λ l. ends-done P _ _ (rw (taken-same term s (omega arith)) at nay))
    (λ l. ends-done P _ _ (go l (grants (taken term s) from index prior) refl))
  where
    free : Bool
    free = eqb (taken term s).vote 0 || eqb (taken term s).vote from

    go : s.term ≤ term → (b : Bool) → grants (taken term s) from index prior ≡ b
        → P (cond b (voting (taken term s) from) (taken term s))
        (vote_answer_to (cond b (voting (taken term s) from) (taken term s)) from b ∷ [])
    go l true e = yeah (record { current = l; free = and_left free _ e; new = and_right free _ e })
    go l false e = nay

-- A vote answer that counts is a yes of the box's own term, at a candidate.
pub record Counts (s : State) (term reply : ℕ) : Type 0 where
  pub same : s.term ≡ term
  pub stands : s.role ≡ candidate
  pub said : reply ≡ 1

-- The test says this, and that no term was taken.
count-facts : (s : State) (term reply : ℕ) → s.term ≤ term → counts (taken term s) reply ≡ true → (taken term s ≡ s) × Counts s term reply
unfolding counts
count-facts s term reply l h =
    let o = taken_none term s 0 l (eqb-true _ _ (and_left (eqb (taken term s).role candidate) _ h)) in
    (o.0, record { same = o.1; stands = o.2; said = eqb-true _ _ (and_right (eqb (taken term s).role candidate) _ h) })

-- What holds of a box that wins by it, of one that does not, and of one that only takes the term, holds of a vote answer's end.
pub vote_answer-ends : (P : State → List Message → Type 0) (s : State) (from to term reply : ℕ)
    → (Counts s term reply → majority s.members (adding s from).votes ≡ true → Led P (winner (adding s from)))
    → (Counts s term reply → majority s.members (adding s from).votes ≡ false → P (adding s from) [])
    → P (taken term s) []
    → Ends P (deliver (vote_answer from to term reply) s)
unfolding stale current term_of on_vote_answer counted adding
vote_answer-ends P s from to term reply wins adds takes =
    deliver-ends P s (vote_answer from to term reply)
    (λ l. ends-done P _ _ (rw (taken-same term s (omega arith)) at takes))
    (λ l. by_test (Ends P) (counts (taken term s) reply) _ _
    (λ e. let f = count-facts s term reply l e in
    rw f.0 (by_test (Ends P) (majority s.members (adding s from).votes) _ _
    (λ m. ends-won P (adding s from) (wins f.1 m)) (λ m. ends-done P _ _ (adds f.1 m))))
    (λ e. ends-done P _ _ takes))

-- An append is looked at in a term that is no lower, by a box that does not lead in it.
pub record Looks (s : State) (term : ℕ) : Type 0 where
  pub current : s.term ≤ term
  pub unled : (taken term s).role ≡ leader → ⊥

-- What holds of the no to a lower term, of the no for want of the previous entry, and of the yes, holds of an append's end.
pub append-ends : (P : State → List Message → Type 0) (s : State) (from to term index prior commit : ℕ) (es : List Entry)
    → (term < s.term → P s (append_answer_to s from 0 false ∷ []))
    → (Looks s term → lacks (taken term s).log index prior ≡ true
    → P (following (taken term s)) (append_answer_to (following (taken term s)) from 0 false ∷ []))
    → (Looks s term → lacks (taken term s).log index prior ≡ false → cuts_committed (taken term s) index es ≡ false
    → P (joining (taken term s) index commit es) (append_answer_to (joining (taken term s) index commit es) from (index + length es) true ∷ []))
    → Ends P (deliver (append from to term index prior commit es) s)
unfolding stale current term_of on_append
append-ends P s from to term index prior commit es low wants joins =
    deliver-ends P s (append from to term index prior commit es) (λ l. ends-done P _ _ (low l))
    (λ l. by_test (Ends P) (eqb (taken term s).role leader) _ _ (λ r. ends-refuse P 6)
    (λ r. let looks : Looks s term = record { current = l; unled = eqb-false _ _ r } in
    by_test (Ends P) (lacks (taken term s).log index prior) _ _ (λ h. ends-done P _ _ (wants looks h))
    (λ h. by_test (Ends P) (cuts_committed (taken term s) index es) _ _ (λ c. ends-refuse P 7)
    (λ c. ends-done P _ _ (joins looks h c)))))

-- An append answer is heard in the leader's own term, and a yes names no index past its log.
pub record Hears (s : State) (term reply index : ℕ) : Type 0 where
  pub same : s.term ≡ term
  pub leads : s.role ≡ leader
  pub known : reply ≡ 1 → index ≤ last_index s

-- A leader that has heard an answer, its commit settled.
abbrev pub settled_heard : State → (from reply index : ℕ) → State
settled_heard s from reply index = settle (heard s from reply index)

-- What holds of a leader that sends an append again, of one that does not, and of a box that only takes the term, holds of an append
-- answer's end.
pub append_answer-ends : (P : State → List Message → Type 0) (s : State) (from to term reply index : ℕ)
    → (Hears s term reply index → sends_again (settled_heard s from reply index) from reply ≡ true
    → P (settled_heard s from reply index) (append_to (settled_heard s from reply index) from ∷ []))
    → (Hears s term reply index → sends_again (settled_heard s from reply index) from reply ≡ false → P (settled_heard s from reply index) [])
    → P (taken term s) []
    → Ends P (deliver (append_answer from to term reply index) s)
unfolding stale current term_of on_append_answer hear answered
append_answer-ends P s from to term reply index again ends takes =
    deliver-ends P s (append_answer from to term reply index)
    (λ l. ends-done P _ _ (rw (taken-same term s (omega arith)) at takes))
    (λ l. by_test (Ends P) (eqb (taken term s).role leader) _ _ (at-leader l) (λ e. ends-done P _ _ takes))
  where
    heard-ends : Hears s term reply index → Ends P (answered (settled_heard s from reply index) from reply)
    heard-ends h =
        ends-done P _ _
        (by_test (P (settled_heard s from reply index)) (sends_again (settled_heard s from reply index) from reply) _ _ (again h) (ends h))

    at-leader : s.term ≤ term → eqb (taken term s).role leader ≡ true → Ends P (hear (taken term s) from reply index)
    at-leader l e =
        let o = taken_none term s 1 l (eqb-true (taken term s).role leader e) in
        rw o.0 (by_test (Ends P) (eqb reply 1 && ltb (last_index s) index) _ _ (λ h. ends-refuse P 8)
        (λ h. heard-ends (record { same = o.1; leads = o.2; known = λ y. ltb-false (last_index s) index (rw (eq-eqb reply 1 y) at h) })))

-- ---- any bytes

-- The sender is one of the seven and another member, and a frame's term is at least 1.
pub record Sender (s : State) (from term : ℕ) : Type 0 where
  pub least : 1 ≤ from
  pub most : from ≤ boxes
  pub other : is_other s.me s.members from ≡ true
  pub early : 1 ≤ term

-- Another member is not the box itself, and is a member.
pub other-held : (me members i : ℕ) → is_other me members i ≡ true → (i ≡ me → ⊥) × (holds members i ≡ true)
unfolding is_other
other-held me members i h = go (eqb i me) refl h
  where
    go : (b : Bool) → eqb i me ≡ b → cond b false (holds members i) ≡ true → (i ≡ me → ⊥) × (holds members i ≡ true)
    go true e h = absurd (true≢false (sym h))
    go false e h = (eqb-false _ _ e, h)

-- A message arrives: it obeys the rules of frames, its numbers fit their fields, and another member sent it to this box.
pub record Arrives (s : State) (m : Message) : Type 0 where
  pub obeyed : obeys m ≡ true
  pub fits : IsSized (table m)
  pub mine : receiver m ≡ s.me
  pub other : is_other s.me s.members (sender m) ≡ true

-- What holds of each message that arrives holds of any bytes' end.
pub receive-ends : (P : State → List Message → Type 0) (s : State) → ((m : Message) → Arrives s m → Ends P (deliver m s))
    → (bytes : List ℕ) → Ends P (receive bytes s)
unfolding receive arrive_read arrive is_for
receive-ends P s each bytes = go (reading bytes) refl
  where
    go : (r : Reading) → reading bytes ≡ r → Ends P (arrive_read r s)
    go (frame m) e =
        let f = frame_exactly bytes m e in
        by_test (Ends P) (eqb (receiver m) s.me && is_other s.me s.members (sender m)) _ _
        (λ h. each m (record {
          obeyed = f.0;
          fits = f.1;
          mine = eqb-true _ _ (and_left (eqb (receiver m) s.me) _ h);
          other = and_right (eqb (receiver m) s.me) _ h;
        }))
        (λ h. ends-refuse P 2)
    go refused e = ends-refuse P 1

-- ---- what the rules of frames say of a message that arrives

-- a frame's start, clause by clause
start-facts : (s : State) (from to term : ℕ) → is_other s.me s.members from ≡ true → is_start from to term ≡ true → Sender s from term
start-facts s from to term o h =
    let t = four true (is_box from) (is_box to) (leb 1 term) h in
    record { least = (box_range from t.1).least; most = (box_range from t.1).most; other = o; early = leb-true _ _ t.3 }

-- A message that arrives has such a sender.
pub sent-by : (s : State) (m : Message) → Arrives s m → Sender s (sender m) (term_of m)
unfolding sender term_of
sent-by s (vote_request from to term index prior) a = start-facts s from to term a.other (four (is_start from to term) _ _ _ a.obeyed).0
sent-by s (vote_answer from to term reply) a = start-facts s from to term a.other (and_left (is_start from to term) _ a.obeyed)
sent-by s (append from to term index prior commit es) a =
    start-facts s from to term a.other
    (four (is_start from to term) (is_index index) (is_pair index prior) (is_index commit)
    (four (is_start from to term && is_index index && is_pair index prior && is_index commit) _ _ _ a.obeyed).0).0
sent-by s (append_answer from to term reply index) a = start-facts s from to term a.other (four (is_start from to term) _ _ _ a.obeyed).0

-- What an append offers: at most four entries, in order, and room for them.
pub record Offers (term index prior : ℕ) (es : List Entry) : Type 0 where
  pub pair : is_pair index prior ≡ true
  pub few : length es ≤ entry_limit
  pub room : index + length es ≤ log_limit
  pub order : in_order prior term es ≡ true

-- The rules of frames say this of it.
pub offer-facts : (from to term index prior commit : ℕ) (es : List Entry) → obeys (append from to term index prior commit es) ≡ true
    → Offers term index prior es
offer-facts from to term index prior commit es h =
    let t = four (is_start from to term && is_index index && is_pair index prior && is_index commit) _ _ _ h in
    record {
      pair = (four (is_start from to term) (is_index index) (is_pair index prior) (is_index commit) t.0).2;
      few = leb-true _ _ t.1;
      room = leb-true _ _ t.2;
      order = t.3;
    }

-- ---- the records that a message leads to

-- A good record that takes a term that is not below its own is good,
pub good-taking : (term : ℕ) (s : State) → Good s → s.term ≤ term → Good (taking term s)
unfolding taking is_vote is_role are_votes is_progress sends_to
good-taking term s g l =
    record {
      membership = g.membership;
      vote = refl;
      room = g.room;
      order = in_order-later 0 s.term term s.log l g.order;
      commit = g.commit;
      role = refl;
      votes = refl;
      sent = λ i l h. rw (none-of_box i l h);
    }

-- so it is whatever a message's term.
pub good-taken : (term : ℕ) (s : State) → Good s → Good (taken term s)
good-taken term s g = taken-by Good term s (λ l. good-taking term s g (omega arith)) (λ l. g)

-- a box that has voted for nobody is a follower
free-follows : (s : State) → Good s → s.vote ≡ 0 → s.role ≡ follower
free-follows s g e = go (dec_le 1 s.role)
  where
    go : Dec (1 ≤ s.role) → s.role ≡ follower
    go (yes r) = absurd (omega (arith, self_voted s g r, member-facts s.me s.members g.membership))
    go (no r) = omega arith

-- A vote for a member is good, where the vote was free or is for the same. (A candidate or leader has voted for itself.)
pub good-voting : (s : State) (from : ℕ) → Good s → 1 ≤ from → from ≤ boxes → holds s.members from ≡ true
    → (eqb s.vote 0 || eqb s.vote from) ≡ true → Good (voting s from)
unfolding voting is_vote is_role sends_to
good-voting s from g l h m free =
    record {
      membership = g.membership;
      vote = rw (ne_eqb from 0 (omega arith), range_box from l h, m);
      room = g.room;
      order = g.order;
      commit = g.commit;
      role = go (eqb s.vote 0) refl free;
      votes = g.votes;
      sent = g.sent;
    }
  where
    go : (a : Bool) → eqb s.vote 0 ≡ a → (a || eqb s.vote from) ≡ true → is_role s.role s.term from s.me ≡ true
    go true p f = rw (free-follows s g (eqb-true _ _ p))
    go false p f = rw (eqb-true s.vote from f) at g.role

-- A candidate with one more member's vote is good.
pub good-adding : (s : State) (from : ℕ) → Good s → s.role ≡ candidate → 1 ≤ from → from ≤ boxes → holds s.members from ≡ true
    → Good (adding s from)
unfolding adding are_votes sends_to
good-adding s from g r l h m =
    let had = rw r at g.votes in
    let one = own-bit from s.members (record { least = l; most = h; mask = (member-facts _ _ g.membership).mask; held = m }) in
    record {
      membership = g.membership;
      vote = g.vote;
      room = g.room;
      order = g.order;
      commit = g.commit;
      role = g.role;
      votes = rw r
          (and_both _ _ (within-or s.votes (bit from) s.members (and_left (within s.votes s.members) _ had) (and_left _ _ one))
          (holds-or s.votes (bit from) s.me (and_right (within s.votes s.members) _ had)));
      sent = g.sent;
    }

-- A box that follows is good.
pub good-following : (s : State) → Good s → Good (following s)
unfolding following is_role are_votes is_progress sends_to
good-following s g =
    record {
      membership = g.membership;
      vote = g.vote;
      room = g.room;
      order = g.order;
      commit = g.commit;
      role = refl;
      votes = refl;
      sent = λ i l h. rw (none-of_box i l h);
    }

-- ---- the joined log

-- behind an entry that is in order may stand what is in order behind it
in_order-front : (previous term : ℕ) (e : Entry) (es more : List Entry) → in_order previous term (e ∷ es) ≡ true
    → (in_order e.term term es ≡ true → in_order e.term term more ≡ true) → in_order previous term (e ∷ more) ≡ true
in_order-front previous term e es more h next =
    let f = follows-facts previous term e es h in
    facts_follow previous term e more (record { above = f.above; least = f.least; rising = f.rising; rest = next f.rest })

-- so behind the first entries of a log,
pub in_order-behind : (term : ℕ) (log : List Entry) (n : ℕ) (more : List Entry) → n ≤ length log → in_order 0 term log ≡ true
    → in_order (term_at log n) term more ≡ true → in_order 0 term (take n log ++ more) ≡ true
unfolding term_at
in_order-behind term log zero more l p q = q
in_order-behind term log (suc n) more l p q = behind 0 log n (omega arith) p q
  where
    behind : (previous : ℕ) (log : List Entry) (n : ℕ) → n < length log → in_order previous term log ≡ true
        → in_order (get_or log n no_entry).term term more ≡ true → in_order previous term (take (suc n) log ++ more) ≡ true
    behind previous [] n l p q = absurd (omega arith)
    behind previous (e ∷ es) zero l p q = in_order-front previous term e es more p (λ r. q)
    behind previous (e ∷ es) (suc n) l p q =
        in_order-front previous term e es (take (suc n) es ++ more) p (λ r. behind e.term es n (omega arith) r q)

-- and behind those that the search has passed, where those that are offered are in order too.
in_order_passed : (previous term : ℕ) (held es : List Entry) → in_order previous term held ≡ true → in_order previous term es ≡ true
    → in_order previous term (take (agreed held es) held ++ drop (agreed held es) es) ≡ true
unfolding agreed
in_order_passed previous term held [] p q = q
in_order_passed previous term [] (e ∷ es) p q = q
in_order_passed previous term (h ∷ held) (e ∷ es) p q = go (eqb h.term e.term) refl (in_order_passed h.term term held es)
  where
    go : (b : Bool) → eqb h.term e.term ≡ b
        → (in_order h.term term held ≡ true → in_order h.term term es ≡ true
        → in_order h.term term (take (agreed held es) held ++ drop (agreed held es) es) ≡ true)
        → in_order previous term (take (agreed (h ∷ held) (e ∷ es)) (h ∷ held) ++ drop (agreed (h ∷ held) (e ∷ es)) (e ∷ es)) ≡ true
    go true t rest =
        rw (t, one-add)
        (in_order-front previous term h held _ p (λ r. rest r (rw (eqb-true h.term e.term t) (follows-facts previous term e es q).rest)))
    go false t rest = rw t q

-- Where the log does not lack the entry before those that are offered, its term is the one that was named.
pub prior-there : (log : List Entry) (index prior : ℕ) → lacks log index prior ≡ false → is_pair index prior ≡ true → term_at log index ≡ prior
unfolding term_at
prior-there log zero prior n h = go (eqb prior 0) refl h
  where
    go : (b : Bool) → eqb prior 0 ≡ b → (b || false) ≡ true → 0 ≡ prior
    go true e h = sym (eqb-true _ _ e)
    go false e h = absurd (true≢false (sym h))
prior-there log (suc i) prior n h = (lacks-not log (suc i) prior n).1 (omega arith)

-- A log in order stays so where entries are joined to it that are in order behind the entry before them.
pub joined-order : (term : ℕ) (log : List Entry) (index prior : ℕ) (es : List Entry) → lacks log index prior ≡ false
    → Offers term index prior es → in_order 0 term log ≡ true → in_order 0 term (joined log index es) ≡ true
unfolding joined stop
joined-order term log index prior es n o h =
    by_test (λ l. in_order 0 term l ≡ true) (passes log index es) log _ (λ p. h)
    (λ p. rw (take-add index (agreed (drop index log) es) log, append_assoc)
    (in_order-behind term log index _ (lacks-not log index prior n).0 h
    (in_order_passed (term_at log index) term (drop index log) es (in_order-drop term log index (lacks-not log index prior n).0 h)
    (rw (prior-there log index prior n o.pair) o.order))))

-- A good record with what an append of its term offers is good, where it does not lack the previous entry and nothing is cut at or below
-- commit.
pub good-joining : (s : State) (index prior commit : ℕ) (es : List Entry) → Good s → lacks s.log index prior ≡ false
    → cuts_committed s index es ≡ false → Offers s.term index prior es → Good (joining s index commit es)
unfolding joining cuts_committed is_role are_votes is_progress sends_to
good-joining s index prior commit es g n c o =
    record {
      membership = g.membership;
      vote = g.vote;
      room = (long (passes s.log index es) refl).0;
      order = joined-order s.term s.log index prior es n o g.order;
      commit = (long (passes s.log index es) refl).1;
      role = refl;
      votes = refl;
      sent = λ i l h. rw (none-of_box i l h);
    }
  where
    l : index ≤ length s.log
    l = (lacks-not s.log index prior n).0

    long : (b : Bool) → passes s.log index es ≡ b
        → (length (joined s.log index es) ≤ log_limit)
        × (max s.commit (min commit (index + length es)) ≤ length (joined s.log index es))
    long true p = rw (joined_same s.log index es p) (omega (arith, passes-long s.log index es l p))
    long false p =
        rw (joined-long s.log index es l p)
        (omega (arith, ltb-false (stop s.log index es) s.commit (rw p at c), stop-offered s.log index es, o.room))

-- ---- next and match

-- what is kept for a box, replaced, is at most what it is replaced by
pub set-most : (l : List ℕ) (i n : ℕ) → get_or (set l i n) i 0 ≤ n
set-most [] i n = omega arith
set-most (x ∷ l) zero n = omega arith
set-most (x ∷ l) (suc i) n = set-most l i n

-- and it is that, where something was kept
set_there : (l : List ℕ) (i n : ℕ) → 1 ≤ get_or l i 0 → get_or (set l i n) i 0 ≡ n
set_there [] i n h = absurd (omega arith)
set_there (x ∷ l) zero n h = refl
set_there (x ∷ l) (suc i) n h = set_there l i n h

-- what lies so is what the rule asks for
facts-sent : (last next matched : ℕ) → matched < next → next ≤ last + 1 → is_progress true last next matched ≡ true
unfolding is_progress
facts-sent last next matched l h = rw (lt-ltb _ _ l, le-leb _ _ h)

-- match stays below next, and next at most one past the last index, where a yes names no index past it
heard_range : (last reply index next matched : ℕ) → matched < next → next ≤ last + 1 → (reply ≡ 1 → index ≤ last)
    → (match_after reply index matched < next_heard reply next (match_after reply index matched))
    × (next_heard reply next (match_after reply index matched) ≤ last + 1)
unfolding match_after next_heard
heard_range last reply index next matched l h k = go (eqb reply 1) refl
  where
    go : (b : Bool) → eqb reply 1 ≡ b
        → (match_after reply index matched < next_heard reply next (match_after reply index matched))
        × (next_heard reply next (match_after reply index matched) ≤ last + 1)
    go true e = rw e (omega (arith, k (eqb-true _ _ e)))
    go false e = rw e (omega arith)

-- A leader that has heard another member, and of no index past its log, is good.
pub good-heard : (s : State) (from reply index : ℕ) → Good s → s.role ≡ leader → 1 ≤ from → from ≤ boxes
    → is_other s.me s.members from ≡ true → (reply ≡ 1 → index ≤ last_index s) → Good (heard s from reply index)
unfolding heard sends_to
good-heard s from reply index g r l h o k =
    record {
      membership = g.membership;
      vote = g.vote;
      room = g.room;
      order = g.order;
      commit = g.commit;
      role = g.role;
      votes = g.votes;
      sent = λ i a b. go i a b (ℕ_discrete i from);
    }
  where
    go : (i : ℕ) → 1 ≤ i → i ≤ boxes → Dec (i ≡ from) → has_progress (heard s from reply index) i ≡ true
    go i a b (yes e) =
        let f = leader-sent s g r from l h o in
        let t = heard_range (last_index s) reply index (of_box s.lead.next from) (of_box s.lead.matched from) f.0 f.1 k in
        let low = set-most s.lead.matched (from - 1) (match_after reply index (of_box s.lead.matched from)) in
        rw (e, r, o, set_there s.lead.next (from - 1) _ (omega arith)) (facts-sent _ _ _ (omega arith) t.1)
    go i a b (no e) =
        let apart : (i - 1 ≡ from - 1 → ⊥) = λ x. e (omega arith) in
        rw (get_or-set_other s.lead.next (from - 1) (i - 1) _ 0 apart, get_or-set_other s.lead.matched (from - 1) (i - 1) _ 0 apart) (g.sent i a b)

-- ---- A good record stays good

-- A box that grants another member its vote is good.
pub good-granted : (s : State) (from term index prior : ℕ) → Good s → Sender s from term → Grants s from term index prior
    → Good (voting (taken term s) from)
good-granted s from term index prior g d y =
    good-voting (taken term s) from (good-taken term s g) d.least d.most
    (rw (taken-keeps term s).1 (other-held s.me s.members from d.other).1) y.free

-- A candidate that counts a vote is good,
pub good-counted : (s : State) (from term reply : ℕ) → Good s → Sender s from term → Counts s term reply → Good (adding s from)
good-counted s from term reply g d c =
    good-adding s from g c.stands d.least d.most (other-held s.me s.members from d.other).1

-- and so is one that wins by it.
pub good_elected : (s : State) (from term reply : ℕ) → Good s → Sender s from term → Counts s term reply → Good (winner (adding s from))
unfolding adding
good_elected s from term reply g d c = good-winner (adding s from) (good-counted s from term reply g d c) c.stands

-- A box that joins what a frame offers is good.
pub good-joined : (s : State) (term index prior commit : ℕ) (es : List Entry) → Good s → s.term ≤ term
    → lacks (taken term s).log index prior ≡ false → cuts_committed (taken term s) index es ≡ false → Offers term index prior es
    → Good (joining (taken term s) index commit es)
good-joined s term index prior commit es g l n c o =
    good-joining (taken term s) index prior commit es (good-taken term s g) n c (rw (taken-term term s l) o)

-- A leader that has heard an answer is good, its commit settled.
pub good-settled_heard : (s : State) (from term reply index : ℕ) → Good s → Sender s from term → Hears s term reply index
    → Good (settled_heard s from reply index)
good-settled_heard s from term reply index g d h =
    good-settle (heard s from reply index) (good-heard s from reply index g h.leads d.least d.most d.other h.known)

-- It stays good over each message that arrives,
pub deliver-good : (s : State) → Good s → (m : Message) → Arrives s m → Ends (λ t ms. Good t) (deliver m s)
unfolding sender term_of
deliver-good s g (vote_request from to term index prior) a =
    vote_request-ends (λ t ms. Good t) s from to term index prior
    (good-granted s from term index prior g (sent-by s (vote_request from to term index prior) a)) (good-taken term s g)
deliver-good s g (vote_answer from to term reply) a =
    let d = sent-by s (vote_answer from to term reply) a in
    vote_answer-ends (λ t ms. Good t) s from to term reply (λ c m. good-settle _ (good_elected s from term reply g d c))
    (λ c m. good-counted s from term reply g d c) (good-taken term s g)
deliver-good s g (append from to term index prior commit es) a =
    append-ends (λ t ms. Good t) s from to term index prior commit es (λ l. g) (λ l n. good-following _ (good-taken term s g))
    (λ l n c. good-joined s term index prior commit es g l.current n c (offer-facts from to term index prior commit es a.obeyed))
deliver-good s g (append_answer from to term reply index) a =
    let d = sent-by s (append_answer from to term reply index) a in
    append_answer-ends (λ t ms. Good t) s from to term reply index (λ h b. good-settled_heard s from term reply index g d h)
    (λ h b. good-settled_heard s from term reply index g d h) (good-taken term s g)

-- and so over any bytes.
pub receive-good : (bytes : List ℕ) (s : State) → good s ≡ true → (t : State) (ms : List Message) → receive bytes s ≡ done t ms → good t ≡ true
receive-good bytes s h t ms e = facts-good t (receive-ends (λ t ms. Good t) s (deliver-good s (good-facts s h)) bytes t ms e)
