-- Each message that a good record's step sends obeys 01's rules for frames. (FitLaws: its numbers fit their fields.) Assumes nothing.
use Rattle.std.specs.Prelude.{ℕ, zero, suc, ◌+◌, ◌-◌, ◌≤◌, ◌<◌, ◌≡◌, refl, Bool, true, false, cond, List, [], ◌∷◌, length, get_or, take, drop}
use Rattle.std.proofs.Common.{arith, length-take, length-drop, le-leb, lt-ltb, ne_eqb}
use Rattle.frames.specs.declared.Entry.{Entry}
use Rattle.frames.specs.Limits.{boxes, log_limit, entry_limit}
use Rattle.frames.specs.Message.{Message}
use Rattle.frames.specs.Rules.{is_start, is_pair, in_order, obeys}
use Rattle.frames.specs.Fields.{no_entry}
use Rattle.raft.specs.Record.{State, leader, last_index, last_term, term_at, of_box, is_other, good}
use Rattle.raft.specs.Commit.{settle}
use Rattle.raft.specs.Sends.{vote_request_to, append_after, append_to, to_others, vote_requests, appends}
use Rattle.raft.specs.Outcome.{done}
use Rattle.raft.specs.Timeout.{standing, timeout}
use Rattle.raft.specs.Winning.{winner}
use Rattle.raft.specs.Order.{ordered, order}
use Rattle.raft.specs.Prompt.{prompt}
use Rattle.raft.proofs.RecordLaws.{range_box, Good, good-facts, member-facts, self_voted, leader-sent}
use Rattle.raft.proofs.StepLaws.{in_order-most, follows-facts, facts_follow, good-standing, good-settle, good-ordered, winner-leads, good-won, timeout-ends, order-ends, prompt-ends}

-- ---- the entry rule over parts of a log

-- it holds for the entries behind an index, from that entry's term on
pub in_order-drop : (term : ℕ) (log : List Entry) (n : ℕ) → n ≤ length log → in_order 0 term log ≡ true
    → in_order (term_at log n) term (drop n log) ≡ true
unfolding term_at
in_order-drop term log zero l h = h
in_order-drop term log (suc n) l h = behind 0 log n (omega arith) h
  where
    behind : (previous : ℕ) (log : List Entry) (n : ℕ) → n < length log → in_order previous term log ≡ true
        → in_order (get_or log n no_entry).term term (drop (suc n) log) ≡ true
    behind previous [] n l h = absurd (omega arith)
    behind previous (e ∷ es) zero l h = (follows-facts previous term e es h).rest
    behind previous (e ∷ es) (suc n) l h = behind e.term es n (omega arith) (follows-facts previous term e es h).rest

-- and for the first so many
pub in_order-take : (previous term : ℕ) (log : List Entry) (n : ℕ) → in_order previous term log ≡ true
    → in_order previous term (take n log) ≡ true
unfolding in_order
in_order-take previous term log zero h = le-leb _ _ (in_order-most previous term log h)
in_order-take previous term [] (suc n) h = h
in_order-take previous term (e ∷ es) (suc n) h =
    let f = follows-facts previous term e es h in
    facts_follow previous term e (take n es)
    (record { above = f.above; least = f.least; rising = f.rising; rest = in_order-take e.term term es n f.rest })

-- an entry's term is at least 1
pub term-least : (previous term : ℕ) (log : List Entry) (n : ℕ) → n < length log → in_order previous term log ≡ true
    → 1 ≤ (get_or log n no_entry).term
term-least previous term [] n l h = absurd (omega arith)
term-least previous term (e ∷ es) zero l h = (follows-facts previous term e es h).least
term-least previous term (e ∷ es) (suc n) l h = term-least e.term term es n (omega arith) (follows-facts previous term e es h).rest

-- and at most the box's
pub term-most : (term : ℕ) (log : List Entry) (n : ℕ) → n ≤ length log → in_order 0 term log ≡ true → term_at log n ≤ term
term-most term log n l h = in_order-most _ term (drop n log) (in_order-drop term log n l h)

-- so an index is 0 exactly when its term is
pub pair-there : (term : ℕ) (log : List Entry) (n : ℕ) → n ≤ length log → in_order 0 term log ≡ true → is_pair n (term_at log n) ≡ true
unfolding term_at
pair-there term log zero l h = refl
pair-there term log (suc n) l h =
    rw (ne_eqb (suc n) 0 (omega arith), le-leb 1 (suc n) (omega arith), le-leb _ _ (term-least 0 term log n (omega arith) h))

-- ---- one message

-- a frame between two boxes, in a term of at least 1, starts as a frame does
pub start-there : (s : State) → Good s → 1 ≤ s.term → (i : ℕ) → 1 ≤ i → i ≤ boxes → is_start s.me i s.term ≡ true
start-there s g t i l h =
    let m = member-facts s.me s.members g.membership in
    rw (range_box s.me m.least m.most, range_box i l h, le-leb 1 s.term t)

-- A vote request obeys, where the last entry's term is below the term:
pub request-obeys : (s : State) → Good s → last_term s < s.term → (i : ℕ) → 1 ≤ i → i ≤ boxes → obeys (vote_request_to s i) ≡ true
request-obeys s g t i l h =
    rw (
      start-there s g (omega arith) i l h,
      le-leb _ _ g.room,
      pair-there s.term s.log (last_index s) (omega arith) g.order,
      lt-ltb _ _ t,
    )

-- so it does for a box that stands, as it has just raised its term.
pub vote_request-obeys : (s : State) → Good s → (i : ℕ) → 1 ≤ i → i ≤ boxes → obeys (vote_request_to (standing s) i) ≡ true
unfolding standing
vote_request-obeys s g =
    request-obeys (standing s) (good-standing s g) (omega (arith, term-most s.term s.log (last_index s) (omega arith) g.order))

-- Up to four entries behind an index of the log are an append that obeys.
pub append_after-obeys : (s : State) → Good s → 1 ≤ s.term → (p : ℕ) → p ≤ last_index s → (i : ℕ) → 1 ≤ i → i ≤ boxes
    → obeys (append_after s p i) ≡ true
append_after-obeys s g t p l i least most =
    rw (
      start-there s g t i least most,
      le-leb p log_limit (omega arith),
      pair-there s.term s.log p l g.order,
      le-leb s.commit log_limit (omega arith),
      le-leb (length (take entry_limit (drop p s.log))) entry_limit (simp (length-take, length-drop) (omega arith)),
      le-leb (p + length (take entry_limit (drop p s.log))) log_limit (simp (length-take, length-drop) (omega arith)),
      in_order-take (term_at s.log p) s.term (drop p s.log) entry_limit (in_order-drop s.term s.log p l g.order),
    )

-- So a leader's append obeys.
pub append-obeys : (s : State) → Good s → s.role ≡ leader → (i : ℕ) → 1 ≤ i → i ≤ boxes → is_other s.me s.members i ≡ true
    → obeys (append_to s i) ≡ true
append-obeys s g r i l h o =
    append_after-obeys s g (self_voted s g (omega arith)).1 (of_box s.lead.next i - 1) (omega (arith, leader-sent s g r i l h o)) i l h

-- ---- every message of a step

-- Something holds of each part of a list.
unfoldable pub All : {A : Type 0} → (A → Type 0) → List A → Type 0
All P [] = Unit {0}
All P (x ∷ xs) = P x × All P xs

-- what holds of the message to each other member holds of all that are sent, from box i on
to_others-all : (P : Message → Type 0) (s : State) (message : ℕ → Message)
    → ((i : ℕ) → 1 ≤ i → i ≤ boxes → is_other s.me s.members i ≡ true → P (message i))
    → (i n : ℕ) → 1 ≤ i → i + n ≤ suc boxes → All P (to_others s message i n)
unfolding to_others All
to_others-all P s message each i zero l h = tt
to_others-all P s message each i (suc n) l h =
    go (is_other s.me s.members i) refl (to_others-all P s message each (suc i) n (omega arith) (omega arith))
  where
    go : (b : Bool) → is_other s.me s.members i ≡ b → All P (to_others s message (suc i) n)
        → All P (cond b (message i ∷ to_others s message (suc i) n) (to_others s message (suc i) n))
    go true o rest = (each i l (omega arith) o, rest)
    go false o rest = rest

-- so of all vote requests,
pub vote_requests-all : (P : Message → Type 0) (s : State)
    → ((i : ℕ) → 1 ≤ i → i ≤ boxes → is_other s.me s.members i ≡ true → P (vote_request_to s i)) → All P (vote_requests s)
unfolding vote_requests
vote_requests-all P s each = to_others-all P s (vote_request_to s) each 1 boxes (omega arith) (omega arith)

-- and of all appends
pub appends-all : (P : Message → Type 0) (s : State)
    → ((i : ℕ) → 1 ≤ i → i ≤ boxes → is_other s.me s.members i ≡ true → P (append_to s i)) → All P (appends s)
unfolding appends
appends-all P s each = to_others-all P s (append_to s) each 1 boxes (omega arith) (omega arith)

-- Every message of a list obeys the rules.
abbrev pub Obey : List Message → Type 0
Obey ms = All (λ m. obeys m ≡ true) ms

-- Vote requests obey,
pub vote_requests_obey : (s : State) → Good s → Obey (vote_requests (standing s))
vote_requests_obey s g = vote_requests-all _ (standing s) (λ i l h o. vote_request-obeys s g i l h)

-- and so do appends.
pub appends_obey : (s : State) → Good s → s.role ≡ leader → Obey (appends s)
appends_obey s g r = appends-all _ s (append-obeys s g r)

-- a leader that has settled its commit is a leader still
pub settled_obey : (s : State) → Good s → s.role ≡ leader → Obey (appends (settle s))
unfolding settle
settled_obey s g r = appends_obey (settle s) (good-settle s g) r

-- What a timeout of a good record sends obeys,
pub timeout-obeys : (s : State) → good s ≡ true → (t : State) (ms : List Message) → timeout s ≡ done t ms → Obey ms
unfolding All
timeout-obeys s h =
    let g = good-facts s h in
    timeout-ends (λ t ms. Obey ms) s (λ r. tt) (λ c m. settled_obey (winner (standing s)) (good-won s g) (winner-leads _))
    (λ c m. vote_requests_obey s g)

-- and what an order sends,
pub order-obeys : (o : ℕ) (s : State) → good s ≡ true → (t : State) (ms : List Message) → order o s ≡ done t ms → Obey ms
unfolding ordered
order-obeys o s h = order-ends (λ t ms. Obey ms) o s (λ r l. settled_obey (ordered s o) (good-ordered s o (good-facts s h) r l) r)

-- and what a prompt sends.
pub prompt-obeys : (s : State) → good s ≡ true → (t : State) (ms : List Message) → prompt s ≡ done t ms → Obey ms
prompt-obeys s h = prompt-ends (λ t ms. Obey ms) s (appends_obey s (good-facts s h))
