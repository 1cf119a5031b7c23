-- A good record stays good over every step. Assumes nothing.
use Rattle.std.specs.Prelude.{ℕ, zero, suc, ◌+◌, ◌≤◌, ◌<◌, ◌≡◌, refl, Bool, true, false, not, cond, ◌&&◌, ◌||◌, List, [], ◌∷◌, ◌++◌, eqb, leb}
use Rattle.std.proofs.Math.Decide.{dec_le}
use Rattle.std.proofs.Common.{arith, sym, ◌∙◌, length-append, eqb-true, leb-true, leb-false, le-leb, lt-ltb, eq-eqb, ne_eqb}
use Rattle.std.proofs.lemmas.Bool.{eqb-false, lt-leb}
use Rattle.digits.specs.Tests.{or_right, each_below, at_each}
use Rattle.frames.specs.declared.Entry.{Entry}
use Rattle.frames.specs.Limits.{boxes, masks, log_limit}
use Rattle.frames.specs.Message.{Message}
use Rattle.frames.specs.Rules.{in_order}
use Rattle.frames.specs.Clauses.{four}
use Rattle.raft.specs.Majority.{bit, holds, majority, within}
use Rattle.raft.specs.Record.{State, candidate, leader, last_index, of_box, is_other, zeros, is_vote, is_role, are_votes, is_progress, sends_to, has_progress, good}
use Rattle.raft.specs.Commit.{settle}
use Rattle.raft.specs.Sends.{vote_requests, appends}
use Rattle.raft.specs.Outcome.{done, refuse}
use Rattle.raft.specs.Timeout.{last_of_terms, standing, timeout}
use Rattle.raft.specs.Led.{led}
use Rattle.raft.specs.Order.{is_full, ordered, blank, order}
use Rattle.raft.specs.Winning.{next_after, leading, with_blank, winner, won}
use Rattle.raft.specs.Prompt.{prompt}
use Rattle.raft.proofs.RecordLaws.{at-box, range_box, sent-facts, Good, good-facts, facts-good, Member, member-facts, self_voted}
use Rattle.raft.proofs.CommitLaws.{settled-most}

-- ---- the entry rule over a longer log and a later term

-- What the rule says of a first entry and those behind it.
pub record Follows (previous term : ℕ) (e : Entry) (es : List Entry) : Type 0 where
  pub above : previous ≤ term
  pub least : 1 ≤ e.term
  pub rising : previous ≤ e.term
  pub rest : in_order e.term term es ≡ true

-- The rule says this,
pub follows-facts : (previous term : ℕ) (e : Entry) (es : List Entry) → in_order previous term (e ∷ es) ≡ true → Follows previous term e es
unfolding in_order
follows-facts previous term e es h =
    let t = four (leb previous term) (leb 1 e.term) (leb previous e.term) _ h in
    record { above = leb-true _ _ t.0; least = leb-true _ _ t.1; rising = leb-true _ _ t.2; rest = t.3 }

-- and no more.
pub facts_follow : (previous term : ℕ) (e : Entry) (es : List Entry) → Follows previous term e es → in_order previous term (e ∷ es) ≡ true
unfolding in_order
facts_follow previous term e es f = rw (le-leb _ _ f.above, le-leb _ _ f.least, le-leb _ _ f.rising, f.rest)

-- the previous term is at most the term
pub in_order-most : (previous term : ℕ) (log : List Entry) → in_order previous term log ≡ true → previous ≤ term
unfolding in_order
in_order-most previous term [] h = leb-true _ _ h
in_order-most previous term (e ∷ es) h = (follows-facts previous term e es h).above

-- the rule holds in a later term too
pub in_order-later : (previous term later : ℕ) (log : List Entry) → term ≤ later → in_order previous term log ≡ true
    → in_order previous later log ≡ true
unfolding in_order
in_order-later previous term later [] l h = le-leb previous later (omega (arith, leb-true previous term h))
in_order-later previous term later (e ∷ es) l h =
    let f = follows-facts previous term e es h in
    facts_follow previous later e es
    (record { above = omega arith; least = f.least; rising = f.rising; rest = in_order-later e.term term later es l f.rest })

-- and with an entry of the current term behind the log
pub in_order_more : (previous term : ℕ) (log : List Entry) (o : ℕ) → 1 ≤ term → in_order previous term log ≡ true
    → in_order previous term (log ++ (record { term = term; order = o } ∷ [])) ≡ true
unfolding in_order
in_order_more previous term [] o l h = rw (h, le-leb _ _ l, le-leb term term (omega arith))
in_order_more previous term (e ∷ es) o l h =
    let f = follows-facts previous term e es h in
    facts_follow previous term e (es ++ (record { term = term; order = o } ∷ []))
    (record { above = f.above; least = f.least; rising = f.rising; rest = in_order_more e.term term es o l f.rest })

-- ---- one's own bit, by a computed test over the masks and boxes

-- a mask that holds box j + 1 has its bit, and the bit is the box's
abbrev own_bit_test : ℕ → ℕ → Bool
own_bit_test mask j = not (holds mask (suc j)) || (within (bit (suc j)) mask && holds (bit (suc j)) (suc j))

-- the mask of one box holds it, and stays within each mask that holds it
pub own-bit : (me members : ℕ) → Member me members → (within (bit me) members && holds (bit me) me) ≡ true
unfolding holds
own-bit zero members m = absurd (omega arith)
own-bit (suc j) members m =
    or_right (holds members (suc j)) _ m.held
    (at_each (own_bit_test members) boxes
    (at_each (λ mask. each_below (own_bit_test mask) boxes) masks refl members m.mask) j (omega arith))

-- ---- next and match

-- where nothing was sent, next and match are 0
pub none-of_box : (i : ℕ) → 1 ≤ i → i ≤ boxes → of_box zeros i ≡ 0
none-of_box = at-box (λ i. of_box zeros i ≡ 0) refl refl refl refl refl refl refl

-- next and match stay good where the log grows
pub progress_grows : (sends : Bool) (last more next matched : ℕ) → last ≤ more → is_progress sends last next matched ≡ true
    → is_progress sends more next matched ≡ true
unfolding is_progress
progress_grows true last more next matched l h =
    let f = sent-facts last next matched h in
    rw (lt-ltb _ _ f.0, le-leb next (more + 1) (omega arith))
progress_grows false last more next matched l h = h

-- next and match of a box that begins to lead are good
pub progress_new : (sends : Bool) (last : ℕ) → is_progress sends last (cond sends (last + 1) 0) 0 ≡ true
unfolding is_progress
progress_new true last = rw (lt-ltb 0 (last + 1) (omega arith), le-leb (last + 1) (last + 1) (omega arith))
progress_new false last = refl

-- ---- a step's record

-- A box that stands is good. (The term's limit and the role before are the event's business.)
pub good-standing : (s : State) → Good s → Good (standing s)
unfolding standing is_vote is_role are_votes is_progress sends_to
good-standing s g =
    let m = member-facts s.me s.members g.membership in
    record {
      membership = g.membership;
      vote = rw (ne_eqb s.me 0 (omega arith), range_box s.me m.least m.most, m.held);
      room = g.room;
      order = in_order-later 0 s.term (s.term + 1) s.log (omega arith) g.order;
      commit = g.commit;
      role = rw (eq-eqb s.me s.me refl, le-leb 1 (s.term + 1) (omega arith));
      votes = own-bit s.me s.members m;
      sent = λ i l h. rw (none-of_box i l h);
    }

-- A candidate that begins to lead is good.
pub good-leading : (s : State) → Good s → s.role ≡ candidate → Good (leading s)
unfolding leading is_role are_votes sends_to
good-leading s g r =
    let v = self_voted s g (omega arith) in
    record {
      membership = g.membership;
      vote = g.vote;
      room = g.room;
      order = g.order;
      commit = g.commit;
      role = rw (eq-eqb _ _ v.0, le-leb _ _ v.1);
      votes = refl;
      sent = at-box (λ i. has_progress (leading s) i ≡ true) (new 1) (new 2) (new 3) (new 4) (new 5) (new 6) (new 7);
    }
  where
    new : (i : ℕ) → is_progress (is_other s.me s.members i) (last_index s) (next_after s i) 0 ≡ true
    new i = progress_new (is_other s.me s.members i) (last_index s)

-- A record with its commit settled is good.
pub good-settle : (s : State) → Good s → Good (settle s)
unfolding settle sends_to
good-settle s g =
    record {
      membership = g.membership;
      vote = g.vote;
      room = g.room;
      order = g.order;
      commit = settled-most s g.commit;
      role = g.role;
      votes = g.votes;
      sent = g.sent;
    }

-- A leader with one entry more is good, where there was room for it.
pub good-ordered : (s : State) (o : ℕ) → Good s → s.role ≡ leader → last_index s < log_limit → Good (ordered s o)
unfolding ordered sends_to
good-ordered s o g r l =
    record {
      membership = g.membership;
      vote = g.vote;
      room = rw length-append (omega arith);
      order = in_order_more 0 s.term s.log o (self_voted s g (omega arith)).1 g.order;
      commit = rw length-append (omega arith);
      role = g.role;
      votes = g.votes;
      sent = λ i l h. progress_grows (sends_to s i) (last_index s) _ _ _ (rw length-append (omega arith)) (g.sent i l h);
    }

-- ---- a box that wins

-- With a full log it leads, and nothing is added;
pub winner_full : (s : State) → log_limit ≤ last_index s → winner s ≡ leading s
unfolding winner with_blank is_full leading
winner_full s l = rw (le-leb log_limit (last_index s) l)

-- otherwise its blank is.
pub winner-room : (s : State) → last_index s < log_limit → winner s ≡ ordered (leading s) blank
unfolding winner with_blank is_full leading
winner-room s l = rw (lt-leb log_limit (last_index s) l)

-- So what holds of both holds of it.
pub winner-ends : (P : State → Type 0) (s : State) → P (leading s) → (last_index s < log_limit → P (ordered (leading s) blank)) → P (winner s)
winner-ends P s none room = go (dec_le log_limit (last_index s))
  where
    go : Dec (log_limit ≤ last_index s) → P (winner s)
    go (yes l) = rw (winner_full s l) none
    go (no n) = rw (winner-room s (omega arith)) (room (omega arith))

-- It leads.
pub winner-leads : (s : State) → (winner s).role ≡ leader
unfolding leading ordered
winner-leads s = winner-ends (λ t. t.role ≡ leader) s refl (λ l. refl)

-- A candidate that wins is good.
pub good-winner : (s : State) → Good s → s.role ≡ candidate → Good (winner s)
unfolding leading
good-winner s g r =
    let leads = good-leading s g r in
    winner-ends Good s leads (λ l. good-ordered (leading s) blank leads refl l)

-- ---- the events, case by case

-- what holds of an outcome's record and messages holds of those that it is said to have
pub same-done : (P : State → List Message → Type 0) (s t : State) (ms ns : List Message) → done s ms ≡ done t ns → P s ms → P t ns
same-done P s t ms ns e p =
    let x : s ≡ t = cc in
    let y : ms ≡ ns = cc in
    rw (← x, ← y) p

-- a refusal is no step
pub no_done : {A : Type 0} (n : ℕ) (t : State) (ms : List Message) → refuse n ≡ done t ms → A
no_done n t ms e = let never : ◌≡◌ {A = ℕ} 0 1 = cc in absurd (omega arith)

-- The box that stands does not lead, and its term is not the last.
pub record Stands (s : State) : Type 0 where
  pub unled : s.role ≡ leader → ⊥
  pub early : s.term ≡ last_of_terms → ⊥

-- What a leader's step comes to: its commit is settled before its appends are written.
abbrev pub Led : (State → List Message → Type 0) → State → Type 0
Led P s = P (settle s) (appends (settle s))

-- "It is settled before the step's messages are written, so they carry it."
pub led_carries : (s t : State) (ms : List Message) → led s ≡ done t ms → ms ≡ appends t
led_carries s t ms e = same-done (λ u ns. ns ≡ appends u) (settle s) t (appends (settle s)) ms e refl

-- Winning is such a step, of the box that has its blank.
pub won-led : (s : State) → won s ≡ led (winner s)
unfolding won
won-led s = refl

-- What holds of each end of a timeout holds of its record and messages.
pub timeout-ends : (P : State → List Message → Type 0) (s : State) → (s.role ≡ leader → P s [])
    → (Stands s → majority s.members (bit s.me) ≡ true → Led P (winner (standing s)))
    → (Stands s → majority s.members (bit s.me) ≡ false → P (standing s) (vote_requests (standing s)))
    → (t : State) (ms : List Message) → timeout s ≡ done t ms → P t ms
unfolding timeout
timeout-ends P s leads wins stands t ms =
    go (eqb s.role leader) refl (eqb s.term last_of_terms) refl (majority s.members (bit s.me)) refl
  where
    go : (a : Bool) → eqb s.role leader ≡ a → (b : Bool) → eqb s.term last_of_terms ≡ b
        → (c : Bool) → majority s.members (bit s.me) ≡ c
        → cond a (done s []) (cond b (refuse 9) (cond c (won (standing s)) (done (standing s) (vote_requests (standing s))))) ≡ done t ms
        → P t ms
    go true p b q c m e = same-done P s t [] ms e (leads (eqb-true _ _ p))
    go false p true q c m e = no_done 9 t ms e
    go false p false q true m e = same-done P _ t _ ms (sym (won-led (standing s)) ∙ e) (wins (record { unled = eqb-false _ _ p; early = eqb-false _ _ q }) m)
    go false p false q false m e = same-done P _ t _ ms e (stands (record { unled = eqb-false _ _ p; early = eqb-false _ _ q }) m)

-- The same of an order
pub order-ends : (P : State → List Message → Type 0) (o : ℕ) (s : State)
    → (s.role ≡ leader → last_index s < log_limit → Led P (ordered s o))
    → (t : State) (ms : List Message) → order o s ≡ done t ms → P t ms
unfolding order is_full
order-ends P o s takes t ms = go (eqb s.role leader) refl (eqb o blank) (leb log_limit (last_index s)) refl
  where
    go : (a : Bool) → eqb s.role leader ≡ a → (z b : Bool) → leb log_limit (last_index s) ≡ b
        → cond a (cond z (refuse 13) (cond b (refuse 4) (led (ordered s o)))) (refuse 3) ≡ done t ms → P t ms
    go true p true b q e = no_done 13 t ms e
    go true p false true q e = no_done 4 t ms e
    go true p false false q e = same-done P _ t _ ms e (takes (eqb-true _ _ p) (leb-false _ _ q))
    go false p z b q e = no_done 3 t ms e

-- and of a prompt.
pub prompt-ends : (P : State → List Message → Type 0) (s : State) → (s.role ≡ leader → P s (appends s))
    → (t : State) (ms : List Message) → prompt s ≡ done t ms → P t ms
unfolding prompt
prompt-ends P s sends t ms = go (eqb s.role leader) refl
  where
    go : (a : Bool) → eqb s.role leader ≡ a → cond a (done s (appends s)) (refuse 3) ≡ done t ms → P t ms
    go true p e = same-done P _ t _ ms e (sends (eqb-true _ _ p))
    go false p e = no_done 3 t ms e

-- ---- A good record stays good

-- A box that won by its own vote is good.
pub good-won : (s : State) → Good s → Good (winner (standing s))
unfolding standing
good-won s g = good-winner (standing s) (good-standing s g) refl

-- over a timeout,
pub timeout-good : (s : State) → good s ≡ true → (t : State) (ms : List Message) → timeout s ≡ done t ms → good t ≡ true
timeout-good s h =
    let g = good-facts s h in
    timeout-ends (λ t ms. good t ≡ true) s (λ r. h) (λ c m. facts-good _ (good-settle _ (good-won s g)))
    (λ c m. facts-good _ (good-standing s g))

-- an order,
pub order-good : (o : ℕ) (s : State) → good s ≡ true → (t : State) (ms : List Message) → order o s ≡ done t ms → good t ≡ true
order-good o s h =
    order-ends (λ t ms. good t ≡ true) o s (λ r l. facts-good _ (good-settle _ (good-ordered s o (good-facts s h) r l)))

-- and a prompt.
pub prompt-good : (s : State) → good s ≡ true → (t : State) (ms : List Message) → prompt s ≡ done t ms → good t ≡ true
prompt-good s h = prompt-ends (λ t ms. good t ≡ true) s (λ r. h)
