-- The numbers of a record that fits its types fit the fields of what it sends, and the next record fits too. Assumes nothing.
use Rattle.std.specs.Prelude.{ℕ, zero, suc, ◌-◌, ◌≤◌, ◌<◌, ◌≡◌, refl, true, List, [], ◌∷◌, ◌++◌, length, take, drop}
use Rattle.std.proofs.Common.{arith, length-take, length-drop}
use Rattle.frames.specs.declared.Entry.{Entry}
use Rattle.frames.specs.Limits.{boxes, entry_limit}
use Rattle.frames.specs.Message.{Message, entry_fields, table, IsSized, text}
use Rattle.frames.specs.Rules.{in_order}
use Rattle.frames.specs.Reading.{frame, reading}
use Rattle.frames.proofs.OneSpelling.{frame-when}
use Rattle.raft.specs.Record.{State, leader, last_index, term_at, of_box, is_other, good}
use Rattle.raft.specs.Commit.{settle}
use Rattle.raft.specs.Sends.{vote_request_to, append_after, append_to, vote_requests, appends}
use Rattle.raft.specs.Outcome.{done}
use Rattle.raft.specs.Timeout.{last_of_terms, standing, timeout}
use Rattle.raft.specs.Winning.{leading, winner}
use Rattle.raft.specs.Order.{ordered, blank, order}
use Rattle.raft.specs.Prompt.{prompt}
use Rattle.raft.proofs.RecordLaws.{Good, good-facts, member-facts, leader-sent}
use Rattle.raft.proofs.StepLaws.{in_order-most, follows-facts, good-standing, good-settle, good-ordered, winner-ends, winner-leads, good-won, timeout-ends, order-ends, prompt-ends}
use Rattle.raft.proofs.SendLaws.{in_order-drop, in_order-take, term-most, All, Obey, vote_requests-all, appends-all}

-- ---- what holds of each part of a list

-- holds of each of its first parts,
pub all_take : {A : Type 0} (P : A → Type 0) (n : ℕ) (xs : List A) → All P xs → All P (take n xs)
unfolding All
all_take P zero xs a = tt
all_take P (suc n) [] a = tt
all_take P (suc n) (x ∷ xs) a = (a.0, all_take P n xs a.1)

-- and of each behind them;
pub all_drop : {A : Type 0} (P : A → Type 0) (n : ℕ) (xs : List A) → All P xs → All P (drop n xs)
unfolding All
all_drop P zero xs a = a
all_drop P (suc n) [] a = tt
all_drop P (suc n) (x ∷ xs) a = all_drop P n xs a.1

-- and of one more behind it, where it holds of that one.
pub all_more : {A : Type 0} (P : A → Type 0) (xs : List A) (y : A) → All P xs → P y → All P (xs ++ (y ∷ []))
unfolding All
all_more P [] y a p = (p, tt)
all_more P (x ∷ xs) y a p = (a.0, all_more P xs y a.1 p)

-- ---- what the code's types say of a record

-- An order is 8 bytes.
abbrev pub OrderFits : Entry → Type 0
OrderFits e = e.order < 18446744073709551616

-- A term is 4 bytes. (The other numbers are small where the record is good.)
pub record Fits (s : State) : Type 0 where
  pub term : s.term < 4294967296
  pub orders : All OrderFits s.log

-- It stays so for a box that stands in a term that is not the last,
pub standing-fits : (s : State) → Fits s → (s.term ≡ last_of_terms → ⊥) → Fits (standing s)
unfolding standing
standing-fits s f q = record { term = omega arith; orders = f.orders }

-- that begins to lead,
pub leading-fits : (s : State) → Fits s → Fits (leading s)
unfolding leading
leading-fits s f = record { term = f.term; orders = f.orders }

-- that settles its commit,
pub settle-fits : (s : State) → Fits s → Fits (settle s)
unfolding settle
settle-fits s f = record { term = f.term; orders = f.orders }

-- that takes an order of 8 bytes,
pub ordered-fits : (s : State) (o : ℕ) → Fits s → o < 18446744073709551616 → Fits (ordered s o)
unfolding ordered
ordered-fits s o f b = record { term = f.term; orders = all_more OrderFits s.log _ f.orders b }

-- and that wins.
pub winner-fits : (s : State) → Fits s → Fits (winner s)
winner-fits s f = winner-ends Fits s (leading-fits s f) (λ l. ordered-fits (leading s) blank (leading-fits s f) (omega arith))

-- ---- one message

-- entries of terms in order and orders of 8 bytes fit their fields
pub entries-sized : (previous term : ℕ) (es : List Entry) → term < 4294967296 → All OrderFits es → in_order previous term es ≡ true
    → IsSized (entry_fields es)
unfolding All entry_fields IsSized
entries-sized previous term [] t a h = tt
entries-sized previous term (e ∷ es) t a h =
    let rest = (follows-facts previous term e es h).rest in
    (omega (arith, in_order-most e.term term es rest), (a.0, entries-sized e.term term es t a.1 rest))

-- A vote request's numbers fit,
pub vote_request-sized : (s : State) → Good s → Fits s → (i : ℕ) → i ≤ boxes → IsSized (table (vote_request_to s i))
unfolding table IsSized
vote_request-sized s g f i h =
    let m = member-facts s.me s.members g.membership in
    let t = term-most s.term s.log (last_index s) (omega arith) g.order in
    (omega arith, (omega arith, (omega arith, (omega arith, (f.term, (omega arith, (omega arith, tt)))))))

-- and so do those of an append of up to four entries behind an index of the log,
pub append_after-sized : (s : State) → Good s → Fits s → (p : ℕ) → p ≤ last_index s → (i : ℕ) → i ≤ boxes
    → IsSized (table (append_after s p i))
unfolding table IsSized
append_after-sized s g f p l i h =
    let m = member-facts s.me s.members g.membership in
    let t = term-most s.term s.log p l g.order in
    let counted : length (take entry_limit (drop p s.log)) < 256 = simp (length-take, length-drop) (omega arith) in
    (omega arith, (omega arith, (omega arith, (omega arith, (f.term, (omega arith, (omega arith, (omega arith, (counted, entries)))))))))
  where
    entries : IsSized (entry_fields (take entry_limit (drop p s.log)))
    entries =
        entries-sized (term_at s.log p) s.term _ f.term
        (all_take OrderFits entry_limit _ (all_drop OrderFits p s.log f.orders))
        (in_order-take _ s.term (drop p s.log) entry_limit (in_order-drop s.term s.log p l g.order))

-- as a leader's append is.
pub append-sized : (s : State) → Good s → Fits s → s.role ≡ leader → (i : ℕ) → 1 ≤ i → i ≤ boxes
    → is_other s.me s.members i ≡ true → IsSized (table (append_to s i))
append-sized s g f r i l h o = append_after-sized s g f (of_box s.lead.next i - 1) (omega (arith, leader-sent s g r i l h o)) i h

-- ---- every message of a step

-- The numbers of every message of a list fit their fields.
abbrev pub Sized : List Message → Type 0
Sized ms = All (λ m. IsSized (table m)) ms

-- Vote requests fit,
pub vote_requests-sized : (s : State) → Good s → Fits s → Sized (vote_requests s)
vote_requests-sized s g f = vote_requests-all _ s (λ i l h o. vote_request-sized s g f i h)

-- and so do appends.
pub appends-sized : (s : State) → Good s → Fits s → s.role ≡ leader → Sized (appends s)
appends-sized s g f r = appends-all _ s (append-sized s g f r)

-- a leader that has settled its commit fits, and so do its appends
pub settled-sized : (s : State) → Good s → Fits s → s.role ≡ leader → Fits (settle s) × Sized (appends (settle s))
unfolding settle
settled-sized s g f r = (settle-fits s f, appends-sized (settle s) (good-settle s g) (settle-fits s f) r)

-- What a timeout comes to fits, the record and the messages,
pub timeout-fits : (s : State) → good s ≡ true → Fits s → (t : State) (ms : List Message) → timeout s ≡ done t ms → Fits t × Sized ms
unfolding All
timeout-fits s h f =
    let g = good-facts s h in
    timeout-ends (λ t ms. Fits t × Sized ms) s (λ r. (f, tt))
    (λ c m. settled-sized (winner (standing s)) (good-won s g) (winner-fits _ (standing-fits s f c.early)) (winner-leads _))
    (λ c m. (standing-fits s f c.early, vote_requests-sized (standing s) (good-standing s g) (standing-fits s f c.early)))

-- and what an order of 8 bytes comes to,
pub order-fits : (o : ℕ) (s : State) → good s ≡ true → Fits s → o < 18446744073709551616
    → (t : State) (ms : List Message) → order o s ≡ done t ms → Fits t × Sized ms
unfolding ordered
order-fits o s h f b =
    order-ends (λ t ms. Fits t × Sized ms) o s
    (λ r l. settled-sized (ordered s o) (good-ordered s o (good-facts s h) r l) (ordered-fits s o f b) r)

-- and what a prompt comes to.
pub prompt-fits : (s : State) → good s ≡ true → Fits s → (t : State) (ms : List Message) → prompt s ≡ done t ms → Fits t × Sized ms
prompt-fits s h f = prompt-ends (λ t ms. Fits t × Sized ms) s (λ r. (f, appends-sized s (good-facts s h) f r))

-- ---- what is sent is read

-- Messages that obey the rules and fit their fields are read as what they are.
pub sent-is-read : (ms : List Message) → Obey ms → Sized ms → All (λ m. reading (text m) ≡ frame m) ms
unfolding All
sent-is-read [] o z = tt
sent-is-read (m ∷ ms) o z = (frame-when (text m) m o.0 z.0 refl, sent-is-read ms o.1 z.1)
