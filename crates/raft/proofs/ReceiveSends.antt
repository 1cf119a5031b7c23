-- What any bytes make a good record send obeys 01's rules for frames, and its numbers fit their fields; the next record fits too.
-- Assumes nothing.
use Rattle.std.specs.Prelude.{ℕ, ◌≤◌, ◌<◌, ◌≡◌, Bool, true, false, cond, List, [], ◌∷◌, ◌++◌, drop}
use Rattle.std.proofs.Common.{arith, le-leb}
use Rattle.frames.specs.declared.Entry.{Entry}
use Rattle.frames.specs.Limits.{boxes, log_limit}
use Rattle.frames.specs.Message.{Message, vote_request, vote_answer, append, append_answer, entry_fields, table, IsSized}
use Rattle.frames.specs.Rules.{obeys}
use Rattle.raft.specs.Record.{State, good}
use Rattle.raft.specs.Commit.{settle}
use Rattle.raft.specs.Sends.{append_to}
use Rattle.raft.specs.Outcome.{done}
use Rattle.raft.specs.Winning.{winner}
use Rattle.raft.specs.AnyMessage.{taking, taken}
use Rattle.raft.specs.VoteRequest.{voting, vote_answer_to}
use Rattle.raft.specs.VoteAnswer.{adding}
use Rattle.raft.specs.Append.{agreed, stop, passes, joined, following, joining, append_answer_to}
use Rattle.raft.specs.AppendAnswer.{heard}
use Rattle.raft.specs.Receive.{deliver, sender, receive, term_of}
use Rattle.raft.proofs.CommitLaws.{by_test}
use Rattle.raft.proofs.RecordLaws.{Good, good-facts, member-facts}
use Rattle.raft.proofs.StepLaws.{winner-leads}
use Rattle.raft.proofs.SendLaws.{start-there, append-obeys, All, Obey, settled_obey}
use Rattle.raft.proofs.FitLaws.{all_take, all_drop, OrderFits, Fits, winner-fits, settle-fits, append-sized, Sized, settled-sized}
use Rattle.raft.proofs.ReceiveLaws.{taken-by, taken-least, Ends, vote_request-ends, vote_answer-ends, append-ends, Hears, settled_heard, append_answer-ends, Sender}
use Rattle.raft.proofs.ReceiveLaws.{Arrives, receive-ends, sent-by, offer-facts, good-taken, good-following, good-granted, good_elected, good-joined, good-settled_heard}

-- ---- one answer

-- A vote answer obeys, in a term of at least 1,
pub vote_answer-obeys : (t : State) → Good t → 1 ≤ t.term → (to : ℕ) → 1 ≤ to → to ≤ boxes → (b : Bool) → obeys (vote_answer_to t to b) ≡ true
vote_answer-obeys t g e to l h true = rw (start-there t g e to l h)
vote_answer-obeys t g e to l h false = rw (start-there t g e to l h)

-- and so does the yes to an append, which names an index,
pub yes_obeys : (t : State) → Good t → 1 ≤ t.term → (to : ℕ) → 1 ≤ to → to ≤ boxes → (index : ℕ) → index ≤ log_limit
    → obeys (append_answer_to t to index true) ≡ true
yes_obeys t g e to l h index i = rw (start-there t g e to l h, le-leb index log_limit i)

-- and the no, which names index 0.
pub no_obeys : (t : State) → Good t → 1 ≤ t.term → (to : ℕ) → 1 ≤ to → to ≤ boxes → obeys (append_answer_to t to 0 false) ≡ true
no_obeys t g e to l h = rw (start-there t g e to l h)

-- The append that a leader sends again obeys.
pub again-obeys : (s : State) (from term reply index : ℕ) → Good s → Sender s from term → Hears s term reply index
    → obeys (append_to (settled_heard s from reply index) from) ≡ true
unfolding settle heard
again-obeys s from term reply index g d h =
    append-obeys _ (good-settled_heard s from term reply index g d h) h.leads from d.least d.most d.other

-- ---- every message

-- What a message that arrives makes a good record send obeys,
pub deliver-obeys : (s : State) → Good s → (m : Message) → Arrives s m → Ends (λ t ms. Obey ms) (deliver m s)
unfolding sender term_of All voting following joining
deliver-obeys s g (vote_request from to term index prior) a =
    let d = sent-by s (vote_request from to term index prior) a in
    let e : 1 ≤ (taken term s).term = omega (arith, taken-least term s) in
    vote_request-ends (λ t ms. Obey ms) s from to term index prior
    (λ y. (vote_answer-obeys _ (good-granted s from term index prior g d y) e from d.least d.most true, tt))
    (vote_answer-obeys _ (good-taken term s g) e from d.least d.most false, tt)
deliver-obeys s g (vote_answer from to term reply) a =
    let d = sent-by s (vote_answer from to term reply) a in
    vote_answer-ends (λ t ms. Obey ms) s from to term reply
    (λ c m. settled_obey (winner (adding s from)) (good_elected s from term reply g d c) (winner-leads _)) (λ c m. tt) tt
deliver-obeys s g (append from to term index prior commit es) a =
    let d = sent-by s (append from to term index prior commit es) a in
    let o = offer-facts from to term index prior commit es a.obeyed in
    let e : 1 ≤ (taken term s).term = omega (arith, taken-least term s) in
    append-ends (λ t ms. Obey ms) s from to term index prior commit es
    (λ l. (no_obeys s g (omega arith) from d.least d.most, tt))
    (λ l n. (no_obeys _ (good-following _ (good-taken term s g)) e from d.least d.most, tt))
    (λ l n c. (yes_obeys _ (good-joined s term index prior commit es g l.current n c o) e from d.least d.most _ o.room, tt))
deliver-obeys s g (append_answer from to term reply index) a =
    let d = sent-by s (append_answer from to term reply index) a in
    append_answer-ends (λ t ms. Obey ms) s from to term reply index (λ h b. (again-obeys s from term reply index g d h, tt)) (λ h b. tt) tt

-- and so does what any bytes make it send.
pub receive-obeys : (bytes : List ℕ) (s : State) → good s ≡ true → (t : State) (ms : List Message) → receive bytes s ≡ done t ms → Obey ms
receive-obeys bytes s h = receive-ends (λ t ms. Obey ms) s (deliver-obeys s (good-facts s h)) bytes

-- ---- what a message's fields say

-- its term is 4 bytes
term-sized : (m : Message) → IsSized (table m) → term_of m < 4294967296
unfolding table IsSized term_of
term-sized (vote_request from to term index prior) z = z.1.1.1.1.0
term-sized (vote_answer from to term reply) z = z.1.1.1.1.0
term-sized (append from to term index prior commit es) z = z.1.1.1.1.0
term-sized (append_answer from to term reply index) z = z.1.1.1.1.0

-- and so the orders of entries that fit their fields are 8
pub orders-sized : (es : List Entry) → IsSized (entry_fields es) → All OrderFits es
unfolding IsSized entry_fields All
orders-sized [] z = tt
orders-sized (e ∷ es) z = (z.1.0, orders-sized es z.1.1)

-- as are those of an append
append-orders : (from to term index prior commit : ℕ) (es : List Entry) → IsSized (table (append from to term index prior commit es))
    → All OrderFits es
unfolding table IsSized
append-orders from to term index prior commit es z = orders-sized es z.1.1.1.1.1.1.1.1.1

-- ---- the next record fits

-- what holds of each part of two lists holds of each part of both
pub all_both : {A : Type 0} (P : A → Type 0) (xs ys : List A) → All P xs → All P ys → All P (xs ++ ys)
unfolding All
all_both P [] ys a b = b
all_both P (x ∷ xs) ys a b = (a.0, all_both P xs ys a.1 b)

-- It stays so for a box that takes a message's term,
pub taken-fits : (term : ℕ) (s : State) → Fits s → term < 4294967296 → Fits (taken term s)
unfolding taking
taken-fits term s f b = taken-by Fits term s (λ l. record { term = b; orders = f.orders }) (λ l. f)

-- that votes,
pub voting-fits : (s : State) (from : ℕ) → Fits s → Fits (voting s from)
unfolding voting
voting-fits s from f = record { term = f.term; orders = f.orders }

-- that counts a vote,
pub adding-fits : (s : State) (from : ℕ) → Fits s → Fits (adding s from)
unfolding adding
adding-fits s from f = record { term = f.term; orders = f.orders }

-- that follows,
pub following-fits : (s : State) → Fits s → Fits (following s)
unfolding following
following-fits s f = record { term = f.term; orders = f.orders }

-- that joins entries to its log,
pub joining-fits : (s : State) (index commit : ℕ) (es : List Entry) → Fits s → All OrderFits es → Fits (joining s index commit es)
unfolding joining joined
joining-fits s index commit es f b =
    record {
      term = f.term;
      orders = by_test (All OrderFits) (passes s.log index es) s.log _ (λ p. f.orders)
          (λ p. all_both OrderFits _ _ (all_take OrderFits (stop s.log index es) s.log f.orders)
          (all_drop OrderFits (agreed (drop index s.log) es) es b));
    }

-- and that hears an answer.
pub heard-fits : (s : State) (from reply index : ℕ) → Fits s → Fits (heard s from reply index)
unfolding heard
heard-fits s from reply index f = record { term = f.term; orders = f.orders }

-- ---- one answer fits

-- A vote answer's numbers fit,
pub vote_answer-sized : (t : State) → Good t → Fits t → (to : ℕ) → to ≤ boxes → (b : Bool) → IsSized (table (vote_answer_to t to b))
unfolding table IsSized
vote_answer-sized t g f to h b =
    let m = member-facts t.me t.members g.membership in
    let r : cond b 1 0 < 256 = by_test (λ n. n < 256) b 1 0 (λ e. omega arith) (λ e. omega arith) in
    (omega arith, (omega arith, (omega arith, (omega arith, (f.term, (r, tt))))))

-- and so do those of an append's answer.
pub append_answer-sized : (t : State) → Good t → Fits t → (to : ℕ) → to ≤ boxes → (index : ℕ) → index ≤ log_limit
    → (b : Bool) → IsSized (table (append_answer_to t to index b))
unfolding table IsSized
append_answer-sized t g f to h index i b =
    let m = member-facts t.me t.members g.membership in
    let r : cond b 1 0 < 256 = by_test (λ n. n < 256) b 1 0 (λ e. omega arith) (λ e. omega arith) in
    (omega arith, (omega arith, (omega arith, (omega arith, (f.term, (r, (omega arith, tt)))))))

-- The append that a leader sends again fits.
pub again-sized : (s : State) (from term reply index : ℕ) → Good s → Sender s from term → Hears s term reply index
    → Fits (settled_heard s from reply index) → IsSized (table (append_to (settled_heard s from reply index) from))
unfolding settle heard
again-sized s from term reply index g d h f =
    append-sized _ (good-settled_heard s from term reply index g d h) f h.leads from d.least d.most d.other

-- ---- every message fits

-- What a message that arrives comes to fits, the record and the messages,
pub deliver-fits : (s : State) → Good s → Fits s → (m : Message) → Arrives s m → Ends (λ t ms. Fits t × Sized ms) (deliver m s)
unfolding sender term_of All
deliver-fits s g f (vote_request from to term index prior) a =
    let d = sent-by s (vote_request from to term index prior) a in
    let u = taken-fits term s f (term-sized (vote_request from to term index prior) a.fits) in
    let v = voting-fits (taken term s) from u in
    vote_request-ends (λ t ms. Fits t × Sized ms) s from to term index prior
    (λ y. (v, (vote_answer-sized _ (good-granted s from term index prior g d y) v from d.most true, tt)))
    (u, (vote_answer-sized _ (good-taken term s g) u from d.most false, tt))
deliver-fits s g f (vote_answer from to term reply) a =
    let d = sent-by s (vote_answer from to term reply) a in
    let u = taken-fits term s f (term-sized (vote_answer from to term reply) a.fits) in
    vote_answer-ends (λ t ms. Fits t × Sized ms) s from to term reply
    (λ c m. settled-sized (winner (adding s from)) (good_elected s from term reply g d c) (winner-fits _ (adding-fits s from f)) (winner-leads _))
    (λ c m. (adding-fits s from f, tt)) (u, tt)
deliver-fits s g f (append from to term index prior commit es) a =
    let d = sent-by s (append from to term index prior commit es) a in
    let o = offer-facts from to term index prior commit es a.obeyed in
    let u = taken-fits term s f (term-sized (append from to term index prior commit es) a.fits) in
    let v = following-fits (taken term s) u in
    let w = joining-fits (taken term s) index commit es u (append-orders from to term index prior commit es a.fits) in
    append-ends (λ t ms. Fits t × Sized ms) s from to term index prior commit es
    (λ l. (f, (append_answer-sized s g f from d.most 0 (omega arith) false, tt)))
    (λ l n. (v, (append_answer-sized _ (good-following _ (good-taken term s g)) v from d.most 0 (omega arith) false, tt)))
    (λ l n c. (w, (append_answer-sized _ (good-joined s term index prior commit es g l.current n c o) w from d.most _ o.room true, tt)))
deliver-fits s g f (append_answer from to term reply index) a =
    let d = sent-by s (append_answer from to term reply index) a in
    let u = taken-fits term s f (term-sized (append_answer from to term reply index) a.fits) in
    let v = settle-fits _ (heard-fits s from reply index f) in
    append_answer-ends (λ t ms. Fits t × Sized ms) s from to term reply index
    (λ h b. (v, (again-sized s from term reply index g d h v, tt))) (λ h b. (v, tt)) (u, tt)

-- and so does what any bytes come to.
pub receive-fits : (bytes : List ℕ) (s : State) → good s ≡ true → Fits s
    → (t : State) (ms : List Message) → receive bytes s ≡ done t ms → Fits t × Sized ms
receive-fits bytes s h f = receive-ends (λ t ms. Fits t × Sized ms) s (deliver-fits s (good-facts s h) f) bytes
