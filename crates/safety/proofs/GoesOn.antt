-- A new leader does not sit on old orders (02, T-01): at every moment of every run, a leader whose last index a majority matches hands out all of its log, of
-- whatever terms its entries are, but where it won with a full log. For its last entry is of its own term: the blank, or an order behind it. (Before T-01
-- that was not so: `CommitsOlder`. Nor is it of who won with a full log and has no entry of its term: `stands_still` of
-- `raft/proofs/CommitLaws`.) Assumes nothing.
use Rattle.std.specs.Prelude.{ℕ, ◌≤◌, ◌<◌, ◌≡◌, refl, true, List, [], ◌∷◌, ◌++◌, length}
use Rattle.std.proofs.Math.Decide.{dec_le}
use Rattle.std.proofs.Common.{arith, sym, ◌∙◌, length-append, take_all, eq-eqb, le-ltb}
use Rattle.frames.specs.declared.Entry.{Entry}
use Rattle.frames.specs.Limits.{log_limit}
use Rattle.frames.specs.Message.{Message, append_answer}
use Rattle.frames.specs.Reading.{frame, reading}
use Rattle.raft.specs.Record.{State, leader, fresh, last_index, last_term, term_at, is_other, handed_out}
use Rattle.raft.specs.Commit.{matches, matching, is_matched, settle}
use Rattle.raft.proofs.CommitLaws.{term-new, reaches}
use Rattle.raft.specs.Timeout.{standing}
use Rattle.raft.specs.Order.{ordered}
use Rattle.raft.specs.Winning.{leading, winner}
use Rattle.raft.specs.AnyMessage.{taking, taken}
use Rattle.raft.specs.VoteRequest.{voting}
use Rattle.raft.specs.VoteAnswer.{adding}
use Rattle.raft.specs.Append.{following, joining}
use Rattle.raft.specs.AppendAnswer.{heard, answered, hear, on_append_answer}
use Rattle.raft.specs.Receive.{sender, receiver, term_of, current, deliver, is_for, arrive, arrive_read, receive}
use Rattle.raft.specs.Event.{receives, step}
use Rattle.raft.proofs.StepLaws.{winner_full, winner-room}
use Rattle.raft.proofs.ReceiveLaws.{taken-by, taken-same, settled_heard}
use Rattle.journal.specs.Opening.{restarted}
use Rattle.history.specs.PutLaws.{put_all}
use Rattle.safety.specs.Park.{Park, start, after, steps, restarts, stays, moves, Reached, Leads}
use Rattle.safety.proofs.Endings.{Ending, rests, stands, leads_alone, takes_up, prompts, takes, votes, votes_not, wins, counts, declines, wants, joins, hears, hears_again, event_ending}

-- ---- over one step

-- **The yes by which a majority matches an entry of the leader's term commits it,** and all before it. (A leader that won with room has such an entry: its
-- blank.)
pub answer_commits : (s : State) (bytes : List ℕ) (from n : ℕ) → s.role ≡ leader → reading bytes ≡ frame (append_answer from s.me s.term 1 n)
    → is_other s.me s.members from ≡ true → n ≤ last_index s → term_at s.log n ≡ s.term → is_matched (heard s from 1 n) n ≡ true
    → (step (receives bytes) s ≡ answered (settled_heard s from 1 n) from 1) × (n ≤ (settled_heard s from 1 n).commit)
unfolding step receive arrive_read arrive is_for sender receiver term_of deliver current on_append_answer hear settle heard
answer_commits s bytes from n r read other l own most = (
  rw (read, eq-eqb s.me s.me refl, other, le-ltb s.term s.term (omega arith), taken-same s.term s (omega arith), r, le-ltb (last_index s) n l) refl,
  reaches (heard s from 1 n) n l own most,
)

-- ---- what is so of a leader

-- With room in its log its last entry is of its term; and it has committed each entry of its term that a majority matches.
pub record Abreast (s : State) : Type 0 where
  pub own : s.role ≡ leader → last_index s < log_limit → last_term s ≡ s.term
  pub counted : s.role ≡ leader → (n : ℕ) → n ≤ last_index s → term_at s.log n ≡ s.term → is_matched s n ≡ true → n ≤ s.commit

-- An entry added is the last,
added-last : (log : List Entry) (e : Entry) → term_at (log ++ (e ∷ [])) (length (log ++ (e ∷ []))) ≡ e.term
added-last log e = term-new log e (length (log ++ (e ∷ []))) (length-append log (e ∷ []))

-- so that of a box that wins, where there is room behind it still, is of its term.
winner-own : (s : State) → last_index (winner s) < log_limit → last_term (winner s) ≡ (winner s).term
unfolding leading ordered
winner-own s = go (dec_le log_limit (last_index s))
  where
    go : Dec (log_limit ≤ last_index s) → last_index (winner s) < log_limit → last_term (winner s) ≡ (winner s).term
    go (yes full) = rw (winner_full s full) (λ room. absurd (omega arith))
    go (no n) = rw (winner-room s (omega arith)) (λ room. added-last s.log _)

-- A leader whose commit is settled is abreast,
settle_abreast : (u : State) → (u.role ≡ leader → last_index u < log_limit → last_term u ≡ u.term) → Abreast (settle u)
unfolding settle is_matched matching matches
settle_abreast u own = record { own = own; counted = λ r n l o m. reaches u n l o m }

-- who does not lead is,
unled_abreast : (s : State) → (s.role ≡ leader → ⊥) → Abreast s
unled_abreast s n = record { own = λ r. absurd (n r); counted = λ r. absurd (n r) }

-- and what changes neither role, log, term, matches nor commit leaves it so.
kept_abreast : (s : State) (n : ℕ) → Abreast s → Abreast (voting s n) × Abreast (adding s n)
unfolding voting adding is_matched matching matches
kept_abreast s n a = (record { own = a.own; counted = a.counted }, record { own = a.own; counted = a.counted })

taken_abreast : (term : ℕ) (s : State) → Abreast s → Abreast (taken term s)
unfolding taking
taken_abreast term s a = taken-by Abreast term s (λ l. unled_abreast (taking term s) (λ r. absurd (omega (arith, r)))) (λ l. a)

-- **Each ending leaves it so.**
ending_abreast : {sent : List (List ℕ)} {s t : State} {ms : List Message} → Ending sent s t ms → Abreast s → Abreast t
unfolding standing ordered following joining heard
ending_abreast rests a = a
ending_abreast {t = t} stands a = unled_abreast t (λ r. absurd (omega (arith, r)))
ending_abreast {s = s} (leads_alone most) a = settle_abreast (winner (standing s)) (λ r. winner-own (standing s))
ending_abreast {s = s} (takes_up r room o) a = settle_abreast (ordered s o) (λ r l. added-last s.log _)
ending_abreast (prompts r) a = a
ending_abreast {s = s} (takes term) a = taken_abreast term s a
ending_abreast {s = s} (votes from to term index prior c g) a = (kept_abreast (taken term s) from (taken_abreast term s a)).0
ending_abreast {s = s} (votes_not from term) a = taken_abreast term s a
ending_abreast {s = s} (wins from to term reply c n most) a = settle_abreast (winner (adding s from)) (λ r. winner-own (adding s from))
ending_abreast {s = s} (counts from to term reply c n) a = (kept_abreast s from a).1
ending_abreast (declines from) a = a
ending_abreast {t = t} (wants from term look) a = unled_abreast t (λ r. absurd (omega (arith, r)))
ending_abreast {t = t} (joins from to term index prior commit es c look has) a = unled_abreast t (λ r. absurd (omega (arith, r)))
ending_abreast {s = s} (hears from to term reply index c n) a = settle_abreast (heard s from reply index) a.own
ending_abreast {s = s} (hears_again from to term reply index c n) a = settle_abreast (heard s from reply index) a.own

-- So it is at every moment of every run.
pub always_abreast : (mask : ℕ) (p : Park) → Reached mask p → (i : ℕ) → Abreast (p.box i)
unfolding start after fresh restarted
always_abreast mask p stays i = unled_abreast (p.box i) (λ r. absurd (omega (arith, r)))
always_abreast mask p (moves {q = q} r (steps i m e c t ms o)) j =
    put_all (λ k. Abreast) q.box i t (ending_abreast (event_ending q.sent (q.box i) e c t ms o) (always_abreast mask q r i))
    (λ k n. always_abreast mask q r k) j
always_abreast mask p (moves {q = q} r (restarts i m)) j =
    put_all (λ k. Abreast) q.box i (restarted (q.box i)) (unled_abreast (restarted (q.box i)) (λ r. absurd (omega (arith, r))))
    (λ k n. always_abreast mask q r k) j

-- ---- the claim

-- **A leader whose last index a majority matches hands out all of its log,** where that is not full, or ends with an entry of its term: in every run of a
-- park,
pub goes_on : (mask : ℕ) (p : Park) → Reached mask p → (i term : ℕ) → Leads (p.box i) term
    → (log_limit ≤ last_index (p.box i) → last_term (p.box i) ≡ term)
    → is_matched (p.box i) (last_index (p.box i)) ≡ true → handed_out (p.box i) ≡ (p.box i).log
unfolding handed_out
goes_on mask p r i term l full most =
    take_all (p.box i).commit (p.box i).log (a.counted l.role (last_index (p.box i)) (omega arith) (own (dec_le log_limit (last_index (p.box i)))) most)
  where
    a : Abreast (p.box i)
    a = always_abreast mask p r i

    own : Dec (log_limit ≤ last_index (p.box i)) → last_term (p.box i) ≡ (p.box i).term
    own (yes f) = full f ∙ sym l.in_term
    own (no f) = a.own l.role (omega arith)
