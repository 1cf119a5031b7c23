-- What a move of one box leaves behind; one move behind the other; and the moves that leave the history as it is, or only take a term.
-- Assumes nothing.
use Rattle.std.specs.Prelude.{ℕ, ◌≤◌, ◌<◌, ◌≡◌, false, List, [], ◌∷◌}
use Rattle.std.proofs.Math.Decide.{dec_lt}
use Rattle.std.proofs.Common.{arith, sym}
use Rattle.frames.specs.Limits.{masks}
use Rattle.frames.specs.Message.{Message}
use Rattle.raft.specs.Record.{State}
use Rattle.raft.proofs.RecordLaws.{Good, member-facts}
use Rattle.raft.proofs.SendLaws.{All}
use Rattle.raft.specs.AnyMessage.{taking, taken}
use Rattle.raft.specs.VoteRequest.{vote_answer_to}
use Rattle.raft.specs.Append.{following, append_answer_to}
use Rattle.raft.proofs.ReceiveLaws.{taken-higher, taken-same, good-taking}
use Rattle.journal.specs.Opening.{restarted}
use Rattle.history.specs.InForce.{fixed}
use Rattle.history.specs.History.{History, Facts}
use Rattle.history.proofs.Handed.{hands-nothing, hands-higher}
use Rattle.history.specs.PutLaws.{put_same}
use Rattle.history.specs.Grow.{raised}
use Rattle.history.proofs.GrowVotes.{raised-facts}
use Rattle.history.proofs.Later.{Later, later_self, raised-later}
use Rattle.history.proofs.Told.{Tells, hands-later}
use Rattle.safety.specs.Carried.{Kept}
use Rattle.safety.proofs.Grown.{Grown, grown_self, grown_trans, raised-grown}

-- What is known of a box and its history before a move, and between two parts of one,
pub record Known (h : History) (s : State) : Type 0 where
  pub facts : Facts (fixed s.members) h
  pub whole : Good s
  pub kept : Kept h s

-- and what is shown behind it, box i having moved: a history that has grown by its doing, in which it is kept and of which its messages tell.
pub record Next (mask i : ℕ) (h : History) (t : State) (messages : List Message) : Type 1 where
  pub history : History
  pub facts : Facts (fixed mask) history
  pub grown : Grown i h history
  pub kept : Kept history t
  pub tells : All (Tells (fixed mask) history) messages

-- The membership is a mask of seven bits.
pub known_small : {h : History} {s : State} → Known h s → s.members < masks
known_small k = (member-facts _ _ k.whole.membership).mask

-- A move behind what the box has done before.
pub next-behind : {mask i : ℕ} {h more : History} {t : State} {ms : List Message} → Grown i h more → Next mask i more t ms → Next mask i h t ms
next-behind g n =
    record { history = n.history; facts = n.facts; grown = grown_trans g n.grown; kept = n.kept; tells = n.tells }

-- A move that adds nothing to the history.
pub next-same : {h : History} {s t : State} {ms : List Message} → Known h s → Kept h t → All (Tells (fixed s.members) h) ms
    → Next s.members s.me h t ms
next-same {h} {s} k o a = record { history = h; facts = k.facts; grown = grown_self s.me h; kept = o; tells = a }

-- A no to a vote request tells nothing,
pub vote_no_tells : (mask : ℕ) (h : History) (t : State) (to : ℕ) → All (Tells (fixed mask) h) (vote_answer_to t to false ∷ [])
unfolding All Tells
vote_no_tells mask h t to = (λ e. absurd (omega arith), tt)

-- nor does a no to an append
pub append_no_tells : (mask : ℕ) (h : History) (t : State) (to : ℕ) → All (Tells (fixed mask) h) (append_answer_to t to 0 false ∷ [])
unfolding All Tells
append_no_tells mask h t to = (λ e. absurd (omega arith), tt)

-- **A restart** keeps term, vote and log; it hands out nothing, and neither stands nor leads.
pub restart_next : {h : History} {s : State} → Known h s → Next s.members s.me h (restarted s) []
unfolding restarted All
restart_next {h} {s} k =
    next-same k
    (record {
      term = k.kept.term;
      log = k.kept.log;
      vote = k.kept.vote;
      hands = hands-nothing (fixed s.members) h s.term (h.log s.me);
      stands = λ r. absurd (omega arith);
      leads = λ r. absurd (omega arith);
    })
    tt

-- A box that follows neither stands nor leads.
pub following-next : {h : History} {s : State} {ms : List Message} → Known h s → All (Tells (fixed s.members) h) ms
    → Next s.members s.me h (following s) ms
unfolding following
following-next k a =
    next-same k
    (record {
      term = k.kept.term;
      log = k.kept.log;
      vote = k.kept.vote;
      hands = k.kept.hands;
      stands = λ r. absurd (omega arith);
      leads = λ r. absurd (omega arith);
    })
    a

-- **A higher term is taken:** the box has voted for nobody in it, for it had not reached it.
taking-known : {h : History} {s : State} (term : ℕ) → s.term < term → Known h s → Known (raised s.me term h) (taking term s)
unfolding raised taking
taking-known {h} {s} term l k =
    let o = k.kept in
    let up : h.term s.me ≤ term = omega (arith, o.term) in
    record {
      facts = raised-facts s.me term k.facts up;
      whole = good-taking term s k.whole (omega arith);
      kept = record {
        term = put_same h.term s.me term;
        log = o.log;
        vote = λ d v. absurd (omega (arith, o.term, k.facts.voted_reached s.me term d v));
        hands = hands-higher (hands-later k.facts (raised-later s.me term h up) o.hands) term (omega arith);
        stands = λ r. absurd (omega arith);
        leads = λ r. absurd (omega arith);
      };
    }

-- "Any message with a higher term: take that term, .., then go on as below": what is shown of going on is shown of the message.
pub taken_next : {h : History} {s : State} (term : ℕ) (on : State → State) (say : State → List Message) → Known h s
    → ((more : History) (u : State) → u ≡ taken term s → Later h more → Known more u → Next u.members u.me more (on u) (say u))
    → Next s.members s.me h (on (taken term s)) (say (taken term s))
unfolding taking
taken_next {h} {s} term on say k go_on = go (dec_lt s.term term)
  where
    go : Dec (s.term < term) → Next s.members s.me h (on (taken term s)) (say (taken term s))
    go (yes l) =
        let up : h.term s.me ≤ term = omega (arith, k.kept.term) in
        let higher = taken-higher term s l in
        rw higher (next-behind (raised-grown s.me term h up)
        (go_on (raised s.me term h) (taking term s) (sym higher) (raised-later s.me term h up) (taking-known term l k)))
    go (no l) =
        let same = taken-same term s (omega arith) in
        rw same (go_on h s (sym same) (later_self h) k)
