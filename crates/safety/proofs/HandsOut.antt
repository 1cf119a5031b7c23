-- Where what a box hands out comes from, behind each move, and that what its appends carry is what it hands out. Assumes nothing.
use Rattle.std.specs.Prelude.{ℕ, ◌+◌, ◌≤◌, ◌≡◌, refl, false, List, length, take}
use Rattle.frames.specs.declared.Entry.{Entry}
use Rattle.frames.specs.Message.{Message, vote_request, vote_answer, append, append_answer}
use Rattle.raft.specs.Record.{State, leader, handed_out}
use Rattle.raft.specs.Commit.{settle}
use Rattle.raft.specs.Sends.{appends}
use Rattle.raft.proofs.SendLaws.{All, vote_requests-all, appends-all}
use Rattle.raft.specs.Timeout.{standing}
use Rattle.raft.proofs.StepLaws.{winner-leads}
use Rattle.raft.specs.Order.{ordered}
use Rattle.raft.specs.AnyMessage.{taken}
use Rattle.raft.specs.VoteRequest.{voting}
use Rattle.raft.specs.VoteAnswer.{adding}
use Rattle.raft.specs.Append.{lacks, joined, following, commit_after, joining}
use Rattle.raft.specs.AppendAnswer.{heard}
use Rattle.raft.proofs.ReceiveLaws.{taken-keeps, Looks}
use Rattle.history.specs.InForce.{fixed}
use Rattle.history.specs.Begins.{Begins}
use Rattle.history.specs.History.{History}
use Rattle.history.proofs.Descent.{won-descends}
use Rattle.history.proofs.Join.{offered-long, joined-joins}
use Rattle.history.proofs.Handed.{joins_either}
use Rattle.history.proofs.Told.{Sending, Tells, sending_won}
use Rattle.safety.specs.Sent.{Sent}
use Rattle.safety.proofs.Endings.{Came, Ending, rests, stands, leads_alone, takes_up, prompts, takes, votes, votes_not, wins, counts, declines, wants, joins, hears, hears_again}
use Rattle.safety.proofs.Next.{Known}

-- A box has moved from record s to t. It leads, and nothing is said here of what it hands out; or it hands out what it did before; or a beginning
-- of what an append that was sent carried.
pub data HandsOut (sent : List (List ℕ)) (h : History) (s t : State) : Type 0 where
  leads : t.role ≡ leader → HandsOut sent h s t
  same : handed_out t ≡ handed_out s → HandsOut sent h s t
  carried : (from to term index prior commit : ℕ) (es : List Entry) → Sent sent (append from to term index prior commit es)
      → Begins (handed_out t) (take commit (h.leaders.log term)) → HandsOut sent h s t

-- An append is accepted: nothing that was handed out is cut, and more is handed out only as the leader does.
joined-hands : {h : History} {s : State} (from term index prior commit : ℕ) (es : List Entry) → Known h s
    → Sending (fixed s.members) h from term index prior commit es → s.term ≤ term → lacks s.log index prior ≡ false
    → (P : List Entry → Type 0) → P (take s.commit s.log)
    → ((log : List Entry) → Begins log (take commit (h.leaders.log term)) → P log)
    → P (take (commit_after s.commit commit (index + length es)) (joined s.log index es))
joined-hands {h} {s} from term index prior commit es k sent l has =
    joins_either k.facts commit (rw k.kept.log at k.kept.hands) (record { won = sending_won sent; within = offered-long sent.offered }) l
    (joined-joins s.log sent.offered has (rw k.kept.log at (k.facts.descends s.me)) (won-descends k.facts (sending_won sent)))

-- A term that is taken changes nothing of it.
taken-same-hands : (term : ℕ) (s : State) → take (taken term s).commit (taken term s).log ≡ take s.commit s.log
taken-same-hands term s = rw ((taken-keeps term s).2, (taken-keeps term s).3)

-- the accepted append, its term taken
joins-hands_out : {sent : List (List ℕ)} {h : History} {s : State} → Known h s → ((m : Message) → Sent sent m → Tells (fixed s.members) h m)
    → (from to term index prior commit : ℕ) (es : List Entry) → Came sent s (append from to term index prior commit es) → Looks s term
    → lacks (taken term s).log index prior ≡ false → HandsOut sent h s (joining (taken term s) index commit es)
unfolding joining handed_out Tells
joins-hands_out {sent} {h} {s} k told from to term index prior commit es c look has =
    joined-hands from term index prior commit es k (told _ c.sent_once) look.current (rw (taken-keeps term s).2 at has)
    (λ log. handed_out (joining (taken term s) index commit es) ≡ log → HandsOut sent h s (joining (taken term s) index commit es)) same
    (λ log b e. carried from to term index prior commit es c.sent_once (rw e b)) (rw ((taken-keeps term s).2, (taken-keeps term s).3))

-- **Each ending hands out so.**
pub ending_hands : {sent : List (List ℕ)} {h : History} {s t : State} {ms : List Message} → Known h s
    → ((m : Message) → Sent sent m → Tells (fixed s.members) h m) → Ending sent s t ms → HandsOut sent h s t
unfolding handed_out standing ordered settle voting adding following heard
ending_hands k told rests = same refl
ending_hands k told stands = same refl
ending_hands k told (leads_alone most) = leads (winner-leads _)
ending_hands k told (takes_up r room o) = leads r
ending_hands k told (prompts r) = leads r
ending_hands {s = s} k told (takes term) = same (taken-same-hands term s)
ending_hands {s = s} k told (votes from to term index prior c g) = same (taken-same-hands term s)
ending_hands {s = s} k told (votes_not from term) = same (taken-same-hands term s)
ending_hands k told (wins from to term reply c n most) = leads (winner-leads _)
ending_hands k told (counts from to term reply c n) = same refl
ending_hands k told (declines from) = same refl
ending_hands {s = s} k told (wants from term look) = same (taken-same-hands term s)
ending_hands k told (joins from to term index prior commit es c look has) = joins-hands_out k told from to term index prior commit es c look has
ending_hands k told (hears from to term reply index c n) = leads n.leads
ending_hands k told (hears_again from to term reply index c n) = leads n.leads

-- ---- what its appends carry

-- An append of a box that leads, in its term, with its commit.
pub record FromLeader (t : State) (term commit : ℕ) : Type 0 where
  pub leads : t.role ≡ leader
  pub now : term ≡ t.term
  pub known : commit ≡ t.commit

-- A message that a box has just sent, where it is an append, is such a one.
unfoldable pub IfAppend : State → Message → Type 0
IfAppend t (vote_request from to term index prior) = Unit {0}
IfAppend t (vote_answer from to term reply) = Unit {0}
IfAppend t (append from to term index prior commit es) = FromLeader t term commit
IfAppend t (append_answer from to term reply index) = Unit {0}

-- All appends of a box that leads are.
appends-led : (t : State) → t.role ≡ leader → All (IfAppend t) (appends t)
unfolding IfAppend
appends-led t r = appends-all (IfAppend t) t (λ i l m o. record { leads = r; now = refl; known = refl })

-- **Each ending sends so.**
pub ending_appends : {sent : List (List ℕ)} {s t : State} {ms : List Message} → Ending sent s t ms → All (IfAppend t) ms
unfolding All IfAppend ordered settle heard
ending_appends rests = tt
ending_appends {t = t} stands = vote_requests-all (IfAppend t) t (λ i l m o. tt)
ending_appends {t = t} (leads_alone most) = appends-led t (winner-leads _)
ending_appends {t = t} (takes_up r room o) = appends-led t r
ending_appends {t = t} (prompts r) = appends-led t r
ending_appends (takes term) = tt
ending_appends (votes from to term index prior c g) = (tt, tt)
ending_appends (votes_not from term) = (tt, tt)
ending_appends {t = t} (wins from to term reply c n most) = appends-led t (winner-leads _)
ending_appends (counts from to term reply c n) = tt
ending_appends (declines from) = (tt, tt)
ending_appends (wants from term look) = (tt, tt)
ending_appends (joins from to term index prior commit es c look has) = (tt, tt)
ending_appends (hears from to term reply index c n) = tt
ending_appends (hears_again from to term reply index c n) = (record { leads = n.leads; now = refl; known = refl }, tt)
