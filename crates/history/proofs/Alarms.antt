-- Alarms 6, 7 and 8 do not sound where a frame that was sent is read; and an append that is accepted keeps the facts and what is handed out.
-- Assumes nothing.
use Rattle.std.specs.Prelude.{ℕ, ◌+◌, ◌≤◌, ◌≡◌, false, List, ltb, length}
use Rattle.std.proofs.Math.Logic.{inr}
use Rattle.std.proofs.Common.{le-ltb}
use Rattle.frames.specs.declared.Entry.{Entry}
use Rattle.raft.specs.Record.{State, last_index, handed_out}
use Rattle.raft.specs.Append.{lacks, joined, cuts_committed, commit_after}
use Rattle.history.specs.InForce.{Rule}
use Rattle.history.specs.History.{History, Facts}
use Rattle.history.proofs.Descent.{won-descends}
use Rattle.history.proofs.Book.{sender-holds}
use Rattle.history.proofs.Join.{offered-long, no_cut, joined-joins}
use Rattle.history.proofs.Handed.{Hands, joins-hands}
use Rattle.history.specs.Grow.{acks_now, moved}
use Rattle.history.proofs.Steps.{accepts, accepts-facts, accepts-later}
use Rattle.history.proofs.Later.{Later}
use Rattle.history.proofs.Told.{Sending, sending_won, hands-later}

-- What an append leaves behind, at box i in term s: the history, and what the box then hands out.
pub record Accepted (rule : Rule) (h : History) (i s index : ℕ) (es own : List Entry) (commit : ℕ) : Type 0 where
  pub facts : Facts rule (accepts i s index es h)
  pub later : Later h (accepts i s index es h)
  pub acked : (accepts i s index es h).acked i s (index + length es)
  pub hands : Hands rule (accepts i s index es h) s (joined own index es) commit

module _ {rule : Rule} {h : History} (f : Facts rule h) {from term index prior commit : ℕ} {es : List Entry}
    (sent : Sending rule h from term index prior commit es) where
  -- Alarm 6: an append of a term that a box has won comes from that box.
  pub no_rival : (me : ℕ) (start : List Entry) → h.leaders.won term me start → from ≡ me
  no_rival me start w = f.won_once term from me sent.start start sent.won w

  -- Alarm 7: the sender's log begins with what the box hands out, so nothing of it is cut.
  pub no_loss : (s : State) → Hands rule h s.term s.log s.commit → s.term ≤ term → lacks s.log index prior ≡ false
      → cuts_committed s index es ≡ false
  unfolding handed_out
  no_loss s x l has = no_cut s x.within sent.offered has (sender-holds f x.covered term (sending_won sent) l)

  -- A box that has not passed the term and does not lack the previous entry accepts: the facts stay, and it hands out what is covered.
  pub append-accepted : (i n : ℕ) → Hands rule h (h.term i) (h.log i) n → h.term i ≤ term → lacks (h.log i) index prior ≡ false
      → Accepted rule h i term index es (h.log i) (commit_after n commit (index + length es))
  unfolding accepts moved
  append-accepted i n x l has =
      let w = sending_won sent in
      let joins = joined-joins (h.log i) sent.offered has (f.descends i) (won-descends f w) in
      let hands = joins-hands f x (record { won = w; within = offered-long sent.offered }) l sent.hands joins in
      let later = accepts-later i term index es h l in
      record {
        facts = accepts-facts i term f l w sent.offered has;
        later = later;
        acked = inr acks_now;
        hands = hands-later f later hands;
      }

-- Alarm 8: what is acknowledged in a leader's term is in its log.
pub no_excess : {rule : Rule} {h : History} → Facts rule h → (s : State) (from index : ℕ) → h.leaders.log s.term ≡ s.log
    → h.acked from s.term index → ltb (last_index s) index ≡ false
no_excess f s from index own a = le-ltb (last_index s) index (rw own at (f.reaches from s.term index a).within)
