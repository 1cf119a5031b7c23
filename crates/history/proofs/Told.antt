-- What a sent frame tells of the history. It stays true as the history grows, so it holds whenever the frame is read, and however often.
-- Assumes nothing.
use Rattle.std.specs.Prelude.{ℕ, ◌≡◌, true, List, length}
use Rattle.frames.specs.declared.Entry.{Entry}
use Rattle.frames.specs.Message.{Message, vote_request, vote_answer, append, append_answer}
use Rattle.raft.specs.Newer.{as_new}
use Rattle.history.specs.InForce.{Rule}
use Rattle.history.specs.History.{History, Won, last_of, Granted, Fair, Facts}
use Rattle.history.proofs.Join.{Offered, offered-later}
use Rattle.history.proofs.Handed.{Hands, hands-longer}
use Rattle.history.proofs.Later.{Later, covered-later}

-- A vote request: its sender asked with a log of this last index and last term.
pub record Asking (h : History) (from term index prior : ℕ) : Type 0 where
  pub log : List Entry
  pub has : h.asked term from log
  pub last : index ≡ length log
  pub newest : prior ≡ last_of log

-- A yes to it: its sender voted, and granted unless the candidate has won.
pub record Vote (h : History) (from term to : ℕ) : Type 0 where
  pub voted : h.voted from term to
  pub counts : ((start : List Entry) → h.leaders.won term to start → ⊥) → Granted h.granted from term to

-- An append: its sender won the term, offers a piece of its log, and hands out what is covered.
pub record Sending (rule : Rule) (h : History) (from term index prior commit : ℕ) (es : List Entry) : Type 0 where
  pub start : List Entry
  pub won : h.leaders.won term from start
  pub offered : Offered (h.leaders.log term) index prior es
  pub hands : Hands rule h term (h.leaders.log term) commit

-- What each kind of frame tells; a no tells nothing.
unfoldable pub Tells : Rule → History → Message → Type 0
Tells rule h (vote_request from to term index prior) = Asking h from term index prior
Tells rule h (vote_answer from to term reply) = reply ≡ 1 → Vote h from term to
Tells rule h (append from to term index prior commit es) = Sending rule h from term index prior commit es
Tells rule h (append_answer from to term reply index) = reply ≡ 1 → h.acked from term index

-- who sends an append has won its term
pub sending_won : {rule : Rule} {from term index prior commit : ℕ} {h : History} {es : List Entry} → Sending rule h from term index prior commit es
    → Won h.leaders term
sending_won {from = from} s = record { box = from; start = s.start; has = s.won }

-- a box that finds the asker's log at least as new as its own gives a fair vote
pub asking_fair : {h : History} {from term index prior : ℕ} (own : List Entry) → Asking h from term index prior
    → as_new index prior (length own) (last_of own) ≡ true → Fair h.asked term from own
asking_fair own a new = record { log = a.log; has = a.has; newer = rw (a.last, a.newest) at new }

module _ {rule : Rule} {h more : History} (f : Facts rule h) (later : Later h more) where
  -- what a box hands out, its log being as it was
  pub hands-later : {term n : ℕ} {log : List Entry} → Hands rule h term log n → Hands rule more term log n
  hands-later x = record { within = x.within; covered = covered-later f later x.covered }

  -- what a leader hands out, its log having grown
  leader-hands-later : {t n : ℕ} → Won h.leaders t → Hands rule h t (h.leaders.log t) n → Hands rule more t (more.leaders.log t) n
  leader-hands-later {t} w x = hands-longer (later.leaders.log t w) (hands-later x)

  -- each kind of frame
  asking_later : {from term index prior : ℕ} → Asking h from term index prior → Asking more from term index prior
  asking_later {from} {term} a = record { log = a.log; has = later.asked term from a.log a.has; last = a.last; newest = a.newest }

  -- and that a vote was given
  pub vote-later : {from term to : ℕ} → Vote h from term to → Vote more from term to
  vote-later {from} {term} {to} v =
      record {
        voted = later.voted from term to v.voted;
        counts = λ free. let g = v.counts (λ start w. free start (later.leaders.won term to start w)) in
            record { log = g.log; has = later.granted from term to g.log g.has };
      }

  sending_later : {from term index prior commit : ℕ} {es : List Entry} → Sending rule h from term index prior commit es
      → Sending rule more from term index prior commit es
  sending_later {from} {term} s =
      record {
        start = s.start;
        won = later.leaders.won term from s.start s.won;
        offered = offered-later (later.leaders.log term (sending_won s)) s.offered;
        hands = leader-hands-later (sending_won s) s.hands;
      }

  -- What a frame told, it tells of every later history.
  pub tells-later : (m : Message) → Tells rule h m → Tells rule more m
  unfolding Tells
  tells-later (vote_request from to term index prior) a = asking_later a
  tells-later (vote_answer from to term reply) v = λ e. vote-later (v e)
  tells-later (append from to term index prior commit es) s = sending_later s
  tells-later (append_answer from to term reply index) a = λ e. later.acked from term index (a e)
