-- A history that has grown by what one box did: it is later, and for every other box as it was. So the others stay kept. Assumes nothing.
use Rattle.std.specs.Prelude.{ℕ, suc, ◌≤◌, ◌≡◌, refl, List, ◌⊎◌}
use Rattle.std.proofs.Common.{◌∙◌, sym, inl, inr}
use Rattle.frames.specs.declared.Entry.{Entry}
use Rattle.raft.specs.Record.{State}
use Rattle.history.specs.InForce.{Rule, fixed}
use Rattle.history.specs.History.{History, Facts}
use Rattle.history.specs.PutLaws.{put_other}
use Rattle.history.specs.Grow.{asks-now, Asks, raised, stood, Votes, gave, with_leaders, winner, longer, moved}
use Rattle.history.proofs.Later.{Later, later_self, later_trans, raised-later}
use Rattle.history.proofs.Steps.{asks, gives, wins, adds, accepts, asks-later, gives-later, adds-later, accepts-later}
use Rattle.history.proofs.Told.{hands-later, vote-later}
use Rattle.safety.specs.Carried.{AsCandidate, AsLeader, Kept}

-- No other box has moved, voted or won, and the logs of the terms that others won are as they were.
pub record Grown (i : ℕ) (h more : History) : Type 0 where
  pub later : Later h more
  pub term : (j : ℕ) → (j ≡ i → ⊥) → more.term j ≡ h.term j
  pub log : (j : ℕ) → (j ≡ i → ⊥) → more.log j ≡ h.log j
  pub voted : (j t d : ℕ) → (j ≡ i → ⊥) → more.voted j t d → h.voted j t d
  pub won : (t d : ℕ) (start : List Entry) → (d ≡ i → ⊥) → more.leaders.won t d start → h.leaders.won t d start
  pub logs : (t d : ℕ) (start : List Entry) → (d ≡ i → ⊥) → h.leaders.won t d start → more.leaders.log t ≡ h.leaders.log t

-- Nothing has happened,
pub grown_self : (i : ℕ) (h : History) → Grown i h h
grown_self i h =
    record {
      later = later_self h;
      term = λ j n. refl;
      log = λ j n. refl;
      voted = λ j t d n v. v;
      won = λ t d start n w. w;
      logs = λ t d start n w. refl;
    }

-- or one thing behind the other.
pub grown_trans : {i : ℕ} {a b c : History} → Grown i a b → Grown i b c → Grown i a c
grown_trans p q =
    record {
      later = later_trans p.later q.later;
      term = λ j n. q.term j n ∙ p.term j n;
      log = λ j n. q.log j n ∙ p.log j n;
      voted = λ j t d n v. p.voted j t d n (q.voted j t d n v);
      won = λ t d start n w. p.won t d start n (q.won t d start n w);
      logs = λ t d start n w. q.logs t d start n (p.later.leaders.won t d start w) ∙ p.logs t d start n w;
    }

-- ---- the steps

-- A term is taken,
pub raised-grown : (i s : ℕ) (h : History) → h.term i ≤ s → Grown i h (raised i s h)
unfolding raised
raised-grown i s h l =
    record {
      later = raised-later i s h l;
      term = λ j n. put_other h.term i s j n;
      log = λ j n. refl;
      voted = λ j t d n v. v;
      won = λ t d start n w. w;
      logs = λ t d start n w. refl;
    }

-- a vote that was not box i's was given before
other-voted : {A : Type 0} {i t c j s d : ℕ} → (j ≡ i → ⊥) → A ⊎ Votes i t c j s d → A
other-voted n (inl v) = v
other-voted n (inr q) = absurd (n q.box)

-- a candidate asks,
pub asks-grown : (i : ℕ) (h : History) → Grown i h (asks i h)
unfolding asks stood gave
asks-grown i h =
    record {
      later = asks-later i h;
      term = λ j n. put_other h.term i (suc (h.term i)) j n;
      log = λ j n. refl;
      voted = λ j t d n v. other-voted n v;
      won = λ t d start n w. w;
      logs = λ t d start n w. refl;
    }

-- a vote is given,
pub gives-grown : (i t c : ℕ) (h : History) → h.term i ≤ t → Grown i h (gives i t c h)
unfolding gives gave raised
gives-grown i t c h l =
    record {
      later = gives-later i t c h l;
      term = λ j n. put_other h.term i t j n;
      log = λ j n. refl;
      voted = λ j t d n v. other-voted n v;
      won = λ t d start n w. w;
      logs = λ t d start n w. refl;
    }

-- an append is accepted,
pub accepts-grown : (i s index : ℕ) (es : List Entry) (h : History) → h.term i ≤ s → Grown i h (accepts i s index es h)
unfolding accepts moved
accepts-grown i s index es h l =
    record {
      later = accepts-later i s index es h l;
      term = λ j n. put_other h.term i s j n;
      log = λ j n. put_other h.log i _ j n;
      voted = λ j t d n v. v;
      won = λ t d start n w. w;
      logs = λ t d start n w. refl;
    }

-- A term that another box has won is not the one that box c has won.
apart : {rule : Rule} {h : History} → Facts rule h → (t c d : ℕ) (start other : List Entry) → h.leaders.won t c start
    → h.leaders.won t d other → (d ≡ c → ⊥) → ⊥
apart f t c d start other v w n = n (f.won_once t d c other start w v)

-- a candidate wins,
pub wins-grown : {rule : Rule} {h : History} (c : ℕ) → Facts rule (wins c h) → Later h (wins c h) → Grown c h (wins c h)
unfolding wins moved with_leaders winner
wins-grown {rule} {h} c f l =
    record {
      later = l;
      term = λ j n. put_other h.term c _ j n;
      log = λ j n. put_other h.log c _ j n;
      voted = λ j t d n v. v;
      won = λ t d start n w. before n w;
      logs = λ t d start n w. put_other h.leaders.log (h.term c) (h.log c) t
          (λ e. apart f (h.term c) c d (h.log c) start (inr asks-now) (inl (rw e at w)) n);
    }
  where
    before : {t d : ℕ} {start : List Entry} → (d ≡ c → ⊥) → h.leaders.won t d start ⊎ Asks c (h.term c) (h.log c) t d start
        → h.leaders.won t d start
    before n (inl w) = w
    before n (inr q) = absurd (n q.box)

-- and a leader adds an entry.
pub adds-grown : {rule : Rule} {h : History} (c : ℕ) (e : Entry) → Facts rule h → (start : List Entry)
    → h.leaders.won (h.term c) c start → Grown c h (adds c e h)
unfolding adds moved with_leaders longer
adds-grown {rule} {h} c e f start own =
    record {
      later = adds-later c e h;
      term = λ j n. put_other h.term c _ j n;
      log = λ j n. put_other h.log c _ j n;
      voted = λ j t d n v. v;
      won = λ t d start n w. w;
      logs = λ t d other n w. put_other h.leaders.log (h.term c) _ t
          (λ x. apart f (h.term c) c d start other own (rw x at w) n);
    }

-- ---- what stays kept

module _ {h more : History} {s : State} (f : Facts (fixed s.members) h) (l : Later h more)
    (own : more.log s.me ≡ h.log s.me) where
  -- a candidate, where it has won nothing
  pub candidate-later : ((start : List Entry) → more.leaders.won s.term s.me start → h.leaders.won s.term s.me start)
      → AsCandidate h s → AsCandidate more s
  candidate-later same o =
      record {
        asked = rw own (l.asked s.term s.me (h.log s.me) o.asked);
        unwon = λ start w. o.unwon start (same start w);
        votes = λ j m v. vote-later f l (o.votes j m v);
      }

  -- a leader, where its term's log is as it was
  pub leader-later : ((start : List Entry) → h.leaders.won s.term s.me start → more.leaders.log s.term ≡ h.leaders.log s.term)
      → AsLeader h s → AsLeader more s
  leader-later same o =
      record {
        start = o.start;
        won = l.leaders.won s.term s.me o.start o.won;
        log = same o.start o.won ∙ o.log ∙ sym own;
        acked = λ j m a. l.acked j s.term _ (o.acked j m a);
      }

-- **Another box stays kept.**
pub kept-aside : {i : ℕ} {h more : History} (s : State) → Facts (fixed s.members) h → Grown i h more → (s.me ≡ i → ⊥)
    → Kept h s → Kept more s
kept-aside s f g n o =
    record {
      term = g.term s.me n ∙ o.term;
      log = g.log s.me n ∙ o.log;
      vote = λ d v. o.vote d (g.voted s.me s.term d n v);
      hands = rw (g.log s.me n) (hands-later f g.later o.hands);
      stands = λ r. candidate-later f g.later (g.log s.me n) (λ start w. g.won s.term s.me start n w) (o.stands r);
      leads = λ r. leader-later f g.later (g.log s.me n) (λ start w. g.logs s.term s.me start n w) (o.leads r);
    }
