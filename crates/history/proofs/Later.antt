-- A later history: it has all that the earlier one had, so what was committed stays committed, and a configuration that may be there may stay.
-- Assumes nothing.
use Rattle.std.specs.Prelude.{ℕ, ◌≤◌, List}
use Rattle.std.proofs.Common.{le_refl, le_trans, arith, sym, subst, ◌∙◌, inl}
use Rattle.frames.specs.declared.Entry.{Entry}
use Rattle.history.specs.BeginsLaws.{begins_self, begins_trans, begins-long, begins-term}
use Rattle.history.specs.Conf.{Agree}
use Rattle.history.proofs.ConfLaws.{agree-map}
use Rattle.history.specs.Alike.{alike_both, begins_alike}
use Rattle.history.specs.InForce.{Rule, in_force-same}
use Rattle.history.specs.History.{Leaders, History, Committed, Settled, none, by, Chained, Facts}
use Rattle.history.proofs.Lineage.{committed-reaches}
use Rattle.history.proofs.Book.{Covered, nothing, written}
use Rattle.history.specs.PutLaws.{put_up}
use Rattle.history.specs.Grow.{raised, stood, gave, with_leaders, moved, Grows, won-grows, first-grows}

-- All that happened has happened, leaders' logs only grew, and no box went back in its term.
pub record Later (h more : History) : Type 0 where
  pub asked : (t c : ℕ) (log : List Entry) → h.asked t c log → more.asked t c log
  pub voted : (j t c : ℕ) → h.voted j t c → more.voted j t c
  pub granted : (j t c : ℕ) (log : List Entry) → h.granted j t c log → more.granted j t c log
  pub leaders : Grows h.leaders more.leaders
  pub acked : (j t n : ℕ) → h.acked j t n → more.acked j t n
  pub term : (j : ℕ) → h.term j ≤ more.term j

-- leaders' logs as they are
grows_self : (l : Leaders) → Grows l l
grows_self l = record { won = λ t c start w. w; log = λ t w. begins_self (l.log t) }

-- a history is later than itself,
pub later_self : (h : History) → Later h h
later_self h =
    record {
      asked = λ t c log a. a;
      voted = λ j t c v. v;
      granted = λ j t c log g. g;
      leaders = grows_self h.leaders;
      acked = λ j t n a. a;
      term = λ j. le_refl (h.term j);
    }

-- and what is later than later is later
pub later_trans : {a b c : History} → Later a b → Later b c → Later a c
later_trans p q =
    record {
      asked = λ t c log a. q.asked t c log (p.asked t c log a);
      voted = λ j t c v. q.voted j t c (p.voted j t c v);
      granted = λ j t c log g. q.granted j t c log (p.granted j t c log g);
      leaders =
          record {
            won = λ t c start w. q.leaders.won t c start (p.leaders.won t c start w);
            log = λ t w. begins_trans (p.leaders.log t w) (q.leaders.log t (won-grows p.leaders w));
          };
      acked = λ j t n a. q.acked j t n (p.acked j t n a);
      term = λ j. le_trans (p.term j) (q.term j);
    }

-- ---- what stays

module _ {rule : Rule} {h more : History} (f : Facts rule h) (later : Later h more) where
  -- its leader's log begins as it did, so the same is in force with as many entries
  pub committed-later : {t n m : ℕ} → Committed rule h t n m → Committed rule more t n m
  committed-later {t} {n} {m} x =
      let g = later.leaders.log t (committed-reaches f x).won in
      record {
        least = x.least;
        within = x.within;
        reach = omega (arith, x.reach, begins-long g);
        own = sym (begins-term g n (omega (arith, x.within, x.reach))) ∙ x.own;
        agree = subst (λ c. Agree c (λ j. more.acked j t n)) (in_force-same rule (begins_alike g m x.reach) m (le_refl _))
            (agree-map (λ j a. later.acked j t n a) x.agree);
      }

  pub settled-later : {t k p : ℕ} {log : List Entry} → Settled rule h t k p log → Settled rule more t k p log
  settled-later (none e) = none e
  settled-later {p = p} (by {u} x l a b) =
      by (committed-later x) l
      (alike_both a (begins_alike (later.leaders.log u (committed-reaches f x).won) p (omega (arith, x.within, x.reach)))) b

  pub chained_later : {t : ℕ} {start log : List Entry} → Chained rule h t start log → Chained rule more t start log
  chained_later x =
      record { at = λ k a b e. let y = x.at k a b e in record { extends = y.extends; settled = settled-later y.settled } }

-- what is covered stays covered
pub covered-later : {rule : Rule} {h more : History} {bound : ℕ} {log : List Entry} → Facts rule h → Later h more → Covered rule h bound log
    → Covered rule more bound log
covered-later f later (nothing e) = nothing e
covered-later f later (written m a b) = written (committed-later f later m) a (rw (first-grows later.leaders (committed-reaches f m)) at b)

-- ---- each step makes a later history

-- a term taken
pub raised-later : (i s : ℕ) (h : History) → h.term i ≤ s → Later h (raised i s h)
unfolding raised
raised-later i s h l =
    record {
      asked = λ t c log a. a;
      voted = λ j t c v. v;
      granted = λ j t c log g. g;
      leaders = grows_self h.leaders;
      acked = λ j t n a. a;
      term = put_up h.term i s l;
    }

-- a candidate
pub stood-later : (c t : ℕ) (h : History) → h.term c ≤ t → Later h (stood c t h)
unfolding stood
stood-later c t h l =
    record {
      asked = λ t c log a. inl a;
      voted = λ j t c v. v;
      granted = λ j t c log g. g;
      leaders = grows_self h.leaders;
      acked = λ j t n a. a;
      term = put_up h.term c t l;
    }

-- a vote
pub gave-later : (i t c : ℕ) (h : History) → Later h (gave i t c h)
unfolding gave
gave-later i t c h =
    record {
      asked = λ t c log a. a;
      voted = λ j t c v. inl v;
      granted = λ j t c log g. inl g;
      leaders = grows_self h.leaders;
      acked = λ j t n a. a;
      term = λ j. le_refl (h.term j);
    }

-- a change of the leaders
pub led-later : (h : History) {l : Leaders} → Grows h.leaders l → Later h (with_leaders l h)
unfolding with_leaders
led-later h g =
    record {
      asked = λ t c log a. a;
      voted = λ j t c v. v;
      granted = λ j t c log g. g;
      leaders = g;
      acked = λ j t n a. a;
      term = λ j. le_refl (h.term j);
    }

-- a box that moves on
pub moved_later : (i s m : ℕ) (next : List Entry) (h : History) → h.term i ≤ s → Later h (moved i s m next h)
unfolding moved
moved_later i s m next h l =
    record {
      asked = λ t c log a. a;
      voted = λ j t c v. v;
      granted = λ j t c log g. g;
      leaders = grows_self h.leaders;
      acked = λ j t n a. inl a;
      term = put_up h.term i s l;
    }
