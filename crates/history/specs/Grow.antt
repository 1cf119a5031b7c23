-- How a history grows: each of these adds to it or moves one box on; and that leaders' logs that only grow keep what comes from them.
-- Assumes nothing.
use Rattle.std.specs.Prelude.{ℕ, ◌≤◌, ◌≡◌, refl, List, [], ◌∷◌, ◌++◌, ◌⊎◌, take}
use Rattle.std.proofs.Common.{arith}
use Rattle.frames.specs.declared.Entry.{Entry}
use Rattle.history.specs.Begins.{Begins}
use Rattle.history.specs.BeginsLaws.{begins-long, begins-same, begins_trans}
use Rattle.history.specs.Put.{put}
use Rattle.history.specs.History.{Leaders, History, Won, Comes, Descends, Reaches, Keeps, kept, lost}

-- ---- the steps

-- A box takes a higher term.
unfoldable pub raised : (i s : ℕ) → History → History
raised i s h =
    record {
      asked = h.asked;
      voted = h.voted;
      granted = h.granted;
      leaders = h.leaders;
      acked = h.acked;
      term = put h.term i s;
      log = h.log;
    }

-- Box c becomes candidate of term t with its log.
pub record Asks (c t : ℕ) (own : List Entry) (s d : ℕ) (log : List Entry) : Type 0 where
  pub term : s ≡ t
  pub box : d ≡ c
  pub whole : log ≡ own

-- as it does now
pub asks-now : {c t : ℕ} {own : List Entry} → Asks c t own t c own
asks-now = record { term = refl; box = refl; whole = refl }

-- the history in which it has
unfoldable pub stood : (c t : ℕ) → History → History
stood c t h =
    record {
      asked = λ s d log. h.asked s d log ⊎ Asks c t (h.log c) s d log;
      voted = h.voted;
      granted = h.granted;
      leaders = h.leaders;
      acked = h.acked;
      term = put h.term c t;
      log = h.log;
    }

-- Box i gives its vote of term t to c. It is granted if c has not won the term.
pub record Votes (i t c : ℕ) (j s d : ℕ) : Type 0 where
  pub box : j ≡ i
  pub term : s ≡ t
  pub chosen : d ≡ c

-- and its log was this
pub record Granting (l : Leaders) (i t c : ℕ) (own : List Entry) (j s d : ℕ) (log : List Entry) : Type 0 where
  pub vote : Votes i t c j s d
  pub whole : log ≡ own
  pub unwon : (start : List Entry) → l.won t c start → ⊥

-- as it does now
pub votes-now : {i t c : ℕ} → Votes i t c i t c
votes-now = record { box = refl; term = refl; chosen = refl }

-- where c has not won
pub grants-now : {l : Leaders} {i t c : ℕ} {own : List Entry} → ((start : List Entry) → l.won t c start → ⊥) → Granting l i t c own i t c own
grants-now free = record { vote = votes-now; whole = refl; unwon = free }

-- the history in which it has
unfoldable pub gave : (i t c : ℕ) → History → History
gave i t c h =
    record {
      asked = h.asked;
      voted = λ j s d. h.voted j s d ⊎ Votes i t c j s d;
      granted = λ j s d log. h.granted j s d log ⊎ Granting h.leaders i t c (h.log i) j s d log;
      leaders = h.leaders;
      acked = h.acked;
      term = h.term;
      log = h.log;
    }

-- The leaders change.
unfoldable pub with_leaders : Leaders → History → History
with_leaders l h =
    record { asked = h.asked; voted = h.voted; granted = h.granted; leaders = l; acked = h.acked; term = h.term; log = h.log }

-- Box c wins term t with its log,
unfoldable pub winner : (t c : ℕ) → List Entry → Leaders → Leaders
winner t c start l = record { won = λ s d log. l.won s d log ⊎ Asks c t start s d log; log = put l.log t start }

-- and adds an entry to it.
unfoldable pub longer : ℕ → Entry → Leaders → Leaders
longer t e l = record { won = l.won; log = put l.log t (l.log t ++ (e ∷ [])) }

-- Box i stands in term s with a log, and acknowledges index m of that term.
pub record Acks (i s m : ℕ) (j t n : ℕ) : Type 0 where
  pub box : j ≡ i
  pub term : t ≡ s
  pub index : n ≤ m

-- as it does now
pub acks_now : {i s m : ℕ} → Acks i s m i s m
acks_now = record { box = refl; term = refl; index = omega arith }

-- the history in which it has
unfoldable pub moved : (i s m : ℕ) → List Entry → History → History
moved i s m next h =
    record {
      asked = h.asked;
      voted = h.voted;
      granted = h.granted;
      leaders = h.leaders;
      acked = λ j t n. h.acked j t n ⊎ Acks i s m j t n;
      term = put h.term i s;
      log = put h.log i next;
    }

-- ---- leaders' logs that only grow

-- Who won has won, and a won term's log begins as it did.
pub record Grows (l more : Leaders) : Type 0 where
  pub won : (t c : ℕ) (start : List Entry) → l.won t c start → more.won t c start
  pub log : (t : ℕ) → Won l t → Begins (l.log t) (more.log t)

module _ {l more : Leaders} (g : Grows l more) where
  -- a won term stays won
  pub won-grows : {t : ℕ} → Won l t → Won more t
  won-grows {t} w = record { box = w.box; start = w.start; has = g.won t w.box w.start w.has }

  -- what is acknowledged stays there
  pub reaches-grows : {t n : ℕ} → Reaches l t n → Reaches more t n
  reaches-grows {t} {n} r = record { won = won-grows r.won; within = omega (arith, r.within, begins-long (g.log t r.won)) }

  -- what was acknowledged stays what it is
  pub first-grows : {t n : ℕ} → Reaches l t n → take n (l.log t) ≡ take n (more.log t)
  first-grows {t} {n} r = begins-same (g.log t r.won) n r.within

  -- a log that comes from leaders' logs goes on doing so
  pub descends-grows : {log : List Entry} → Descends l log → Descends more log
  descends-grows {log} d = record { at = λ k a b. comes (d.at k a b) }
    where
      comes : {k : ℕ} → Comes l log k → Comes more log k
      comes {k} c = record { won = won-grows c.won; begins = begins_trans c.begins (g.log _ c.won) }

  -- and what is kept stays kept, or lost
  pub keeps-grows : {t n bound : ℕ} {log : List Entry} → Reaches l t n → Keeps l t n bound log → Keeps more t n bound log
  keeps-grows r (kept p) = kept (rw (first-grows r) at p)
  keeps-grows r (lost x) =
      lost
      (record {
        term = x.term;
        above = x.above;
        below = x.below;
        box = x.box;
        start = x.start;
        won = g.won x.term x.box x.start x.won;
        lacks = λ b. x.lacks (rw (first-grows r) b);
      })

-- a higher bound
pub keeps_more : {l : Leaders} {t n bound : ℕ} {log : List Entry} → Keeps l t n bound log → (higher : ℕ) → bound ≤ higher
    → Keeps l t n higher log
keeps_more (kept p) higher a = kept p
keeps_more (lost x) higher a =
    lost
    (record {
      term = x.term;
      above = x.above;
      below = omega (arith, x.below);
      box = x.box;
      start = x.start;
      won = x.won;
      lacks = x.lacks;
    })
