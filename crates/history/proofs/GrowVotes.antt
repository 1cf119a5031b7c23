-- The facts stay when a box takes a higher term, becomes candidate, or gives its vote. Assumes nothing.
use Rattle.std.specs.Prelude.{ℕ, suc, ◌≤◌, ◌<◌, ◌≡◌, List, ◌⊎◌, length}
use Rattle.std.proofs.Math.Decide.{dec_lt}
use Rattle.std.proofs.Common.{le_refl, arith, sym, ap, ◌∙◌, inl, inr}
use Rattle.frames.specs.declared.Entry.{Entry}
use Rattle.raft.specs.Record.{term_at}
use Rattle.history.specs.History.{Leaders, History, Fair, Descends, Keeps, kept, lost, Retains, retains, beaten, Facts}
use Rattle.history.proofs.Descent.{within_more}
use Rattle.history.specs.Put.{put}
use Rattle.history.specs.PutLaws.{put_same, put_up}
use Rattle.history.specs.Grow.{raised, Asks, stood, Votes, gave, keeps_more}
use Rattle.history.proofs.Later.{chained_later, raised-later, stood-later, gave-later}
use Rattle.history.proofs.ConfLaws.{agree-map}
use Rattle.history.specs.InForce.{Rule}

-- A box takes a higher term: what it did, it did in a term that it has reached.
pub raised-facts : {rule : Rule} {h : History} (i s : ℕ) → Facts rule h → h.term i ≤ s → Facts rule (raised i s h)
unfolding raised
raised-facts {rule} {h} i s f l =
    record {
      one_vote = f.one_vote;
      granted_voted = f.granted_voted;
      asked_once = f.asked_once;
      asked_descends = f.asked_descends;
      asked_below = f.asked_below;
      fair = f.fair;
      won_asked = f.won_asked;
      won_once = f.won_once;
      winning = f.winning;
      leading = f.leading;
      granted_descends = f.granted_descends;
      descends = f.descends;
      within = λ j. within_more (f.within j) (put h.term i s j) (up j);
      reaches = f.reaches;
      lower = f.lower;
      keeping = f.keeping;
      keeps = λ j t n a. keeps_more (f.keeps j t n a) (suc (put h.term i s j)) (omega (arith, up j));
      asked_reached = λ t c log a. omega (arith, up c, f.asked_reached t c log a);
      voted_reached = λ j t c v. omega (arith, up j, f.voted_reached j t c v);
      acked_reached = λ j t n a. omega (arith, up j, f.acked_reached j t n a);
      chain = λ t c start w. chained_later f (raised-later i s h l) (f.chain t c start w);
    }
  where
    up : (j : ℕ) → h.term j ≤ put h.term i s j
    up = put_up h.term i s l

-- A box becomes candidate of a term that it had not reached: it had not asked in it, and its log holds no such term.
pub stood-facts : {rule : Rule} {h : History} (c t : ℕ) → Facts rule h → h.term c < t → Facts rule (stood c t h)
unfolding stood raised
stood-facts {rule} {h} c t f l =
    let r = raised-facts c t f (omega arith) in
    record {
      one_vote = r.one_vote;
      granted_voted = r.granted_voted;
      asked_once = once;
      asked_descends = descends;
      asked_below = below;
      fair = λ j s d log g. fair (f.fair j s d log g);
      won_asked = λ s d start w. inl (f.won_asked s d start w);
      won_once = r.won_once;
      winning = r.winning;
      leading = r.leading;
      granted_descends = r.granted_descends;
      descends = r.descends;
      within = r.within;
      reaches = r.reaches;
      lower = r.lower;
      keeping = r.keeping;
      keeps = r.keeps;
      asked_reached = λ s d log a. reached (r.asked_reached s d log) a;
      voted_reached = r.voted_reached;
      acked_reached = r.acked_reached;
      chain = λ s d start w. chained_later f (stood-later c t h (omega arith)) (f.chain s d start w);
    }
  where
    once : (s d : ℕ) (log other : List Entry) → (stood c t h).asked s d log → (stood c t h).asked s d other → log ≡ other
    once s d log other (inl a) (inl b) = f.asked_once s d log other a b
    once s d log other (inl a) (inr q) = absurd (omega (arith, f.asked_reached s d log a, q.term, ap h.term q.box))
    once s d log other (inr q) (inl b) = absurd (omega (arith, f.asked_reached s d other b, q.term, ap h.term q.box))
    once s d log other (inr q) (inr x) = q.whole ∙ sym x.whole

    descends : (s d : ℕ) (log : List Entry) → (stood c t h).asked s d log → Descends h.leaders log
    descends s d log (inl a) = f.asked_descends s d log a
    descends s d log (inr q) = rw q.whole (f.descends c)

    low : (k : ℕ) → 1 ≤ k → k ≤ length (h.log c) → term_at (h.log c) k < t
    low k a b = omega (arith, (f.within c).at k a b)

    below : (s d : ℕ) (log : List Entry) → (stood c t h).asked s d log → (k : ℕ) → 1 ≤ k → k ≤ length log → term_at log k < s
    below s d log (inl a) = f.asked_below s d log a
    below s d log (inr q) = rw (q.whole, q.term) low

    fair : {s d : ℕ} {log : List Entry} → Fair h.asked s d log → Fair (λ s d log. h.asked s d log ⊎ Asks c t (h.log c) s d log) s d log
    fair a = record { log = a.log; has = inl a.has; newer = a.newer }

    reached : {s d : ℕ} {log : List Entry} → (h.asked s d log → s ≤ put h.term c t d) → h.asked s d log ⊎ Asks c t (h.log c) s d log
        → s ≤ put h.term c t d
    reached old (inl a) = old a
    reached {s} {d} old (inr q) = rw (q.term, q.box, put_same h.term c t) (le_refl t)

-- what a box keeps up to its own term, where c has not won that: a lower term was lost, or somebody else won this one
not-by : {l : Leaders} {t n s c : ℕ} {log : List Entry} → Keeps l t n (suc s) log → ((start : List Entry) → l.won s c start → ⊥)
    → Retains l t n s c log
not-by (kept p) unwon = retains (kept p)
not-by {l} {t} {n} {s} {c} {log} (lost x) unwon = go (dec_lt x.term s)
  where
    go : Dec (x.term < s) → Retains l t n s c log
    go (yes b) =
        retains (lost
        (record { term = x.term; above = x.above; below = b; box = x.box; start = x.start; won = x.won; lacks = x.lacks }))
    go (no b) = beaten x.box x.start w (λ e. unwon x.start (rw e at w)) x.lacks
      where
        same : x.term ≡ s
        same = omega (arith, x.below)

        w : l.won s x.box x.start
        w = rw same at x.won

-- A box that had voted for nobody else in the term has still one vote in it.
gave-one_vote : {rule : Rule} {h : History} (i t c : ℕ) → Facts rule h → ((d : ℕ) → h.voted i t d → d ≡ c)
    → (j s d e : ℕ) → (gave i t c h).voted j s d → (gave i t c h).voted j s e → d ≡ e
unfolding gave
gave-one_vote {h = h} i t c f alone = one
  where
    chosen : {j s d e : ℕ} → Votes i t c j s d → h.voted j s e → e ≡ d
    chosen {e = e} q v = alone e (rw (q.box, q.term) at v) ∙ sym q.chosen

    one : (j s d e : ℕ) → (gave i t c h).voted j s d → (gave i t c h).voted j s e → d ≡ e
    one j s d e (inl a) (inl b) = f.one_vote j s d e a b
    one j s d e (inl a) (inr q) = chosen q a
    one j s d e (inr q) (inl b) = sym (chosen q b)
    one j s d e (inr q) (inr x) = q.chosen ∙ sym x.chosen

-- A box votes in its term, for nobody else than before, and for a log at least as new as its own.
pub gave-facts : {rule : Rule} {h : History} (i t c : ℕ) → Facts rule h → h.term i ≡ t → ((d : ℕ) → h.voted i t d → d ≡ c)
    → Fair h.asked t c (h.log i) → Facts rule (gave i t c h)
unfolding gave
gave-facts {rule} {h} i t c f now alone new =
    record {
      one_vote = gave-one_vote i t c f alone;
      granted_voted = voted;
      asked_once = f.asked_once;
      asked_descends = f.asked_descends;
      asked_below = f.asked_below;
      fair = fair;
      won_asked = f.won_asked;
      won_once = f.won_once;
      winning = λ s d start w. agree-map (λ j g. record { log = g.log; has = inl g.has }) (f.winning s d start w);
      leading = f.leading;
      granted_descends = descends;
      descends = f.descends;
      within = f.within;
      reaches = f.reaches;
      lower = f.lower;
      keeping = keeping;
      keeps = f.keeps;
      asked_reached = f.asked_reached;
      voted_reached = reached;
      acked_reached = f.acked_reached;
      chain = λ s d start w. chained_later f (gave-later i t c h) (f.chain s d start w);
    }
  where
    more : History
    more = gave i t c h

    voted : (j s d : ℕ) (log : List Entry) → more.granted j s d log → more.voted j s d
    voted j s d log (inl a) = inl (f.granted_voted j s d log a)
    voted j s d log (inr g) = inr g.vote

    fair : (j s d : ℕ) (log : List Entry) → more.granted j s d log → Fair h.asked s d log
    fair j s d log (inl a) = f.fair j s d log a
    fair j s d log (inr g) = rw (g.vote.term, g.vote.chosen, g.whole) new

    descends : (j s d : ℕ) (log : List Entry) → more.granted j s d log → Descends h.leaders log
    descends j s d log (inl a) = f.granted_descends j s d log a
    descends j s d log (inr g) = rw g.whole (f.descends i)

    keeping : (j u n s d : ℕ) (log : List Entry) → h.acked j u n → more.granted j s d log → u < s → Retains h.leaders u n s d log
    keeping j u n s d log a (inl g) l = f.keeping j u n s d log a g l
    keeping j u n s d log a (inr g) l =
        rw (g.vote.term, g.vote.chosen, g.whole) (not-by (rw now at (f.keeps i u n (rw g.vote.box at a))) g.unwon)

    reached : (j s d : ℕ) → more.voted j s d → s ≤ h.term j
    reached j s d (inl v) = f.voted_reached j s d v
    reached j s d (inr q) = rw (q.term, q.box, now) (le_refl t)
