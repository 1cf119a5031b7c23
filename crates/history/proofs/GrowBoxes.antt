-- The facts stay when a box moves on and acknowledges: a leader its own log, a follower what it has joined. Assumes nothing.
use Rattle.std.specs.Prelude.{ℕ, suc, ◌≤◌, ◌<◌, ◌≡◌, List, take}
use Rattle.std.proofs.Common.{le_refl, arith, ap, inl, inr, take-take}
use Rattle.std.proofs.Math.Decide.{dec_lt}
use Rattle.frames.specs.declared.Entry.{Entry}
use Rattle.history.specs.Begins.{Begins}
use Rattle.history.specs.BeginsLaws.{begins_trans, begins-take, begins-known}
use Rattle.history.specs.History.{History, Won, Descends, Within, Reaches, Keeps, kept, lost, Retains, Facts}
use Rattle.history.proofs.Descent.{within_more, won-within, won-descends}
use Rattle.history.specs.PutLaws.{put_same, put_both, put_all}
use Rattle.history.specs.Grow.{raised, moved, keeps_more}
use Rattle.history.proofs.Join.{Joins, joins-keeps, joins-first, joins-descends, joins-within}
use Rattle.history.specs.InForce.{Rule}
use Rattle.history.proofs.Later.{chained_later, moved_later}
use Rattle.history.proofs.GrowVotes.{raised-facts}

-- What is to be shown of a box that moves on to term s with a log, and acknowledges index m.
record MovesOn (h : History) (i s m : ℕ) (next : List Entry) : Type 0 where
  higher : h.term i ≤ s
  reaches : Reaches h.leaders s m
  first : Begins (take m (h.leaders.log s)) next
  descends : Descends h.leaders next
  within : Within s next
  keeps : (t n : ℕ) → h.acked i t n → Keeps h.leaders t n (suc s) next

-- Each box then keeps what it acknowledged: the box that moves on by what is shown of it, the others as before.
moved_keeps : {rule : Rule} {h : History} (i s m : ℕ) (next : List Entry) → Facts rule h → MovesOn h i s m next → (j t n : ℕ)
    → (moved i s m next h).acked j t n → Keeps h.leaders t n (suc ((moved i s m next h).term j)) ((moved i s m next h).log j)
unfolding moved raised
moved_keeps {h = h} i s m next f x = put_both Keeping h.term h.log i s next own others
  where
    more : History
    more = moved i s m next h

    Keeping : ℕ → ℕ → List Entry → Type 0
    Keeping j term log = (t n : ℕ) → more.acked j t n → Keeps h.leaders t n (suc term) log

    own : (t n : ℕ) → more.acked i t n → Keeps h.leaders t n (suc s) next
    own t n (inl a) = x.keeps t n a
    own t n (inr q) = kept (rw (q.term, ← take-take n m (h.leaders.log s) q.index) (begins_trans (begins-take n _) x.first))

    others : (j : ℕ) → (j ≡ i → ⊥) → (t n : ℕ) → more.acked j t n → Keeps h.leaders t n (suc (h.term j)) (h.log j)
    others j not t n (inl a) = f.keeps j t n a
    others j not t n (inr q) = absurd (not q.box)

-- A box moves on. What it granted it granted in terms that it had reached, so its new acknowledgement is of none below them.
moved_facts : {rule : Rule} {h : History} (i s m : ℕ) (next : List Entry) → Facts rule h → MovesOn h i s m next
    → Facts rule (moved i s m next h)
unfolding moved raised
moved_facts {rule} {h} i s m next f x =
    let up = raised-facts i s f x.higher in
    record {
      one_vote = f.one_vote;
      granted_voted = f.granted_voted;
      asked_once = f.asked_once;
      asked_descends = f.asked_descends;
      asked_below = f.asked_below;
      fair = f.fair;
      won_asked = f.won_asked;
      won_once = f.won_once;
      winning = f.winning;
      leading = f.leading;
      granted_descends = f.granted_descends;
      descends = put_all (λ j log. Descends h.leaders log) h.log i next x.descends (λ j n. f.descends j);
      within = within;
      reaches = reaches;
      lower = lower;
      keeping = keeping;
      keeps = moved_keeps i s m next f x;
      asked_reached = up.asked_reached;
      voted_reached = up.voted_reached;
      acked_reached = λ j t n a. reached j t n (up.acked_reached j t n) a;
      chain = λ t c start w. chained_later f (moved_later i s m next h x.higher) (f.chain t c start w);
    }
  where
    more : History
    more = moved i s m next h

    within : (j : ℕ) → Within (more.term j) (more.log j)
    within = put_both (λ j term log. Within term log) h.term h.log i s next x.within (λ j n. f.within j)

    reaches : (j t n : ℕ) → more.acked j t n → Reaches h.leaders t n
    reaches j t n (inl a) = f.reaches j t n a
    reaches j t n (inr q) = rw q.term (record { won = x.reaches.won; within = omega (arith, q.index, x.reaches.within) })

    lower : (j t n k : ℕ) → more.acked j t n → k ≤ n → more.acked j t k
    lower j t n k (inl a) l = inl (f.lower j t n k a l)
    lower j t n k (inr q) l = inr (record { box = q.box; term = q.term; index = omega (arith, q.index) })

    keeping : (j t n u c : ℕ) (log : List Entry) → more.acked j t n → h.granted j u c log → t < u → Retains h.leaders t n u c log
    keeping j t n u c log (inl a) g l = f.keeping j t n u c log a g l
    keeping j t n u c log (inr q) g l =
        absurd (omega (arith, f.voted_reached j u c (f.granted_voted j u c log g), ap h.term q.box, q.term, x.higher))

    reached : (j t n : ℕ) → (h.acked j t n → t ≤ more.term j) → more.acked j t n → t ≤ more.term j
    reached j t n old (inl a) = old a
    reached j t n old (inr q) = rw (q.term, q.box, put_same h.term i s) (le_refl s)

module _ {rule : Rule} {h : History} (f : Facts rule h) where
  -- What is cut differs from the sender's log, and that begins with the log that won the sender's term. So what a box keeps of term t it keeps in the
  -- joined log, or the sender's term was won with a log that lacks it.
  joined_keeps : {i s m : ℕ} {next : List Entry} → Won h.leaders s → h.term i ≤ s → Joins (h.log i) (h.leaders.log s) m next
      → (t n : ℕ) → h.acked i t n → Keeps h.leaders t n (suc s) next
  joined_keeps {i} {s} {m} {next} w l x t n a = go (f.keeps i t n a)
    where
      sent : Begins (take n (h.leaders.log t)) (h.log i) → Begins (take n (h.leaders.log t)) (h.leaders.log s)
          → Keeps h.leaders t n (suc s) next
      sent p q = kept (joins-keeps x p q)

      started : Begins (take n (h.leaders.log t)) (h.log i) → t < s → Dec (Begins (take n (h.leaders.log t)) w.start)
          → Keeps h.leaders t n (suc s) next
      started p b (yes q) = sent p (begins_trans q (f.leading s w.box w.start w.has).begins)
      started p b (no q) =
          lost (record { term = s; above = b; below = omega arith; box = w.box; start = w.start; won = w.has; lacks = q })

      go : Keeps h.leaders t n (suc (h.term i)) (h.log i) → Keeps h.leaders t n (suc s) next
      go (lost y) = keeps_more (lost y) (suc s) (omega arith)
      go (kept p) = split (dec_lt t s)
        where
          split : Dec (t < s) → Keeps h.leaders t n (suc s) next
          split (yes b) = started p b (begins-known _ _)
          split (no b) = sent p (rw same (begins-take n _))
            where
              same : t ≡ s
              same = omega (arith, f.acked_reached i t n a)

  -- A box joins the first m of the log of a leader whose term it has not passed, and acknowledges m.
  pub accepted-facts : (i s m : ℕ) (next : List Entry) → h.term i ≤ s → Reaches h.leaders s m → Joins (h.log i) (h.leaders.log s) m next
      → Facts rule (moved i s m next h)
  accepted-facts i s m next l r x =
      moved_facts i s m next f
      (record {
        higher = l;
        reaches = r;
        first = joins-first x;
        descends = joins-descends x (f.descends i) (won-descends f r.won);
        within = joins-within x (within_more (f.within i) s l) (won-within f r.won);
        keeps = joined_keeps r.won l x;
      })
