-- Who wins, or could win, a term holds what was committed in lower terms; and so two who could win one term are one box. From the facts alone.
-- The order of the induction: by the term s that is won; within it by the term t that committed; within that by the length m of its leader's log at
-- that time. Assumes nothing.
use Rattle.std.specs.Prelude.{ℕ, zero, suc, ◌≤◌, ◌<◌, ◌≡◌, refl, Bool, true, false, ◌&&◌, ◌||◌, List, [], ◌∷◌, eqb, ltb, leb, length}
use Rattle.std.proofs.Math.Decide.{dec_le, dec_lt}
use Rattle.std.proofs.Common.{le_refl, arith, sym, subst, length-take-le, eqb-true, ltb-true, leb-true}
use Rattle.digits.specs.Tests.{and_left, and_right}
use Rattle.frames.specs.declared.Entry.{Entry}
use Rattle.raft.specs.Newer.{as_new}
use Rattle.raft.specs.Record.{term_at}
use Rattle.history.specs.Begins.{Begins}
use Rattle.history.specs.BeginsLaws.{begins-long, begins-term, begins_trans, begins-take, begins-both, begins-known}
use Rattle.history.specs.History.{History, Won, last_of, Granted, Descends, kept, lost, first_of, Committed, Before, lower, sooner, Retains, retains, beaten, Facts}
use Rattle.history.proofs.Descent.{term-take, descends-last, won-descends, won-within, never_fall, own-part}
use Rattle.history.specs.Conf.{Met, Agree}
use Rattle.history.proofs.ConfLaws.{meets}
use Rattle.history.specs.Alike.{Alike, alike_swap, alike_both, alike_less, begins_alike, first_alike, alike_first, Shared}
use Rattle.history.specs.InForce.{Rule, nearest, in_force, Linked, near_logs}
use Rattle.history.proofs.Lineage.{committed-reaches, linked}

-- ---- the words

-- A log holds what was committed in terms below s.
pub record Complete (rule : Rule) (h : History) (s : ℕ) (log : List Entry) : Type 0 where
  pub holds : {t n m : ℕ} → Committed rule h t n m → t < s → Begins (first_of h t n) log

-- Box c asked in term s with a log, and those who agree under the configuration in force in that log granted.
pub record Standing (rule : Rule) (h : History) (s c : ℕ) (log : List Entry) : Type 0 where
  pub asked : h.asked s c log
  pub agree : Agree (in_force rule log (length log)) (λ j. Granted h.granted j s c)

-- It holds what was committed before (t, .) with m entries: in lower terms, or in term t with fewer.
record Sofar (rule : Rule) (h : History) (t m : ℕ) (log : List Entry) : Type 0 where
  holds : {u i j : ℕ} → Committed rule h u i j → Before u (suc j) t m → Begins (first_of h u i) log

-- A candidate with agreement: whoever won a lower term, or has won this one as another box, holds what was committed below it.
record Candidate (rule : Rule) (h : History) (s c : ℕ) (log : List Entry) : Type 0 where
  standing : Standing rule h s c log
  earlier : (u d : ℕ) (start : List Entry) → u < s → h.leaders.won u d start → Complete rule h u start
  rival : (d : ℕ) (start : List Entry) → h.leaders.won s d start → (d ≡ c → ⊥) → Complete rule h s start

-- What was committed below a term; a log is known to hold what was committed before it.
record Lower (rule : Rule) (h : History) (s t n m : ℕ) (log : List Entry) : Type 0 where
  committed : Committed rule h t n m
  below : t < s
  known : Sofar rule h t m log

-- what came before an entry came no later than its term,
before-low : {u m t k : ℕ} → Before u m t k → u ≤ t
before-low (lower q) = omega arith
before-low (sooner e l) = omega arith

-- and before what is in that term or a higher one, with more entries
before_more : {u m t k s l : ℕ} → Before u m t k → t ≤ s → suc k ≤ l → Before u (suc m) s l
before_more (lower q) a b = lower (omega arith)
before_more {u} {m} {t} {k} {s} {l} (sooner e n) a b = go (dec_lt u s)
  where
    go : Dec (u < s) → Before u (suc m) s l
    go (yes c) = lower c
    go (no c) = sooner (omega arith) (omega arith)

-- "higher last term, or the same and last index no smaller"
data Newer (index term own-index own-term : ℕ) : Type 0 where
  higher : own-term < term → Newer index term own-index own-term
  as_long : term ≡ own-term → own-index ≤ index → Newer index term own-index own-term

-- as the test has it
newer-facts : (index term own-index own-term : ℕ) → as_new index term own-index own-term ≡ true → Newer index term own-index own-term
newer-facts index term own-index own-term h = go (ltb own-term term) refl h
  where
    go : (b : Bool) → ltb own-term term ≡ b → (b || (eqb term own-term && leb own-index index)) ≡ true → Newer index term own-index own-term
    go true p q = higher (ltb-true _ _ p)
    go false p q = as_long (eqb-true _ _ (and_left (eqb term own-term) _ q)) (leb-true _ _ (and_right (eqb term own-term) _ q))

-- A log holds term t at index n.
record Held (t n : ℕ) (log : List Entry) : Type 0 where
  long : n ≤ length log
  term : term_at log n ≡ t

-- a log whose last term is not 0 holds something
last_some : (log : List Entry) → 0 < last_of log → 1 ≤ length log
unfolding term_at
last_some [] l = l
last_some (x ∷ log) l = omega arith

module _ {rule : Rule} {h : History} (f : Facts rule h) where
  -- ---- a log that begins with what was committed

  module _ {t n m : ℕ} (x : Committed rule h t n m) where
    committed-within : n ≤ length (h.leaders.log t)
    committed-within = omega (arith, x.within, x.reach)

    committed-long : length (first_of h t n) ≡ n
    committed-long = length-take-le n (h.leaders.log t) committed-within

    -- it holds its term at n,
    held : {log : List Entry} → Begins (first_of h t n) log → Held t n log
    held p =
        let same = begins-term p n (omega (arith, committed-long)) in
        omega (arith, committed-long, begins-long p, same, term-take (h.leaders.log t) n n committed-within (omega arith), x.own)

    -- and shares what lies below n with any log that goes with the leader's
    committed-shared : {p : ℕ} {log other : List Entry} → p ≤ n → Alike p other (h.leaders.log t) → Begins (first_of h t n) log
        → Shared p (length log) other log
    committed-shared {p} l a g =
        record {
          reach = omega (arith, begins-long g, committed-long);
          first = alike_both a (alike_less (first_alike g committed-within) p l);
        }

    -- a log with the same last term, and no shorter: both begin one leader's log
    same-last : {own start : List Entry} → Begins (first_of h t n) own → Descends h.leaders own → Descends h.leaders start
        → last_of start ≡ last_of own → length own ≤ length start → Begins (first_of h t n) start
    same-last {own} {start} p d e same long =
        let l = x.least in
        let some-own : 1 ≤ length own = omega (arith, (held p).long) in
        let from : Begins start (h.leaders.log (last_of own)) = rw same at (descends-last e (omega arith)) in
        begins_trans p (begins-both (descends-last d some-own) from long)

    -- a log with a later last term, whose leader's log begins with it: terms never fall, so the log goes on past n
    later_last : {start : List Entry} → Descends h.leaders start → 1 ≤ length start → t < last_of start
        → Begins (first_of h t n) (h.leaders.log (last_of start)) → Begins (first_of h t n) start
    later_last {start} d a l p = begins-both p q (rw committed-long past)
      where
        q : Begins start (h.leaders.log (last_of start))
        q = descends-last d a

        past : n ≤ length start
        past = go (dec_le n (length start)) (won-descends f (d.at (length start) a (omega arith)).won)
          where
            go : Dec (n ≤ length start) → Descends h.leaders (h.leaders.log (last_of start)) → n ≤ length start
            go (yes y) w = y
            go (no y) w =
                let rise = never_fall f w (length start) n (omega arith) (held p).long in
                absurd (omega (arith, rise, (held p).term, begins-term q (length start) (omega arith)))

    -- a leader's log, where the log that won holds what was committed below its term
    pub log-holds : {s : ℕ} (w : Won h.leaders s) → Complete rule h s w.start → t ≤ s → Begins (first_of h t n) (h.leaders.log s)
    log-holds {s} w c l = go (dec_lt t s)
      where
        go : Dec (t < s) → Begins (first_of h t n) (h.leaders.log s)
        go (yes a) = begins_trans (c.holds x a) (f.leading s w.box w.start w.has).begins
        go (no a) = let same : t ≡ s = omega arith in rw same (begins-take n (h.leaders.log s))

  -- what settled a configuration of a candidate's log was committed below its term
  standing-below : {s c u j k : ℕ} {log : List Entry} → Standing rule h s c log → suc k ≤ length log → Before u j (term_at log (suc k)) k → u < s
  standing-below {s} {c} {k = k} {log} x b q = omega (arith, before-low q, f.asked_below s c log x.asked (suc k) (omega arith) b)

  -- ---- one term

  asked-log : {s c : ℕ} {log : List Entry} → Standing rule h s c log → Descends h.leaders log
  asked-log {s} {c} {log} x = f.asked_descends s c log x.asked

  module _ {s c : ℕ} {log : List Entry} (k : Candidate rule h s c log) {t n m : ℕ} (y : Lower rule h s t n m log) where
    -- the leader's log
    abbrev own : List Entry
    own = h.leaders.log t

    won : Won h.leaders t
    won = (committed-reaches f y.committed).won

    -- leaders' logs of terms below s begin with (t, n)
    later-log : {u : ℕ} → Won h.leaders u → t ≤ u → u < s → Begins (first_of h t n) (h.leaders.log u)
    later-log {u} w a b = log-holds y.committed w (k.earlier u w.box w.start b w.has) a

    -- the configuration before the leader's is the candidate's too: it was committed before
    left : Linked rule own m log (length log)
    left =
        linked f (won-descends f won) y.committed.reach (λ e u i j b z l a q. committed-shared z l a (y.known.holds z (before_more q
        ((won-within f won).at (suc e) (omega arith) (omega (arith, y.committed.reach))) b)))

    -- where the candidate's log goes with a later leader's, which begins with (t, n), and does not itself
    with_later : {p u : ℕ} → (Begins (first_of h t n) log → ⊥) → Begins (first_of h t n) (h.leaders.log u)
        → Alike p log (h.leaders.log u) → Shared p m log own
    with_later {p} {u} not g a = go (dec_le n p)
      where
        with_n : Alike n own (h.leaders.log u)
        with_n = first_alike g (committed-within y.committed)

        go : Dec (n ≤ p) → Shared p m log own
        go (yes v) = absurd (not (alike_first (alike_both with_n (alike_swap (alike_less a n v)))))
        go (no v) = record { reach = omega (arith, y.committed.within); first = alike_both a (alike_swap (alike_less with_n p (omega arith))) }

    -- where it goes with an earlier leader's up to what that had committed: the log that won t holds it
    with_earlier : {p u i j : ℕ} → Committed rule h u i j → u < t → p ≤ i → Alike p log (h.leaders.log u) → Shared p m log own
    with_earlier {p} z v l a =
        let g = committed-shared z l a ((k.earlier t won.box won.start y.below won.has).holds z v) in
        record {
          reach = omega (arith, g.reach, own-part f won n y.committed.least y.committed.own, y.committed.within);
          first = alike_both g.first (begins_alike (f.leading t won.box won.start won.has).begins p g.reach);
        }

    -- the configuration before the candidate's is the leader's too, where the candidate's log does not begin with (t, n)
    right : (Begins (first_of h t n) log → ⊥) → Linked rule log (length log) own m
    right not = linked f (asked-log k.standing) (le_refl _) (λ e u i j b z l a q. go b z l a q (dec_lt u t))
      where
        go : {e u i j : ℕ} → suc e ≤ length log → Committed rule h u i j → nearest rule log e ≤ i
            → Alike (nearest rule log e) log (h.leaders.log u) → Before u j (term_at log (suc e)) e → Dec (u < t)
            → Shared (nearest rule log e) m log own
        go b z l a q (yes v) = with_earlier z v l a
        go b z l a q (no v) = with_later not (later-log (committed-reaches f z).won (omega arith) (standing-below k.standing b q)) a

    -- a box that acknowledged and granted: its log began with it, and the candidate's is at least as new
    shown : Met (λ j. h.acked j t n) (λ j. Granted h.granted j s c) → Begins (first_of h t n) log
    shown b =
        let g = b.right.has in
        let fair = f.fair b.box s c b.right.log g in
        let same = f.asked_once s c log fair.log k.standing.asked fair.has in
        newer (keeps (f.keeping b.box t n s c b.right.log b.left g y.below)) (f.granted_descends b.box s c b.right.log g)
        (newer-facts _ _ _ _ (rw same fair.newer))
      where
        keeps : {voter : List Entry} → Retains h.leaders t n s c voter → Begins (first_of h t n) voter
        keeps (retains (kept p)) = p
        keeps (retains (lost z)) = absurd (z.lacks ((k.earlier z.term z.box z.start z.below z.won).holds y.committed z.above))
        keeps (beaten d start w other lacks) = absurd (lacks ((k.rival d start w other).holds y.committed y.below))

        newer : {voter : List Entry} → Begins (first_of h t n) voter → Descends h.leaders voter
            → Newer (length log) (last_of log) (length voter) (last_of voter) → Begins (first_of h t n) log
        newer p d (as_long e l) = same-last y.committed p d (asked-log k.standing) e l
        newer {voter} p d (higher less) =
            let some = last_some log (omega arith) in
            let low = never_fall f d n (length voter) (held y.committed p).long (omega arith) in
            let past : t < last_of log = omega (arith, (held y.committed p).term) in
            let v = ((asked-log k.standing).at (length log) some (omega arith)).won in
            later_last y.committed (asked-log k.standing) some past
            (later-log v (omega arith) (f.asked_below s c log k.standing.asked (length log) some (omega arith)))

    -- so it does: else the two configurations are near, and such a box there is
    turn : Begins (first_of h t n) log
    turn = go (begins-known (first_of h t n) log)
      where
        go : Dec (Begins (first_of h t n) log) → Begins (first_of h t n) log
        go (yes p) = p
        go (no not) = shown (meets (near_logs left (right not)) y.committed.agree k.standing.agree)

  module _ {s c : ℕ} {log : List Entry} (k : Candidate rule h s c log) where
    -- within one term, by the length of its leader's log
    lengths : (t : ℕ) → t < s → Complete rule h t log → (bound n m : ℕ) → Committed rule h t n m → m < bound → Begins (first_of h t n) log
    lengths t a less zero n m y l = absurd (omega arith)
    lengths t a less (suc bound) n m y l =
        turn k (record { committed = y; below = a; known = record { holds = λ z b. go (lengths t a less bound) z b } })
      where
        go : ((i j : ℕ) → Committed rule h t i j → j < bound → Begins (first_of h t i) log) → {u i j : ℕ} → Committed rule h u i j
            → Before u (suc j) t m → Begins (first_of h u i) log
        go shorter z (lower q) = less.holds z q
        go shorter {u} {i} {j} z (sooner e q) =
            subst (λ v. Begins (first_of h v i) log) (sym e) (shorter i j (subst (λ v. Committed rule h v i j) e z) (omega arith))

    -- and by that term
    terms : (bound : ℕ) → bound ≤ s → Complete rule h bound log
    terms zero b = record { holds = λ y a. absurd (omega arith) }
    terms (suc bound) b = record { holds = λ y a. go (terms bound (omega arith)) y a }
      where
        go : Complete rule h bound log → {t n m : ℕ} → Committed rule h t n m → t < suc bound → Begins (first_of h t n) log
        go less {t} {n} {m} y a = lengths t (omega arith) (record { holds = λ z l. less.holds z (omega arith) }) (suc m) n m y (le_refl _)

    -- **Who stands with agreement in term s holds what was committed below it.**
    one_complete : Complete rule h s log
    one_complete = terms s (le_refl _)

  -- ---- all terms

  -- who won has asked, and had agreement
  pub won-standing : {s c : ℕ} {start : List Entry} → h.leaders.won s c start → Standing rule h s c start
  won-standing {s} {c} {start} w = record { asked = f.won_asked s c start w; agree = f.winning s c start w }

  -- by induction on the term: nobody else has won it
  winners : (bound u d : ℕ) (start : List Entry) → u < bound → h.leaders.won u d start → Complete rule h u start
  winners zero u d start l w = absurd (omega arith)
  winners (suc bound) u d start l w =
      one_complete (record {
        standing = won-standing w;
        earlier = λ v e other a x. winners bound v e other (omega arith) x;
        rival = λ e other x not. absurd (not (f.won_once u e d other start x w));
      })

  -- **Every term was won with a log that holds what was committed below it,**
  pub leader_complete : (s c : ℕ) (start : List Entry) → h.leaders.won s c start → Complete rule h s start
  leader_complete s c start w = winners (suc s) s c start (le_refl _) w

  -- and so does whoever could win it.
  pub standing_complete : {s c : ℕ} {log : List Entry} → Standing rule h s c log → Complete rule h s log
  standing_complete {s} {c} {log} x =
      one_complete (record {
        standing = x;
        earlier = λ u d start a w. leader_complete u d start w;
        rival = λ d start w not. leader_complete s d start w;
      })

  -- ---- two in one term

  -- the configuration before one's is the other's too
  standing_linked : {s c d : ℕ} {log other : List Entry} → Standing rule h s c log → Standing rule h s d other
      → Linked rule log (length log) other (length other)
  standing_linked {s} {c} {log = log} x y =
      linked f (f.asked_descends s c log x.asked) (le_refl _)
      (λ k u i j b z l a q. committed-shared z l a ((standing_complete y).holds z (standing-below x b q)))

  -- **Two who could win one term are one box:** their configurations are near, so somebody granted to both.
  pub one-standing : {s c d : ℕ} {log other : List Entry} → Standing rule h s c log → Standing rule h s d other → c ≡ d
  one-standing {s} {c} {d} x y =
      let b = meets (near_logs (standing_linked x y) (standing_linked y x)) x.agree y.agree in
      f.one_vote b.box s c d (f.granted_voted b.box s c b.left.log b.left.has)
      (f.granted_voted b.box s d b.right.log b.right.has)
