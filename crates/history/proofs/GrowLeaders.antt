-- The facts stay when a term is won, and when its leader adds an entry: an order, or a configuration that may be there. Assumes nothing.
use Rattle.std.specs.Prelude.{ℕ, suc, ◌≤◌, ◌<◌, ◌≡◌, refl, List, [], ◌∷◌, ◌++◌, length}
use Rattle.std.proofs.Math.Decide.{ℕ_discrete, dec_le, dec_lt}
use Rattle.std.proofs.Common.{le_refl, arith, sym, ap, subst, ◌∙◌, inr, length-append}
use Rattle.std.proofs.Math.Logic.{inl}
use Rattle.std.proofs.Math.Seq.{get_or-append_seam}
use Rattle.frames.specs.declared.Entry.{Entry}
use Rattle.frames.specs.Fields.{no_entry}
use Rattle.raft.specs.Record.{term_at}
use Rattle.history.specs.Begins.{Begins}
use Rattle.history.specs.BeginsLaws.{begins-term, begins_self, begins_trans, begins-added}
use Rattle.history.specs.History.{Leaders, History, Won, Granted, Leading, Reaches, Retains, retains, beaten, Settled, Follows, Chained, Facts}
use Rattle.history.specs.PutLaws.{put_same, put_other, put_all}
use Rattle.history.specs.Grow.{with_leaders, winner, longer, Grows, reaches-grows, first-grows, descends-grows, keeps-grows}
use Rattle.history.specs.Conf.{Conf, Agree, Extends}
use Rattle.history.specs.Alike.{Alike, alike_swap, alike_less, begins_alike}
use Rattle.history.specs.InForce.{Rule, fixed, plain, names, found_by, found, nearest, in_force, nearest-le, nearest-same, in_force-same}
use Rattle.history.proofs.Lineage.{settled_alike, follows_alike}
use Rattle.history.proofs.Later.{chained_later, led-later}

-- What is to be shown of the leaders alone.
record Lead (rule : Rule) (h : History) (more : Leaders) : Type 0 where
  won_asked : (t c : ℕ) (start : List Entry) → more.won t c start → h.asked t c start
  won_once : (t c d : ℕ) (start other : List Entry) → more.won t c start → more.won t d other → c ≡ d
  winning : (t c : ℕ) (start : List Entry) → more.won t c start
      → Agree (in_force rule start (length start)) (λ j. Granted h.granted j t c)
  leading : (t c : ℕ) (start : List Entry) → more.won t c start → Leading more t start
  chain : (t c : ℕ) (start : List Entry) → more.won t c start → Chained rule h t start (more.log t)

-- what a voter keeps it keeps
retains-grows : {l more : Leaders} {t n s c : ℕ} {log : List Entry} → Grows l more → Reaches l t n
    → Retains l t n s c log → Retains more t n s c log
retains-grows g r (retains k) = retains (keeps-grows g r k)
retains-grows {s = s} g r (beaten d start w other lacks) = beaten d start (g.won s d start w) other (λ b. lacks (rw (first-grows g r) b))

-- Where leaders' logs only grow, all else stays.
lead-facts : {rule : Rule} {h : History} {more : Leaders} → Facts rule h → Grows h.leaders more → Lead rule h more
    → Facts rule (with_leaders more h)
unfolding with_leaders
lead-facts {rule} {h} {more} f g x =
    record {
      one_vote = f.one_vote;
      granted_voted = f.granted_voted;
      asked_once = f.asked_once;
      asked_descends = λ t c log a. descends-grows g (f.asked_descends t c log a);
      asked_below = f.asked_below;
      fair = f.fair;
      won_asked = x.won_asked;
      won_once = x.won_once;
      winning = x.winning;
      leading = x.leading;
      granted_descends = λ j t c log a. descends-grows g (f.granted_descends j t c log a);
      descends = λ j. descends-grows g (f.descends j);
      within = f.within;
      reaches = λ j t n a. reaches-grows g (f.reaches j t n a);
      lower = f.lower;
      keeping = λ j t n s c log a b l. retains-grows g (f.reaches j t n a) (f.keeping j t n s c log a b l);
      keeps = λ j t n a. keeps-grows g (f.reaches j t n a) (f.keeps j t n a);
      asked_reached = f.asked_reached;
      voted_reached = f.voted_reached;
      acked_reached = f.acked_reached;
      chain = λ t c start w. chained_later f (led-later h g) (x.chain t c start w);
    }

-- a leader whose log is as it was
leading-same : {l more : Leaders} {t : ℕ} {start : List Entry} → more.log t ≡ l.log t → Leading l t start → Leading more t start
leading-same same x = record { begins = rw same x.begins; added = rw same x.added }

-- ---- a term is won

module _ {rule : Rule} {h : History} (c : ℕ) (f : Facts rule h) (unwon : Won h.leaders (h.term c) → ⊥) where
  -- nothing that was won is touched
  other : {s : ℕ} → Won h.leaders s → s ≡ h.term c → ⊥
  other w same = unwon (rw same at w)

  -- so the leaders only grow
  pub winner-grows : Grows h.leaders (winner (h.term c) c (h.log c) h.leaders)
  unfolding winner
  winner-grows =
      record {
        won = λ s d start w. inl w;
        log = λ s w. rw (put_other h.leaders.log (h.term c) (h.log c) s (other w)) (begins_self (h.leaders.log s));
      }

  -- A candidate with agreement wins, with the log that it asked with, a term that nobody has won.
  pub winner-facts : h.asked (h.term c) c (h.log c)
      → Agree (in_force rule (h.log c) (length (h.log c))) (λ j. Granted h.granted j (h.term c) c)
      → Facts rule (with_leaders (winner (h.term c) c (h.log c) h.leaders) h)
  unfolding winner
  winner-facts a m =
      lead-facts f winner-grows
      (record { won_asked = asked; won_once = once; winning = winning; leading = leading; chain = chain })
    where
      more : Leaders
      more = winner (h.term c) c (h.log c) h.leaders

      asked : (s d : ℕ) (start : List Entry) → more.won s d start → h.asked s d start
      asked s d start (inl w) = f.won_asked s d start w
      asked s d start (inr q) = rw (q.term, q.box, q.whole) a

      once : (s d e : ℕ) (start log : List Entry) → more.won s d start → more.won s e log → d ≡ e
      once s d e start log (inl v) (inl w) = f.won_once s d e start log v w
      once s d e start log (inl v) (inr q) = absurd (other (record { box = d; start = start; has = v }) q.term)
      once s d e start log (inr q) (inl w) = absurd (other (record { box = e; start = log; has = w }) q.term)
      once s d e start log (inr q) (inr r) = q.box ∙ sym r.box

      winning : (s d : ℕ) (start : List Entry) → more.won s d start
          → Agree (in_force rule start (length start)) (λ j. Granted h.granted j s d)
      winning s d start (inl w) = f.winning s d start w
      winning s d start (inr q) = rw (q.term, q.box, q.whole) m

      own : Leading more (h.term c) (h.log c)
      own =
          let same = put_same h.leaders.log (h.term c) (h.log c) in
          record { begins = rw same (begins_self (h.log c)); added = rw same (λ k l b. absurd (omega arith)) }

      leading : (s d : ℕ) (start : List Entry) → more.won s d start → Leading more s start
      leading s d start (inl w) = leading-same (put_other _ _ _ s (other (record { box = d; start = start; has = w }))) (f.leading s d start w)
      leading s d start (inr q) = rw (q.term, q.whole) own

      -- the winner has added nothing yet
      chain : (s d : ℕ) (start : List Entry) → more.won s d start → Chained rule h s start (more.log s)
      chain s d start (inl w) =
          subst (Chained rule h s start) (sym (put_other _ _ _ s (other (record { box = d; start = start; has = w })))) (f.chain s d start w)
      chain s d start (inr q) =
          let same = put_same h.leaders.log (h.term c) (h.log c) in
          rw (q.term, q.whole, same) (record { at = λ k l b e. absurd (omega arith) })

-- ---- a leader adds an entry

-- the entry that was added last
term-added : (log : List Entry) (e : Entry) → term_at (log ++ (e ∷ [])) (suc (length log)) ≡ e.term
unfolding term_at
term-added log e = ap (λ x. x.term) (get_or-append_seam log e [] no_entry)

-- Where an entry may be added to a log of term t: if it names a configuration, that may be there.
pub record May (rule : Rule) (h : History) (t : ℕ) (log : List Entry) (e : Entry) : Type 0 where
  pub follows : nearest rule (log ++ (e ∷ [])) (suc (length log)) ≡ suc (length log) → Follows rule h t (length log) (log ++ (e ∷ []))

-- an order may always,
pub may_plain : {rule : Rule} {h : History} {t : ℕ} (log : List Entry) (e : Entry) → rule.named e ≡ plain → May rule h t log e
unfolding found found_by
may_plain {rule} {h} {t} log e p = record { follows = λ m. absurd (omega (arith, last, nearest-le rule (log ++ (e ∷ [])) (length log))) }
  where
    last : nearest rule (log ++ (e ∷ [])) (suc (length log)) ≡ nearest rule (log ++ (e ∷ [])) (length log)
    last = ap (λ x. (found_by x (suc (length log)) (found rule (log ++ (e ∷ [])) (length log))).index)
        (ap rule.named (get_or-append_seam log e [] no_entry) ∙ p)

-- and so may anything where the membership is fixed,
pub may_fixed : (mask : ℕ) {h : History} {t : ℕ} (log : List Entry) (e : Entry) → May (fixed mask) h t log e
unfolding fixed
may_fixed mask log e = may_plain log e refl

-- a configuration that was added is in force
in_force-added : (rule : Rule) (log : List Entry) (e : Entry) (c : Conf) → rule.named e ≡ names c
    → in_force rule (log ++ (e ∷ [])) (suc (length log)) ≡ c
unfolding found found_by
in_force-added rule log e c p =
    ap (λ y. (found_by y (suc (length log)) (found rule (log ++ (e ∷ [])) (length log))).conf) (ap rule.named (get_or-append_seam log e [] no_entry) ∙ p)

-- and a configuration that follows the one in force, which is settled
pub may_change : {rule : Rule} {h : History} {t : ℕ} (log : List Entry) (e : Entry) (c : Conf) → rule.named e ≡ names c
    → Extends (in_force rule log (length log)) c → Settled rule h t (length log) (nearest rule log (length log)) log → May rule h t log e
may_change {rule} {h} {t} log e c p x s =
    record {
      follows = λ m. record {
        extends = rw (← in_force-same rule old (length log) (le_refl _), in_force-added rule log e c p) x;
        settled = rw (← nearest-same rule old (length log) (le_refl _))
            (settled_alike (alike_swap (alike_less old (nearest rule log (length log)) (nearest-le rule log (length log)))) s);
      };
    }
  where
    old : Alike (length log) log (log ++ (e ∷ []))
    old = begins_alike (begins-added log (e ∷ [])) (length log) (le_refl _)

-- What the leader had added may be there, and so may what it adds.
chained_added : {rule : Rule} {h : History} {t : ℕ} {start log : List Entry} {e : Entry} → May rule h t log e → Chained rule h t start log
    → Chained rule h t start (log ++ (e ∷ []))
chained_added {rule} {h} {t} {start} {log} {e} may old = record { at = λ k a b m. go k a b m (dec_lt k (length log)) }
  where
    go : (k : ℕ) → length start ≤ k → k < length (log ++ (e ∷ [])) → nearest rule (log ++ (e ∷ [])) (suc k) ≡ suc k → Dec (k < length log)
        → Follows rule h t k (log ++ (e ∷ []))
    go k a b m (yes l) =
        let same = begins_alike (begins-added log (e ∷ [])) (suc k) l in
        follows_alike (alike_swap same) (old.at k a l (nearest-same rule same (suc k) (le_refl _) ∙ m))
    go k a b m (no l) =
        let last : k ≡ length log = omega (arith, length-append log (e ∷ [])) in
        rw last (may.follows (rw last at m))

-- and the leaders only grow
pub longer-grows : (t : ℕ) (e : Entry) (l : Leaders) → Grows l (longer t e l)
unfolding longer
longer-grows t e l =
    record {
      won = λ s d start w. w;
      log = λ s w. put_all (λ j x. Begins (l.log j) x) _ t _ (begins-added _ _) (λ j n. begins_self _) s;
    }

module _ {rule : Rule} {h : History} {t : ℕ} (e : Entry) (f : Facts rule h) (own : e.term ≡ t) (may : May rule h t (h.leaders.log t) e) where
  -- A leader adds an entry of its term.
  pub longer-facts : Facts rule (with_leaders (longer t e h.leaders) h)
  unfolding longer
  longer-facts =
      lead-facts f (longer-grows t e h.leaders)
      (record { won_asked = f.won_asked; won_once = f.won_once; winning = f.winning; leading = leading; chain = chain })
    where
      more : Leaders
      more = longer t e h.leaders

      end : (log : List Entry) (k n : ℕ) → ((k : ℕ) → n < k → k ≤ length log → term_at log k ≡ t) → n < k → k ≤ length (log ++ (e ∷ []))
          → Dec (k ≤ length log) → term_at (log ++ (e ∷ [])) k ≡ t
      end log k n old a b (yes l) = sym (begins-term (begins-added log (e ∷ [])) k l) ∙ old k a l
      end log k n old a b (no l) = rw last (term-added log e ∙ own)
        where
          last : k ≡ suc (length log)
          last = omega (arith, length-append log (e ∷ []))

      grown : {start : List Entry} → Leading h.leaders t start → Leading more t start
      grown {start} x =
          let same = put_same h.leaders.log t (h.leaders.log t ++ (e ∷ [])) in
          record {
            begins = rw same (begins_trans x.begins (begins-added (h.leaders.log t) (e ∷ [])));
            added = rw same (λ k a b. end (h.leaders.log t) k (length start) x.added a b (dec_le k (length (h.leaders.log t))));
          }

      leading : (s d : ℕ) (start : List Entry) → h.leaders.won s d start → Leading more s start
      leading s d start w = go (ℕ_discrete s t) (f.leading s d start w)
        where
          go : Dec (s ≡ t) → Leading h.leaders s start → Leading more s start
          go (yes q) x = rw q (grown (rw q at x))
          go (no q) x = leading-same (put_other _ _ _ s q) x

      chain : (s d : ℕ) (start : List Entry) → h.leaders.won s d start → Chained rule h s start (more.log s)
      chain s d start w = go (ℕ_discrete s t) (f.chain s d start w)
        where
          go : Dec (s ≡ t) → Chained rule h s start (h.leaders.log s) → Chained rule h s start (more.log s)
          go (yes q) x = rw (q, put_same h.leaders.log t (h.leaders.log t ++ (e ∷ []))) (chained_added may (rw q at x))
          go (no q) x = rw (put_other h.leaders.log t (h.leaders.log t ++ (e ∷ [])) s q) x
