-- Where a log's configurations come from: whoever holds one, it follows the one before it, which was committed. Assumes nothing.
use Rattle.std.specs.Prelude.{ℕ, suc, ◌≤◌, ◌≡◌, List, length}
use Rattle.std.proofs.Common.{le_refl, arith, sym, ap, subst, ◌∙◌, length-take-le}
use Rattle.frames.specs.declared.Entry.{Entry}
use Rattle.raft.specs.Record.{term_at}
use Rattle.history.specs.BeginsLaws.{begins-long, begins-term}
use Rattle.history.specs.History.{History, Descends, Reaches, Committed, Before, Settled, none, by, Follows, Facts}
use Rattle.history.proofs.Descent.{term-take, own-part}
use Rattle.history.specs.Conf.{Extends}
use Rattle.history.proofs.ConfLaws.{agree-some}
use Rattle.history.specs.Alike.{Alike, alike_both, alike_less, first_alike, Shared, shared-none}
use Rattle.history.specs.InForce.{Rule, nearest, in_force, nearest-le, found-nearest, nearest-same, in_force-same, Linked}

-- what is settled of one log is settled of one that is the same up to there
pub settled_alike : {rule : Rule} {h : History} {t k p : ℕ} {log other : List Entry} → Alike p other log → Settled rule h t k p log
    → Settled rule h t k p other
settled_alike a (none e) = none e
settled_alike a (by m l x b) = by m l (alike_both a x) b

-- a configuration that may be in one log may be in one that is the same up to it
pub follows_alike : {rule : Rule} {h : History} {t k : ℕ} {log other : List Entry} → Alike (suc k) other log → Follows rule h t k log
    → Follows rule h t k other
follows_alike {rule} {h} {t} {k} {log} {other} a x =
    record {
      extends = rw (in_force-same rule a k (omega arith), in_force-same rule a (suc k) (le_refl _)) x.extends;
      settled = rw (nearest-same rule a k (omega arith))
          (settled_alike (alike_less a (nearest rule log k) (omega (arith, nearest-le rule log k))) x.settled);
    }

module _ {rule : Rule} {h : History} (f : Facts rule h) where
  -- some box acknowledged, so the term was won and the log is as long
  pub committed-reaches : {t n m : ℕ} → Committed rule h t n m → Reaches h.leaders t n
  committed-reaches {t} {n} m = let b = agree-some m.agree in f.reaches b.box t n b.left

  -- a configuration of any log was added by the leader of its term
  comes-from : {log : List Entry} → Descends h.leaders log → (k : ℕ) → suc k ≤ length log → nearest rule log (suc k) ≡ suc k
      → Follows rule h (term_at log (suc k)) k log
  comes-from {log} d k b e =
      let c = d.at (suc k) (omega arith) b in
      let w = c.won in
      let alike : Alike (suc k) log (h.leaders.log (term_at log (suc k))) = first_alike c.begins b in
      let short = length-take-le (suc k) log b in
      let own : term_at (h.leaders.log (term_at log (suc k))) (suc k) ≡ term_at log (suc k) =
      sym (begins-term c.begins (suc k) (omega arith)) ∙ term-take log (suc k) (suc k) b (le_refl _) in
      follows_alike alike
      ((f.chain _ w.box w.start w.has).at k (omega (arith, own-part f w (suc k) (omega arith) own))
      (omega (arith, begins-long c.begins)) (sym (nearest-same rule alike (suc k) (le_refl _)) ∙ e))

  -- So a log is linked with another, where that has what was committed before the log's configuration was added.
  pub linked : {log other : List Entry} {m l : ℕ} → Descends h.leaders log → m ≤ length log
      → ((k u i j : ℕ) → suc k ≤ m → Committed rule h u i j → nearest rule log k ≤ i → Alike (nearest rule log k) log (h.leaders.log u)
      → Before u j (term_at log (suc k)) k → Shared (nearest rule log k) l log other)
      → Linked rule log m other l
  linked {log} {other} {m} {l} d b share =
      record {
        extends = λ k e. subst (λ x. Extends (in_force rule log k) x.conf) (found-nearest rule log m e) (from k e).extends;
        shared = λ k e. go k (low k e) (from k e).settled;
      }
    where
      low : (k : ℕ) → nearest rule log m ≡ suc k → suc k ≤ m
      low k e = omega (arith, nearest-le rule log m)

      from : (k : ℕ) → nearest rule log m ≡ suc k → Follows rule h (term_at log (suc k)) k log
      from k e = comes-from d k (omega (arith, low k e)) (ap (λ x. x.index) (found-nearest rule log m e) ∙ e)

      go : (k : ℕ) → suc k ≤ m → Settled rule h (term_at log (suc k)) k (nearest rule log k) log → Shared (nearest rule log k) l log other
      go k a (none z) = shared-none log other z
      go k a (by {u} {n = i} {m = j} z n x q) = share k u i j a z n x q
