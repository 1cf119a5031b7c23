-- What descent says: terms never fall, and two logs that hold one term at one index are the same up to there. Assumes nothing.
use Rattle.std.specs.Prelude.{ℕ, zero, suc, ◌≤◌, ◌<◌, ◌≡◌, refl, List, length, take}
use Rattle.std.proofs.Math.Decide.{dec_le}
use Rattle.std.proofs.Common.{arith, subst, length-take-le}
use Rattle.std.proofs.Math.Seq.{take-length}
use Rattle.frames.specs.declared.Entry.{Entry}
use Rattle.raft.specs.Record.{term_at}
use Rattle.history.specs.Begins.{Begins}
use Rattle.history.specs.BeginsLaws.{begins-long, begins-same, begins-term, begins-take, begins-both, begins-whole}
use Rattle.history.specs.InForce.{Rule}
use Rattle.history.specs.History.{Leaders, History, Won, Comes, Descends, Within, Leading, Facts}

-- the term at 0 is 0
term-zero : (log : List Entry) → term_at log 0 ≡ 0
unfolding term_at
term-zero log = refl

-- the first n entries hold what the log holds
pub term-take : (log : List Entry) (n k : ℕ) → n ≤ length log → k ≤ n → term_at (take n log) k ≡ term_at log k
term-take log n k l h = begins-term (begins-take n log) k (rw (length-take-le n log l) h)

-- a log that comes from leaders' logs at each index does so at its beginnings
pub descends-first : {l : Leaders} {log part : List Entry} → Begins part log → Descends l log → Descends l part
descends-first {l} {log} {part} p d = record { at = λ k a b. comes k (d.at k a (omega (arith, begins-long p))) b }
  where
    comes : (k : ℕ) → Comes l log k → k ≤ length part → Comes l part k
    comes k c b =
        let same = begins-term p k b in
        record { won = rw same c.won; begins = rw (same, begins-same p k b) c.begins }

-- where no term of a log is above a bound, none of a beginning is
pub within_first : {log part : List Entry} {bound : ℕ} → Begins part log → Within bound log → Within bound part
within_first p d = record { at = λ k a b. omega (arith, begins-term p k b, begins-long p, d.at k a (omega (arith, begins-long p))) }

-- and the bound may be raised
pub within_more : {log : List Entry} {bound : ℕ} → Within bound log → (higher : ℕ) → bound ≤ higher → Within higher log
within_more d higher l = record { at = λ k a b. omega (arith, d.at k a b) }

-- all of a log that descends, if it holds anything, begins the log of its last term's leader
pub descends-last : {l : Leaders} {log : List Entry} → Descends l log → 1 ≤ length log → Begins log (l.log (term_at log (length log)))
descends-last {l} {log} d a =
    subst (λ x. Begins x (l.log (term_at log (length log)))) (take-length log) (d.at (length log) a (omega arith)).begins

module _ {rule : Rule} {h : History} (f : Facts rule h) where
  module _ {t : ℕ} (w : Won h.leaders t) where
    lead : Leading h.leaders t w.start
    lead = f.leading t w.box w.start w.has

    asked : h.asked t w.box w.start
    asked = f.won_asked t w.box w.start w.has

    -- the terms of the log that won are below
    start-below : (k : ℕ) → 1 ≤ k → k ≤ length w.start → term_at (h.leaders.log t) k < t
    start-below k a b = omega (arith, f.asked_below t w.box w.start asked k a b, begins-term lead.begins k b)

    -- so a leader's log holds no term above its own,
    pub won-within : Within t (h.leaders.log t)
    won-within = record { at = λ k a b. go k a b (dec_le k (length w.start)) }
      where
        go : (k : ℕ) → 1 ≤ k → k ≤ length (h.leaders.log t) → Dec (k ≤ length w.start) → term_at (h.leaders.log t) k ≤ t
        go k a b (yes c) = omega (arith, start-below k a c)
        go k a b (no c) = omega (arith, lead.added k (omega arith) b)

    -- an entry of the term itself was added by its leader,
    pub own-part : (n : ℕ) → 1 ≤ n → term_at (h.leaders.log t) n ≡ t → length w.start < n
    own-part n a e = go (dec_le n (length w.start))
      where
        go : Dec (n ≤ length w.start) → length w.start < n
        go (yes b) = absurd (omega (arith, start-below n a b))
        go (no b) = omega arith

    -- and the log descends: what it adds comes from itself
    pub won-descends : Descends h.leaders (h.leaders.log t)
    won-descends = record { at = λ k a b. go k a b (dec_le k (length w.start)) }
      where
        go : (k : ℕ) → 1 ≤ k → k ≤ length (h.leaders.log t) → Dec (k ≤ length w.start) → Comes h.leaders (h.leaders.log t) k
        go k a b (yes e) =
            let same = begins-term lead.begins k e in
            let c = (f.asked_descends t w.box w.start asked).at k a e in
            record { won = rw same at c.won; begins = rw (same, begins-same lead.begins k e) at c.begins }
        go k a b (no e) =
            let own = lead.added k (omega arith) b in
            record { won = rw own w; begins = rw own (begins-take k (h.leaders.log t)) }

  -- terms never fall: up to index k a log is the log of its leader, which holds no term above
  pub never_fall : {log : List Entry} → Descends h.leaders log → (i k : ℕ) → i ≤ k → k ≤ length log → term_at log i ≤ term_at log k
  never_fall {log} d zero k a b = omega (arith, term-zero log)
  never_fall {log} d (suc i) k a b =
      let c = d.at k (omega arith) b in
      let short = length-take-le k log b in
      let same = begins-term c.begins (suc i) (rw short a) in
      let most = (won-within c.won).at (suc i) (omega arith) (omega (arith, begins-long c.begins)) in
      omega (arith, same, term-take log k (suc i) b a, most)

-- two logs that descend and hold one term at index k are the same up to k
pub same-term : {l : Leaders} {log other : List Entry} → Descends l log → Descends l other → (k : ℕ) → 1 ≤ k → k ≤ length log
    → k ≤ length other → term_at log k ≡ term_at other k → take k log ≡ take k other
same-term {l} {log} {other} d e k a b c same =
    let p = (d.at k a b).begins in
    let q : Begins (take k other) (l.log (term_at log k)) = rw same (e.at k a c).begins in
    let long = length-take-le k log b in
    let long' = length-take-le k other c in
    begins-whole (begins-both p q (omega arith)) (omega arith)
