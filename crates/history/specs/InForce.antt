-- "The configuration in force is found by stepping back from the last entry to the nearest configuration, or .. the head's." Here over the first k
-- entries of a log. And that two logs with what is shared of them have near configurations in force. Assumes nothing.
use Rattle.std.specs.Prelude.{ℕ, zero, suc, ◌/◌, ◌%◌, ◌≤◌, ◌<◌, ◌≡◌, refl, cond, List, eqb, get_or}
use Rattle.std.proofs.Math.Decide.{dec_le, ℕ_discrete}
use Rattle.std.proofs.Common.{le_refl, le_trans, arith, sym, ap, ◌∙◌, subst}
use Rattle.frames.specs.declared.Entry.{Entry}
use Rattle.frames.specs.Limits.{masks}
use Rattle.frames.specs.Fields.{no_entry}
use Rattle.history.specs.Alike.{Alike, alike_none, alike_entry, Shared}
use Rattle.history.specs.Conf.{Most, Conf, one, joint, Agrees, Agree, Extends, Near, same, before, behind, beside}

-- What an entry says of the configuration.
pub data Named : Type 0 where
  plain : Named
  names : Conf → Named

-- "An order whose first byte is ff names a configuration: old mask (0 when there is one set only), new mask, five zeros"
unfoldable pub configuration : (old new : ℕ) → Conf
configuration old new = cond (eqb old 0) (one new) (joint old new)

unfoldable pub named : Entry → Named
named e =
    cond (eqb (e.order / 72057594037927936) 255)
    (names (configuration (e.order / 281474976710656 % 256) (e.order / 1099511627776 % 256))) plain

-- Which entries name a configuration, and the one with which the park starts.
pub record Rule : Type 0 where
  pub base : Conf
  pub named : Entry → Named

-- T-09's: "or the head's".
unfoldable pub changing : ℕ → Rule
changing mask = record { base = one mask; named = named }

-- 01's: "Membership is fixed here".
unfoldable pub fixed : ℕ → Rule
fixed mask = record { base = one mask; named = λ e. plain }

-- What stepping back finds: the index of the nearest configuration, 0 where there is none, and the one in force.
pub record Found : Type 0 where
  pub index : ℕ
  pub conf : Conf

unfoldable pub found_by : Named → ℕ → Found → Found
found_by plain k below = below
found_by (names c) k below = record { index = k; conf = c }

unfoldable pub found : Rule → List Entry → ℕ → Found
found rule log zero = record { index = 0; conf = rule.base }
found rule log (suc k) = found_by (rule.named (get_or log k no_entry)) (suc k) (found rule log k)

abbrev pub nearest : Rule → List Entry → ℕ → ℕ
nearest rule log k = (found rule log k).index

abbrev pub in_force : Rule → List Entry → ℕ → Conf
in_force rule log k = (found rule log k).conf

-- ---- laws of stepping back

-- it is at or below
pub nearest-le : (rule : Rule) (log : List Entry) (k : ℕ) → nearest rule log k ≤ k
unfolding found found_by
nearest-le rule log zero = le_refl 0
nearest-le rule log (suc k) = go (rule.named (get_or log k no_entry)) (nearest-le rule log k)
  where
    go : (x : Named) → nearest rule log k ≤ k → (found_by x (suc k) (found rule log k)).index ≤ suc k
    go plain l = omega arith
    go (names c) l = le_refl (suc k)

-- one entry more brings it no lower,
nearest-step : (rule : Rule) (log : List Entry) (k : ℕ) → nearest rule log k ≤ nearest rule log (suc k)
unfolding found found_by
nearest-step rule log k = go (rule.named (get_or log k no_entry)) (nearest-le rule log k)
  where
    go : (x : Named) → nearest rule log k ≤ k → nearest rule log k ≤ (found_by x (suc k) (found rule log k)).index
    go plain l = le_refl (nearest rule log k)
    go (names c) l = omega arith

-- nor do more
nearest-up : (rule : Rule) (log : List Entry) (p k : ℕ) → p ≤ k → nearest rule log p ≤ nearest rule log k
nearest-up rule log p zero l = let none : p ≡ 0 = omega arith in rw none (le_refl _)
nearest-up rule log p (suc k) l = go (nearest-up rule log p k) (dec_le p k)
  where
    go : (p ≤ k → nearest rule log p ≤ nearest rule log k) → Dec (p ≤ k) → nearest rule log p ≤ nearest rule log (suc k)
    go up (yes a) = le_trans (up a) (nearest-step rule log k)
    go up (no a) = let last : p ≡ suc k = omega arith in rw last (le_refl _)

-- from there the same is found
found-again : (rule : Rule) (log : List Entry) (k : ℕ) → found rule log (nearest rule log k) ≡ found rule log k
unfolding found found_by
found-again rule log zero = refl
found-again rule log (suc k) = go (rule.named (get_or log k no_entry)) refl (found-again rule log k)
  where
    go : (x : Named) → rule.named (get_or log k no_entry) ≡ x → found rule log (nearest rule log k) ≡ found rule log k
        → found rule log (found_by x (suc k) (found rule log k)).index ≡ found_by x (suc k) (found rule log k)
    go plain e up = up
    go (names c) e up = ap (λ x. found_by x (suc k) (found rule log k)) e

pub found-nearest : (rule : Rule) (log : List Entry) (k : ℕ) {n : ℕ} → nearest rule log k ≡ n → found rule log n ≡ found rule log k
found-nearest rule log k e = subst (λ z. found rule log z ≡ found rule log k) e (found-again rule log k)

-- in logs that are the same up to an index the same is found,
found-same : (rule : Rule) {a b : List Entry} {p : ℕ} → Alike p a b → (k : ℕ) → k ≤ p → found rule a k ≡ found rule b k
unfolding found
found-same rule e zero l = refl
found-same rule {a} {b} e (suc k) l =
    ap (λ z. found_by (rule.named z) (suc k) (found rule a k)) (alike_entry e k l)
    ∙ ap (found_by (rule.named (get_or b k no_entry)) (suc k)) (found-same rule e k (omega arith))

-- nearest,
pub nearest-same : (rule : Rule) {a b : List Entry} {p : ℕ} → Alike p a b → (k : ℕ) → k ≤ p → nearest rule a k ≡ nearest rule b k
nearest-same rule e k l = ap (λ x. x.index) (found-same rule e k l)

-- and in force
pub in_force-same : (rule : Rule) {a b : List Entry} {p : ℕ} → Alike p a b → (k : ℕ) → k ≤ p → in_force rule a k ≡ in_force rule b k
in_force-same rule e k l = ap (λ x. x.conf) (found-same rule e k l)

-- ---- near

-- Seen from b, which is l long: where the nearest configuration of a at m is at suc k, it follows what is in force before, and the configuration
-- before it is one of b's too.
pub record Linked (rule : Rule) (a : List Entry) (m : ℕ) (b : List Entry) (l : ℕ) : Type 0 where
  pub extends : (k : ℕ) → nearest rule a m ≡ suc k → Extends (in_force rule a k) (in_force rule a m)
  pub shared : (k : ℕ) → nearest rule a m ≡ suc k → Shared (nearest rule a k) l a b

module _ {rule : Rule} {a b : List Entry} {m l : ℕ} (p : Linked rule a m b l) (k : ℕ) (e : nearest rule a m ≡ suc k) where
  -- b finds the configuration before a's where a does,
  before-found : found rule b (nearest rule a k) ≡ found rule a k
  before-found = sym (found-same rule (p.shared k e).first (nearest rule a k) (le_refl _)) ∙ found-again rule a k

  -- so it is at or below b's own,
  before-le : (j : ℕ) → nearest rule a k ≤ j → nearest rule a k ≤ nearest rule b j
  before-le j low = omega (arith, ap (λ x. x.index) before-found, nearest-up rule b (nearest rule a k) j low)

  -- and where it is b's own, a's follows b's
  follows-own : (j : ℕ) → nearest rule b j ≡ nearest rule a k → Extends (in_force rule b j) (in_force rule a m)
  follows-own j top = subst (λ x. Extends x.conf (in_force rule a m)) (sym before-found ∙ found-nearest rule b j top) (p.extends k e)

-- **Two logs linked both ways have near configurations in force.**
pub near_logs : {rule : Rule} {a b : List Entry} {m l : ℕ} → Linked rule a m b l → Linked rule b l a m
    → Near (in_force rule a m) (in_force rule b l)
near_logs {rule} {a} {b} {m} {l} p q = go (nearest rule a m) refl (nearest rule b l) refl
  where
    -- one follows the other, or both follow the same
    both : (k j : ℕ) → nearest rule a m ≡ suc k → nearest rule b l ≡ suc j → Dec (nearest rule a m ≡ nearest rule b j)
        → Dec (nearest rule b l ≡ nearest rule a k) → Near (in_force rule a m) (in_force rule b l)
    both k j e g (yes t) u = before (follows-own q j g m t)
    both k j e g (no t) (yes u) = behind (follows-own p k e l u)
    both k j e g (no t) (no u) =
        let x = before-le q j g m (q.shared j g).reach in
        let y = before-le p k e l (p.shared k e).reach in
        let top : nearest rule a k ≡ nearest rule b j = omega (arith, before-le p k e j (omega arith), before-le q j g k (omega arith)) in
        beside (in_force rule a k) (p.extends k e) (follows-own q j g k top)

    go : (x : ℕ) → nearest rule a m ≡ x → (y : ℕ) → nearest rule b l ≡ y → Near (in_force rule a m) (in_force rule b l)
    go zero e zero g =
        same (ap (λ x. x.conf) (sym (found-nearest rule a m e) ∙ found-same rule (alike_none a b) 0 (le_refl 0) ∙ found-nearest rule b l g))
    go zero e (suc j) g = before (follows-own q j g m (omega (arith, before-le q j g m (q.shared j g).reach)))
    go (suc k) e zero g = behind (follows-own p k e l (omega (arith, before-le p k e l (p.shared k e).reach)))
    go (suc k) e (suc j) g = both k j e g (ℕ_discrete (nearest rule a m) (nearest rule b j)) (ℕ_discrete (nearest rule b l) (nearest rule a k))

-- ---- a fixed membership

-- no entry names a configuration, so it is always in force
pub in_force-fixed : (mask : ℕ) (log : List Entry) (k : ℕ) → in_force (fixed mask) log k ≡ one mask
unfolding found fixed found_by
in_force-fixed mask log zero = refl
in_force-fixed mask log (suc k) = in_force-fixed mask log k

-- and a majority of it agrees, whatever the log
pub agree-fixed : (mask : ℕ) (log : List Entry) (k : ℕ) {P : ℕ → Type 0} → mask < masks → Most mask P → Agree (in_force (fixed mask) log k) P
unfolding Agrees
agree-fixed mask log k {P} small most =
    subst (λ c. Agree c P) (sym (in_force-fixed mask log k)) (record { held = record { small = small; most = most } })
