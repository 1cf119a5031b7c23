-- What a box sees of the configuration: a joining box sees none where no entry names one, and a box with a snapshot goes back to the snapshot's.
-- Whoever it sees agree, agrees. Assumes nothing.
use Rattle.std.specs.Prelude.{ℕ, zero, suc, ◌+◌, ◌≡◌, refl, Bool, true, false, cond, List, ◌⊎◌, get_or, drop}
use Rattle.std.proofs.Common.{arith, sym, ap, subst, ◌∙◌, inl, inr, get_or-drop}
use Rattle.frames.specs.declared.Entry.{Entry}
use Rattle.frames.specs.Fields.{no_entry}
use Rattle.raft.proofs.MajorityLaws.{majority-empty}
use Rattle.history.specs.Conf.{one, Agrees, Agree}
use Rattle.history.specs.InForce.{Rule, Named, plain, names, found_by, found, in_force}

-- Two Bools that differ.
no_both : {b : Bool} → b ≡ true → b ≡ false → ⊥
no_both {b} t f = let e : true ≡ false = sym t ∙ f in omega (arith, ap {B = ℕ} (λ x. cond x 1 0) e)

-- A mask of 0 agrees with nobody.
pub nobody : {P : ℕ → Type 0} → Agree (one 0) P → ⊥
unfolding Agrees
nobody p = no_both p.held.most.enough (majority-empty p.held.most.boxes)

-- ---- a joining box

-- "a head mask of 0": it reads entries as the others do, and starts from none.
unfoldable pub joining : Rule → Rule
joining rule = record { base = one 0; named = rule.named }

-- it sees none, or what is in force
pub joining_sees : (rule : Rule) (log : List Entry) (k : ℕ)
    → (in_force (joining rule) log k ≡ one 0) ⊎ (in_force (joining rule) log k ≡ in_force rule log k)
unfolding found joining found_by
joining_sees rule log zero = inl refl
joining_sees rule log (suc k) = go (rule.named (get_or log k no_entry)) (joining_sees rule log k)
  where
    go : (x : Named) → (in_force (joining rule) log k ≡ one 0) ⊎ (in_force (joining rule) log k ≡ in_force rule log k)
        → ((found_by x (suc k) (found (joining rule) log k)).conf ≡ one 0)
        ⊎ ((found_by x (suc k) (found (joining rule) log k)).conf ≡ (found_by x (suc k) (found rule log k)).conf)
    go plain up = up
    go (names c) up = inr refl

-- **whoever it sees agree, agrees**
pub joining_agrees : (rule : Rule) (log : List Entry) (k : ℕ) {P : ℕ → Type 0} → Agree (in_force (joining rule) log k) P
    → Agree (in_force rule log k) P
joining_agrees rule log k {P} p = go (joining_sees rule log k)
  where
    go : (in_force (joining rule) log k ≡ one 0) ⊎ (in_force (joining rule) log k ≡ in_force rule log k) → Agree (in_force rule log k) P
    go (inl e) = absurd (nobody (subst (λ c. Agree c P) e p))
    go (inr e) = subst (λ c. Agree c P) e p

-- ---- a snapshot

-- "the snapshot's": entries behind index p, with what is in force at p in their back.
unfoldable pub behind : Rule → List Entry → ℕ → Rule
behind rule log p = record { base = in_force rule log p; named = rule.named }

-- a box that goes back to its snapshot's configuration sees what is in force
pub behind_sees : (rule : Rule) (log : List Entry) (p k : ℕ) → in_force (behind rule log p) (drop p log) k ≡ in_force rule log (p + k)
unfolding found found_by behind
behind_sees rule log p zero = let none : p ≡ p + 0 = omega arith in ap (in_force rule log) none
behind_sees rule log p (suc k) =
    let next : suc (p + k) ≡ p + suc k = omega arith in
    ap (λ e. (found_by (rule.named e) (suc k) (found (behind rule log p) (drop p log) k)).conf) (get_or-drop p log k no_entry)
    ∙ go (rule.named (get_or log (p + k) no_entry)) (behind_sees rule log p k) ∙ ap (in_force rule log) next
  where
    go : (x : Named) → in_force (behind rule log p) (drop p log) k ≡ in_force rule log (p + k)
        → (found_by x (suc k) (found (behind rule log p) (drop p log) k)).conf ≡ (found_by x (suc (p + k)) (found rule log (p + k))).conf
    go plain up = up
    go (names c) up = refl
