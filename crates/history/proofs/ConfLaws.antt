-- Of majorities any two share a box (`both`); and agreements under near configurations share a box (`meets`). Outside this file agreements are made,
-- mapped and met; one is opened once, where there is no member (`Views.nobody`). Assumes nothing.
use Rattle.std.specs.Prelude.{ℕ, ◌<◌}
use Rattle.std.proofs.Common.{subst}
use Rattle.frames.specs.Limits.{masks}
use Rattle.raft.proofs.MajorityLaws.{meet}
use Rattle.raft.proofs.RecordLaws.{Member}
use Rattle.history.specs.Conf.{Most, Met, Conf, one, joint, Agreed, Agrees, Agree, Extends, Near, same, before, behind, beside}

-- two majorities share a member
pub both : {members : ℕ} {P Q : ℕ → Type 0} → members < masks → Most members P → Most members Q → Met P Q
both {members} l p q =
    let s = meet members p.boxes q.boxes l p.enough q.enough in
    let m : Member s.box members = record { least = s.least; most = s.most; mask = l; held = s.member } in
    record { box = s.box; left = p.each s.box m s.first; right = q.each s.box m s.second }

-- what follows for each follows for most
pub most-map : {members : ℕ} {P Q : ℕ → Type 0} → ((j : ℕ) → P j → Q j) → Most members P → Most members Q
most-map f p = record { boxes = p.boxes; enough = p.enough; each = λ j m s. f j (p.each j m s) }

-- ---- configurations

-- the other way round
met_swap : {P Q : ℕ → Type 0} → Met P Q → Met Q P
met_swap m = record { box = m.box; left = m.right; right = m.left }

-- most of one set, twice
agreed_meet : {m : ℕ} {P Q : ℕ → Type 0} → Agreed m P → Agreed m Q → Met P Q
agreed_meet p q = both p.small p.most q.most

-- one configuration, twice
agree_meet : (c : Conf) {P Q : ℕ → Type 0} → Agrees c P → Agrees c Q → Met P Q
unfolding Agrees
agree_meet (one m) p q = agreed_meet p q
agree_meet (joint m n) p q = agreed_meet p.0 q.0

-- one and what follows it
extends_meet : (x y : Conf) {P Q : ℕ → Type 0} → Extends x y → Agrees x P → Agrees y Q → Met P Q
unfolding Agrees Extends
extends_meet (one m) (one n) e p q = absurd e
extends_meet (one m) (joint a b) e p q = agreed_meet p (rw e at q.0)
extends_meet (joint a b) (one n) e p q = agreed_meet p.1 (rw e at q)
extends_meet (joint a b) (joint c d) e p q = absurd e

-- two that follow the same: two joint ones share its set, and a joint one is followed by its new set alone
beside_meet : (c x y : Conf) {P Q : ℕ → Type 0} → Extends c x → Extends c y → Agrees x P → Agrees y Q → Met P Q
unfolding Agrees Extends
beside_meet (one m) (one a) y e g p q = absurd e
beside_meet (one m) (joint a b) (one d) e g p q = absurd g
beside_meet (one m) (joint a b) (joint d k) e g p q = agreed_meet (rw e at p.0) (rw g at q.0)
beside_meet (joint m n) (one a) (one b) e g p q = agreed_meet (rw e at p) (rw g at q)
beside_meet (joint m n) (one a) (joint b d) e g p q = absurd g
beside_meet (joint m n) (joint a b) y e g p q = absurd e

-- **Agreements under near configurations share a box.**
pub meets : {x y : Conf} {P Q : ℕ → Type 0} → Near x y → Agree x P → Agree y Q → Met P Q
meets {x} {y} {P} (same e) p q = agree_meet y (subst (λ c. Agrees c P) e p.held) q.held
meets {x} {y} {P} (before e) p q = extends_meet x y e p.held q.held
meets {x} {y} {P} (behind e) p q = met_swap (extends_meet y x e q.held p.held)
meets {x} {y} {P} (beside c e g) p q = beside_meet c x y e g p.held q.held

-- what is agreed holds of one box at least
pub agree-some : {c : Conf} {P : ℕ → Type 0} → Agree c P → Met P P
agree-some {c} p = agree_meet c p.held p.held

-- what follows for each follows for an agreement
agreed-map : {m : ℕ} {P Q : ℕ → Type 0} → ((j : ℕ) → P j → Q j) → Agreed m P → Agreed m Q
agreed-map g p = record { small = p.small; most = most-map g p.most }

agrees_map : (c : Conf) {P Q : ℕ → Type 0} → ((j : ℕ) → P j → Q j) → Agrees c P → Agrees c Q
unfolding Agrees
agrees_map (one m) g p = agreed-map g p
agrees_map (joint m n) g p = (agreed-map g p.0, agreed-map g p.1)

pub agree-map : {c : Conf} {P Q : ℕ → Type 0} → ((j : ℕ) → P j → Q j) → Agree c P → Agree c Q
agree-map {c} g p = record { held = agrees_map c g p.held }
