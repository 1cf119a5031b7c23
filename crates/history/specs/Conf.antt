-- Majorities; and configurations: one set of boxes, or two jointly. What may follow what, and which are near each other. (Any two majorities share a
-- box, and agreements under near configurations do: `both`, `meets` of proofs/ConfLaws.) Assumes nothing.
use Rattle.std.specs.Prelude.{ℕ, ◌<◌, ◌≡◌, true}
use Rattle.frames.specs.Limits.{masks}
use Rattle.raft.specs.Majority.{holds, majority}
use Rattle.raft.proofs.RecordLaws.{Member}

-- ---- majorities

-- A set of boxes that is a majority of the members, of each of which something holds.
pub record Most (members : ℕ) (P : ℕ → Type 0) : Type 0 where
  pub boxes : ℕ
  pub enough : majority members boxes ≡ true
  pub each : (j : ℕ) → Member j members → holds boxes j ≡ true → P j

-- A box of which both hold.
pub record Met (P Q : ℕ → Type 0) : Type 0 where
  pub box : ℕ
  pub left : P box
  pub right : Q box

-- ---- configurations

-- "old mask (0 when there is one set only), new mask"
pub data Conf : Type 0 where
  one : ℕ → Conf
  joint : ℕ → ℕ → Conf

-- Most of one set.
pub record Agreed (members : ℕ) (P : ℕ → Type 0) : Type 0 where
  pub small : members < masks
  pub most : Most members P

-- "Under a joint one, votes and commits need both majorities"
unfoldable pub Agrees : Conf → (ℕ → Type 0) → Type 0
Agrees (one m) P = Agreed m P
Agrees (joint m n) P = Agreed m P × Agreed n P

pub record Agree (c : Conf) (P : ℕ → Type 0) : Type 0 where
  pub held : Agrees c P

-- What may follow a configuration: of one set, a joint one from it; of a joint one, its new set.
unfoldable pub Extends : Conf → Conf → Type 0
Extends (one m) (one n) = ⊥
Extends (one m) (joint a b) = a ≡ m
Extends (joint a b) (one n) = n ≡ b
Extends (joint a b) (joint c d) = ⊥

-- Two that may be in force for two boxes at a time: the same, one behind the other, or two that follow the same.
pub data Near (x y : Conf) : Type 0 where
  same : x ≡ y → Near x y
  before : Extends x y → Near x y
  behind : Extends y x → Near x y
  beside : (c : Conf) → Extends c x → Extends c y → Near x y
