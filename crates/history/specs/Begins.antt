-- 'Is a beginning of', said of logs. (Its laws: BeginsLaws.) Assumes nothing.
use Rattle.std.specs.Prelude.{◌≡◌, List, ◌⊎◌, length, take}
use Rattle.frames.specs.declared.Entry.{Entry}

-- a is a beginning of b: as many entries of b as a has are a.
pub record Begins (a b : List Entry) : Type 0 where
  pub first : take (length a) b ≡ a

-- Of two logs one is a beginning of the other.
abbrev pub OneBegins : List Entry → List Entry → Type 0
OneBegins a b = Begins a b ⊎ Begins b a
