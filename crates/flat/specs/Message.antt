-- A message as 17 numbers. Assumes nothing.
use Rattle.std.specs.Prelude.{ℕ, ◌+◌, ◌%◌, Bool, ◌&&◌, List, [], ◌∷◌, ltb, get_or, set}
use Rattle.frames.specs.declared.Entry.{Entry}
use Rattle.frames.specs.declared.Fields.{Fields}
use Rattle.frames.specs.Fields.{no_entry}

-- The numbers with the fields stored in their places.
abbrev pub flat : Fields → List ℕ → List ℕ
flat f n =
    let a = get_or f.entries 0 no_entry in
    let b = get_or f.entries 1 no_entry in
    let c = get_or f.entries 2 no_entry in
    let d = get_or f.entries 3 no_entry in
    set (set (set (set (set (set (set (set (set (set (set (set (set (set (set (set (set n 0 f.kind) 1 f.from) 2 f.to) 3 f.term)
    4 f.index) 5 f.prior) 6 f.commit) 7 f.reply) 8 f.count) 9 a.term) 10 a.order) 11 b.term) 12 b.order)
    13 c.term) 14 c.order) 15 d.term) 16 d.order

-- Each number fits the field that it is for.
abbrev pub in_range : List ℕ → Bool
in_range n =
    ltb (get_or n 0 0) 256 && ltb (get_or n 1 0) 256 && ltb (get_or n 2 0) 256 && ltb (get_or n 3 0) 4294967296 && ltb (get_or n 4 0) 65536
    && ltb (get_or n 5 0) 4294967296 && ltb (get_or n 6 0) 65536 && ltb (get_or n 7 0) 256 && ltb (get_or n 8 0) 256
    && ltb (get_or n 9 0) 4294967296 && ltb (get_or n 11 0) 4294967296 && ltb (get_or n 13 0) 4294967296 && ltb (get_or n 15 0) 4294967296

-- The entry whose two numbers begin at a place.
abbrev pub entry_at : List ℕ → ℕ → Entry
entry_at n at = record { term = get_or n at 0 % 4294967296; order = get_or n (at + 1) 0 }

-- The fields that the numbers are. (The remainders change nothing where the numbers are in range.)
abbrev pub fields_in : List ℕ → Fields
fields_in n =
    record {
      kind = get_or n 0 0 % 256;
      from = get_or n 1 0 % 256;
      to = get_or n 2 0 % 256;
      term = get_or n 3 0 % 4294967296;
      index = get_or n 4 0 % 65536;
      prior = get_or n 5 0 % 4294967296;
      commit = get_or n 6 0 % 65536;
      reply = get_or n 7 0 % 256;
      count = get_or n 8 0 % 256;
      entries = record { term = get_or n 9 0 % 4294967296; order = get_or n 10 0 } ∷ record { term = get_or n 11 0 % 4294967296; order = get_or n 12 0 }
          ∷ record { term = get_or n 13 0 % 4294967296; order = get_or n 14 0 } ∷ record { term = get_or n 15 0 % 4294967296; order = get_or n 16 0 } ∷ [];
    }
