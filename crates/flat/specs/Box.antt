-- A box's record as 22 numbers. Assumes nothing.
use Rattle.std.specs.Prelude.{ℕ, ◌+◌, ◌%◌, Bool, ◌&&◌, List, [], ◌∷◌, ltb, get_or, set}
use Rattle.record.specs.declared.Lead.{Lead}
use Rattle.record.specs.declared.Record.{Record}

-- Each number fits the field that it is for.
abbrev pub small : List ℕ → ℕ → Bool
small n i = ltb (get_or n i 0) 65536

abbrev pub box_range : List ℕ → Bool
box_range n =
    ltb (get_or n 0 0) 256 && ltb (get_or n 1 0) 256 && ltb (get_or n 2 0) 4294967296 && ltb (get_or n 3 0) 256 && small n 4 && small n 5
    && ltb (get_or n 6 0) 256 && ltb (get_or n 7 0) 256 && small n 8 && small n 9 && small n 10 && small n 11 && small n 12 && small n 13
    && small n 14 && small n 15 && small n 16 && small n 17 && small n 18 && small n 19 && small n 20 && small n 21

-- Seven numbers from a place on.
abbrev pub seven_in : List ℕ → ℕ → List ℕ
seven_in n at =
    get_or n at 0 % 65536 ∷ get_or n (at + 1) 0 % 65536 ∷ get_or n (at + 2) 0 % 65536 ∷ get_or n (at + 3) 0 % 65536 ∷ get_or n (at + 4) 0 % 65536
    ∷ get_or n (at + 5) 0 % 65536 ∷ get_or n (at + 6) 0 % 65536 ∷ []

-- The box that the numbers are. (The remainders change nothing where the numbers are in range.)
abbrev pub box_in : List ℕ → Record
box_in n =
    record {
      me = get_or n 0 0 % 256;
      members = get_or n 1 0 % 256;
      term = get_or n 2 0 % 4294967296;
      vote = get_or n 3 0 % 256;
      last = get_or n 4 0 % 65536;
      commit = get_or n 5 0 % 65536;
      role = get_or n 6 0 % 256;
      votes = get_or n 7 0 % 256;
      lead = record { next = seven_in n 8; matched = seven_in n 15 };
    }

-- Seven numbers stored from a place on.
abbrev pub stored_7 : List ℕ → ℕ → List ℕ → List ℕ
stored_7 n at list =
    set (set (set (set (set (set (set n at (get_or list 0 0)) (at + 1) (get_or list 1 0)) (at + 2) (get_or list 2 0)) (at + 3) (get_or list 3 0))
    (at + 4) (get_or list 4 0)) (at + 5) (get_or list 5 0)) (at + 6) (get_or list 6 0)

-- The numbers with the box stored in their places.
abbrev pub lead_flat : Lead → List ℕ → List ℕ
lead_flat l n = stored_7 (stored_7 n 8 l.next) 15 l.matched

abbrev pub box_flat : Record → List ℕ → List ℕ
box_flat b n =
    lead_flat b.lead
    (set (set (set (set (set (set (set (set n 0 b.me) 1 b.members) 2 b.term) 3 b.vote) 4 b.last) 5 b.commit) 6 b.role) 7 b.votes)
