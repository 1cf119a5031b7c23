-- What is proved of a frame's rules and fields, for the code's proofs and for 'one spelling'. Assumes nothing.
use Rattle.std.specs.Prelude.{ℕ, zero, suc, ◌+◌, ◌-◌, ◌≤◌, ◌<◌, ◌≡◌, refl, true, false, List, [], ◌∷◌, leb, length, get_or, take, drop}
use Rattle.std.proofs.Common.{add-one, arith, ap, ◌∙◌, ne_eqb}
use Rattle.std.proofs.Math.Seq.{drop-cons}
use Rattle.std.proofs.lemmas.List.{drop_more, drop_all}
use Rattle.frames.specs.declared.Entry.{Entry}
use Rattle.frames.specs.Message.{Message, vote_request, vote_answer, append, append_answer, by_kind}
use Rattle.frames.specs.Rules.{follows, in_order}
use Rattle.frames.specs.Fields.{no_entry, listed}

-- ---- by kind

-- the choice of each kind
pub kind_1 : {A : Type 0} (k : ℕ) (a b c d : A) → k ≡ 1 → by_kind k a b c d ≡ a
unfolding by_kind
kind_1 k a b c d e = rw e

pub kind_2 : {A : Type 0} (k : ℕ) (a b c d : A) → k ≡ 2 → by_kind k a b c d ≡ b
unfolding by_kind
kind_2 k a b c d e = rw e

pub kind_3 : {A : Type 0} (k : ℕ) (a b c d : A) → k ≡ 3 → by_kind k a b c d ≡ c
unfolding by_kind
kind_3 k a b c d e = rw e

pub kind_4 : {A : Type 0} (k : ℕ) (a b c d : A) → (k ≡ 1 → ⊥) → (k ≡ 2 → ⊥) → (k ≡ 3 → ⊥) → by_kind k a b c d ≡ d
unfolding by_kind
kind_4 k a b c d p q r = rw (ne_eqb k 1 p, ne_eqb k 2 q, ne_eqb k 3 r)

-- One of the four kinds.
pub record OfFour (k : ℕ) : Type 0 where
  pub least : 1 ≤ k
  pub most : k < 5

-- what holds of the four kinds holds of each number from 1 to 4
pub at-kind : (P : ℕ → Type 0) → P 1 → P 2 → P 3 → P 4 → (k : ℕ) → 1 ≤ k → k < 5 → P k
at-kind P a b c d zero l h = absurd (omega arith)
at-kind P a b c d (suc zero) l h = a
at-kind P a b c d (suc (suc zero)) l h = b
at-kind P a b c d (suc (suc (suc zero))) l h = c
at-kind P a b c d (suc (suc (suc (suc zero)))) l h = d
at-kind P a b c d (suc (suc (suc (suc (suc k))))) l h = absurd (omega arith)

-- A message's kind and count, as its text has them.
abbrev pub kind_of : Message → ℕ
kind_of (vote_request from to term last_index last_term) = 1
kind_of (vote_answer from to term reply) = 2
kind_of (append from to term previous-index previous-term commit es) = 3
kind_of (append_answer from to term reply index) = 4

abbrev pub count_of : Message → ℕ
count_of (vote_request from to term last_index last_term) = 0
count_of (vote_answer from to term reply) = 0
count_of (append from to term previous-index previous-term commit es) = length es
count_of (append_answer from to term reply index) = 0

-- a message is of one of the four kinds
pub kind_range : (m : Message) → OfFour (kind_of m)
kind_range (vote_request from to term last_index last_term) = record { least = omega arith; most = omega arith }
kind_range (vote_answer from to term reply) = record { least = omega arith; most = omega arith }
kind_range (append from to term previous-index previous-term commit es) = record { least = omega arith; most = omega arith }
kind_range (append_answer from to term reply index) = record { least = omega arith; most = omega arith }

-- ---- the entries of the struct, one by one

-- as many are listed as are asked for
pub length-listed : (es : List Entry) (at n : ℕ) → length (listed es at n) ≡ n
unfolding listed
length-listed es at zero = refl
length-listed es at (suc n) = ap suc (length-listed es (suc at) n)

-- the entries that are left at a place: the one there, and those behind it
pub listed_next : (es : List Entry) (i n : ℕ) → i < n → listed es i (n - i) ≡ get_or es i no_entry ∷ listed es (i + 1) (n - (i + 1))
unfolding listed
listed_next es i n h = ap (listed es i) left ∙ rw (add-one i)
  where
    left : n - i ≡ suc (n - (i + 1))
    left = omega arith

-- and none behind the last
pub listed_end : (es : List Entry) (i n : ℕ) → n ≤ i → listed es i (n - i) ≡ []
unfolding listed
listed_end es i n h = ap (listed es i) done
  where
    done : n - i ≡ 0
    done = omega arith

-- entries from the first on are the front of the list
pub listed-take : (es : List Entry) (n : ℕ) → n ≤ length es → listed es 0 n ≡ take n es
unfolding listed
listed-take es n l = from 0 n (omega arith)
  where
    from : (at n : ℕ) → at + n ≤ length es → listed es at n ≡ take n (drop at es)
    from at zero l = refl
    from at (suc n) l = rw (drop-cons es at no_entry (omega arith)) (ap (λ (r : List Entry). get_or es at no_entry ∷ r) (from (suc at) n (omega arith)))

-- ---- the entry rule over what is left

module _ (es : List Entry) (i last term : ℕ) where
  -- an entry that follows leaves the rule to those behind it
  pub in_order-next : i < length es → follows last term (get_or es i no_entry).term ≡ true
      → in_order last term (drop i es) ≡ in_order (get_or es i no_entry).term term (drop (i + 1) es)
  unfolding in_order
  in_order-next h f = rw (drop_more es i no_entry h, f)

  -- one that does not breaks it
  pub in_order-broken : i < length es → follows last term (get_or es i no_entry).term ≡ false → in_order last term (drop i es) ≡ false
  unfolding in_order
  in_order-broken h f = rw (drop_more es i no_entry h, f)

  -- and behind the last it asks that no term is above the message's
  pub in_order_end : length es ≤ i → in_order last term (drop i es) ≡ leb last term
  unfolding in_order
  in_order_end h = rw (drop_all i es h)

-- ---- the same over listed entries

module _ (es : List Entry) (i n last term : ℕ) where
  pub in_order-next-listed : i < n → follows last term (get_or es i no_entry).term ≡ true
      → in_order last term (listed es i (n - i)) ≡ in_order (get_or es i no_entry).term term (listed es (i + 1) (n - (i + 1)))
  unfolding in_order
  in_order-next-listed h f = rw (listed_next es i n h, f)

  pub in_order-broken-listed : i < n → follows last term (get_or es i no_entry).term ≡ false → in_order last term (listed es i (n - i)) ≡ false
  unfolding in_order
  in_order-broken-listed h f = rw (listed_next es i n h, f)

  pub in_order_end-listed : n ≤ i → in_order last term (listed es i (n - i)) ≡ leb last term
  unfolding in_order
  in_order_end-listed h = rw (listed_end es i n h)

-- for the code's proofs
pub ruleset steps = (in_order-next, in_order-broken, in_order_end, length-listed, listed-take)
