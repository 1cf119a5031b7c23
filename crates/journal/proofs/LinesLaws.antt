-- Bytes are whole lines, one behind another, and a rest with no line feed: `lines` gives those lines and `whole_bytes` counts them.
-- Assumes nothing.
use Rattle.std.specs.Prelude.{ℕ, suc, ◌+◌, ◌≤◌, ◌<◌, ◌≡◌, refl, Bool, true, false, cond, ◌||◌, List, [], ◌∷◌, ◌++◌, eqb, leb, length, get_or, take, drop}
use Rattle.std.proofs.Common.{arith, sym, ap, ◌∙◌, true≢false, append_assoc, length-append, length-take, length-drop, take_at, drop-drop, get_or-drop, eqb-true, le-leb}
use Rattle.std.proofs.Math.Seq.{split_at}
use Rattle.digits.specs.Digits.{is_digit, place, all_digits}
use Rattle.digits.specs.Tests.{and_left, and_right}
use Rattle.frames.specs.Message.{line_feed}
use Rattle.raft.proofs.SendLaws.{All}
use Rattle.journal.specs.Lines.{lines_behind, lines, whole_bytes}

-- ---- what lines are

-- Bytes with no line feed.
abbrev pub Feedless : List ℕ → Type 0
Feedless bytes = All (λ b. eqb b line_feed ≡ false) bytes

-- A whole line: bytes with no line feed, and then one.
pub record Whole (line : List ℕ) : Type 0 where
  pub front : List ℕ
  pub free : Feedless front
  pub ended : line ≡ front ++ (line_feed ∷ [])

-- Lines, one behind another.
unfoldable pub strung : List (List ℕ) → List ℕ
strung [] = []
strung (line ∷ behind) = line ++ strung behind

-- Lines and lines behind them.
pub strung-append : (a b : List (List ℕ)) → strung (a ++ b) ≡ strung a ++ strung b
unfolding strung
strung-append [] b = refl
strung-append (l ∷ a) b = rw (strung-append a b) (sym (append_assoc l (strung a) (strung b)))

-- Digits have no line feed.
pub digits_feedless : (ds : List ℕ) → all_digits ds ≡ true → Feedless ds
unfolding All all_digits is_digit place
digits_feedless [] d = tt
digits_feedless (c ∷ ds) d = (go (eqb c line_feed) refl (and_left (is_digit c) _ d), digits_feedless ds (and_right (is_digit c) _ d))
  where
    go : (b : Bool) → eqb c line_feed ≡ b → is_digit c ≡ true → eqb c line_feed ≡ false
    go true e h = absurd (true≢false (sym (rw (eqb-true c line_feed e) at h)))
    go false e h = e

-- ---- the lines of bytes

-- the first line is what comes before a line feed, and it
behind-first : (begun ds rest : List ℕ) → Feedless ds
    → lines_behind begun (ds ++ (line_feed ∷ rest)) ≡ (begun ++ (ds ++ (line_feed ∷ []))) ∷ lines_behind [] rest
unfolding lines_behind All
behind-first begun [] rest f = refl
behind-first begun (d ∷ ds) rest f =
    rw f.0 (behind-first (begun ++ (d ∷ [])) ds rest f.1 ∙ rw (append_assoc begun (d ∷ []) (ds ++ (line_feed ∷ []))))

-- and without one there is none
behind-none : (begun ds : List ℕ) → Feedless ds → lines_behind begun ds ≡ []
unfolding lines_behind All
behind-none begun [] f = refl
behind-none begun (d ∷ ds) f = rw f.0 (behind-none (begun ++ (d ∷ [])) ds f.1)

-- Bytes with no line feed are no line.
pub lines_none : (bytes : List ℕ) → Feedless bytes → lines bytes ≡ []
unfolding lines
lines_none bytes f = behind-none [] bytes f

-- A whole line is the first of the bytes that it begins.
pub lines-first : (line rest : List ℕ) → Whole line → lines (line ++ rest) ≡ line ∷ lines rest
unfolding lines
lines-first line rest w =
    rw (w.ended, append_assoc w.front (line_feed ∷ []) rest) (behind-first [] w.front rest w.free)

-- So lines one behind another are the lines, whatever follows them with no line feed.
pub lines-strung : (ls : List (List ℕ)) (tail : List ℕ) → All Whole ls → Feedless tail → lines (strung ls ++ tail) ≡ ls
unfolding All strung
lines-strung [] tail a f = lines_none tail f
lines-strung (l ∷ ls) tail a f =
    rw (append_assoc l (strung ls) tail, lines-first l (strung ls ++ tail) a.0, lines-strung ls tail a.1 f)

-- ---- how many bytes they are

-- up to and with a line feed, and those behind it
counted-first : (ds rest : List ℕ) → whole_bytes (ds ++ (line_feed ∷ rest)) ≡ length ds + suc (whole_bytes rest)
unfolding whole_bytes
counted-first [] rest = omega arith
counted-first (d ∷ ds) rest =
    rw (counted-first ds rest, le-leb 1 (length ds + suc (whole_bytes rest)) (omega arith)) (go (eqb d line_feed))
  where
    go : (b : Bool) → cond (b || true) (suc (length ds + suc (whole_bytes rest))) 0 ≡ suc (length ds) + suc (whole_bytes rest)
    go true = omega arith
    go false = omega arith

-- Bytes with no line feed count for nothing,
pub counted_none : (bytes : List ℕ) → Feedless bytes → whole_bytes bytes ≡ 0
unfolding whole_bytes All
counted_none [] f = refl
counted_none (b ∷ bytes) f = rw (f.0, counted_none bytes f.1)

-- and a whole line for its length.
pub counted-line : (line rest : List ℕ) → Whole line → whole_bytes (line ++ rest) ≡ length line + whole_bytes rest
counted-line line rest w =
    rw (w.ended, append_assoc w.front (line_feed ∷ []) rest, counted-first w.front rest, length-append) (omega arith)

-- So lines one behind another count in full, whatever follows them with no line feed.
pub counted-strung : (ls : List (List ℕ)) (tail : List ℕ) → All Whole ls → Feedless tail → whole_bytes (strung ls ++ tail) ≡ length (strung ls)
unfolding All strung
counted-strung [] tail a f = counted_none tail f
counted-strung (l ∷ ls) tail a f =
    rw (append_assoc l (strung ls) tail, counted-line l (strung ls ++ tail) a.0, counted-strung ls tail a.1 f)
    (sym (length-append l (strung ls)))

-- ---- any bytes

-- Bytes as whole lines and what follows the last line feed.
pub record Split (bytes : List ℕ) : Type 0 where
  pub whole : List (List ℕ)
  pub tail : List ℕ
  pub each : All Whole whole
  pub free : Feedless tail
  pub is : bytes ≡ strung whole ++ tail

-- one byte in front of bytes that are split
split_more : (b : ℕ) (bytes : List ℕ) → Split bytes → Split (b ∷ bytes)
unfolding All strung
split_more b bytes s = go (eqb b line_feed) refl s.whole s.each s.is
  where
    go : (t : Bool) → eqb b line_feed ≡ t → (ls : List (List ℕ)) → All Whole ls → bytes ≡ strung ls ++ s.tail → Split (b ∷ bytes)
    go true e ls a i =
        record {
          whole = (b ∷ []) ∷ ls;
          tail = s.tail;
          each = (record { front = []; free = tt; ended = ap (λ (n : ℕ). n ∷ []) (eqb-true b line_feed e) }, a);
          free = s.free;
          is = ap (λ (l : List ℕ). b ∷ l) i;
        }
    go false e [] a i =
        record { whole = []; tail = b ∷ s.tail; each = tt; free = (e, s.free); is = ap (λ (l : List ℕ). b ∷ l) i }
    go false e (l ∷ ls) a i =
        record {
          whole = (b ∷ l) ∷ ls;
          tail = s.tail;
          each = (
            record { front = b ∷ a.0.front; free = (e, a.0.free); ended = ap (λ (x : List ℕ). b ∷ x) a.0.ended },
            a.1,
          );
          free = s.free;
          is = ap (λ (x : List ℕ). b ∷ x) i;
        }

-- Any bytes are so split,
pub split : (bytes : List ℕ) → Split bytes
unfolding All strung
split [] = record { whole = []; tail = []; each = tt; free = tt; is = refl }
split (b ∷ bytes) = split_more b bytes (split bytes)

-- into their lines,
pub split_lines : (bytes : List ℕ) (s : Split bytes) → lines bytes ≡ s.whole
split_lines bytes s = ap lines s.is ∙ lines-strung s.whole s.tail s.each s.free

-- that are whole,
pub lines-whole : (bytes : List ℕ) → All Whole (lines bytes)
lines-whole bytes = rw (split_lines bytes (split bytes)) (split bytes).each

-- as many bytes as are counted,
pub split_bytes : (bytes : List ℕ) (s : Split bytes) → whole_bytes bytes ≡ length (strung s.whole)
split_bytes bytes s = ap whole_bytes s.is ∙ counted-strung s.whole s.tail s.each s.free

-- and the first so many bytes are those lines.
pub whole-lines : (bytes : List ℕ) → take (whole_bytes bytes) bytes ≡ strung (lines bytes)
whole-lines bytes =
    let s = split bytes in
    rw (split_bytes bytes s, split_lines bytes s)
    (ap (take (length (strung s.whole))) s.is ∙ take_at (strung s.whole) s.tail (length (strung s.whole)) refl)

-- No more are counted than there are.
pub whole-most : (bytes : List ℕ) → whole_bytes bytes ≤ length bytes
unfolding whole_bytes
whole-most [] = omega arith
whole-most (b ∷ bytes) = go (eqb b line_feed || leb 1 (whole_bytes bytes)) (whole-most bytes)
  where
    go : (t : Bool) → whole_bytes bytes ≤ length bytes → cond t (suc (whole_bytes bytes)) 0 ≤ suc (length bytes)
    go true l = omega arith
    go false l = omega arith

-- ---- lines at a place, as a walk over the bytes meets them

-- bytes from a place on, up to a line feed there, are a whole line, and the rest is what is behind it
line-there : (bytes : List ℕ) (at n : ℕ) → at + n < length bytes → get_or bytes (at + n) 0 ≡ line_feed
    → drop at bytes ≡ (take n (drop at bytes) ++ (line_feed ∷ [])) ++ drop (at + suc n) bytes
line-there bytes at n l e =
    let there : get_or (drop at bytes) n 0 ≡ line_feed = get_or-drop at bytes n 0 ∙ e in
    split_at (drop at bytes) n 0 (rw length-drop (omega arith))
    ∙ rw (there, drop-drop (suc n) at bytes) (sym (append_assoc (take n (drop at bytes)) (line_feed ∷ []) (drop (at + suc n) bytes)))

module _ (bytes : List ℕ) (at n : ℕ) (l : at + n < length bytes) (f : Feedless (take n (drop at bytes))) (e : get_or bytes (at + n) 0 ≡ line_feed) where
  -- that line
  whole-there : Whole (take n (drop at bytes) ++ (line_feed ∷ []))
  whole-there = record { front = take n (drop at bytes); free = f; ended = refl }

  -- Where the first line feed from a place on stands n bytes behind it, the first line ends there,
  pub lines-there : lines (drop at bytes) ≡ (take n (drop at bytes) ++ (line_feed ∷ [])) ∷ lines (drop (at + suc n) bytes)
  lines-there =
      ap lines (line-there bytes at n l e) ∙ lines-first (take n (drop at bytes) ++ (line_feed ∷ [])) (drop (at + suc n) bytes) whole-there

  -- and counts for n bytes and the line feed.
  pub counted-there : whole_bytes (drop at bytes) ≡ suc n + whole_bytes (drop (at + suc n) bytes)
  counted-there =
      ap whole_bytes (line-there bytes at n l e)
      ∙ counted-line (take n (drop at bytes) ++ (line_feed ∷ [])) (drop (at + suc n) bytes) whole-there
      ∙ ap (λ (k : ℕ). k + whole_bytes (drop (at + suc n) bytes)) long
    where
      long : length (take n (drop at bytes) ++ (line_feed ∷ [])) ≡ suc n
      long = simp (length-append, length-take, length-drop) (omega arith)
