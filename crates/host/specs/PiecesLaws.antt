-- **Every way of opening is the same opening:** the head, and then lines or blocks, come to what `opening` of the whole file comes to: record, log, byte count, refusal
-- and line number. Assumes nothing.
use Rattle.std.specs.Prelude.{ℕ, suc, ◌+◌, ◌≤◌, ◌≡◌, Bool, eqb, take, Ok}
use Rattle.std.proofs.Math.Nat.{zero-add}
use Rattle.std.proofs.Common.{add-zero, arith, subst, ◌∙◌, length-append, length-take, take-append-drop, take_all, drop-drop, eqb-true}
use Rattle.std.proofs.Math.Path.{refl, sym, ap}
use Rattle.std.proofs.Math.Bool.{true, false, cond}
use mathlib.Core.List.{List, [], ◌∷◌, ◌++◌, append_assoc, append-nil}
use Rattle.std.proofs.Math.ListN.{length, drop}
use Rattle.std.proofs.Math.Seq.{drop-append-add}
use Rattle.std.proofs.lemmas.Bool.{eqb-false}
use Rattle.frames.specs.Refusal.{code}
use Rattle.raft.specs.Record.{State, fresh}
use Rattle.raft.specs.Lent.{entries_of}
use Rattle.raft.proofs.SendLaws.{All}
use Rattle.record.specs.declared.Record.{Record}
use Rattle.record.specs.Calls.{state_of, record_of}
use Rattle.journal.specs.Lines.{lines, whole_bytes, mask_in}
use Rattle.journal.proofs.LinesLaws.{Whole, strung, split, split_lines, lines-first, counted-line, whole-lines, whole-most}
use Rattle.journal.proofs.LineSpelling.{line-whole, head-whole}
use Rattle.journal.specs.Opening.{next, breaks, replayed, opened, headless, broken, go_on, replay, is_head, open_lines, opening}
use Rattle.journal.proofs.OpeningLaws.{is_head_exactly}
use Rattle.journal.proofs.OpeningExactly.{next_exactly}
use Rattle.opening.specs.declared.Block.{Block}
use Rattle.opening.specs.Calls.{ReplayedTold, told_replay, Replaying, replaying, Tells, none, heading, told_block, Blocks, counted, stopped, replay_each, replaying_lines, ReplaysLines}
use Rattle.opening.specs.ReplayCode.{line-breaks, line-goes}
use Rattle.opening.specs.BlockLaws.{goes-line, breaks-line, AllPassed, all_passed, OneBreaks, one-breaks}
use Rattle.host.specs.Pieces.{Passed, the_head, a_line, a_block}

-- ---- lines in front of others

-- Whole lines in front are the first lines,
lines_in_front : (ls : List (List ℕ)) (rest : List ℕ) → All Whole ls → lines (strung ls ++ rest) ≡ ls ++ lines rest
unfolding All strung
lines_in_front [] rest a = refl
lines_in_front (l ∷ ls) rest a =
    rw (append_assoc l (strung ls) rest, lines-first l (strung ls ++ rest) a.0, lines_in_front ls rest a.1)

-- and count in full.
counted_in_front : (ls : List (List ℕ)) (rest : List ℕ) → All Whole ls → whole_bytes (strung ls ++ rest) ≡ length (strung ls) + whole_bytes rest
unfolding All strung
counted_in_front [] rest a = omega arith
counted_in_front (l ∷ ls) rest a =
    rw (append_assoc l (strung ls) rest, counted-line l (strung ls ++ rest) a.0, counted_in_front ls rest a.1, length-append l (strung ls)) (omega arith)

-- Where there is no line, no byte counts.
none-counted : (bytes : List ℕ) → lines bytes ≡ [] → whole_bytes bytes ≡ 0
unfolding strung
none-counted bytes e =
    omega (arith, ap length (whole-lines bytes ∙ ap strung e), length-take (whole_bytes bytes) bytes, whole-most bytes)

-- Lines that are the same with others behind them have none behind them.
none-behind : (a b : List (List ℕ)) → a ≡ a ++ b → b ≡ []
none-behind a [] e = refl
none-behind a (l ∷ b) e = absurd (omega (arith, ap length e, length-append a (l ∷ b)))

-- ---- where an opening in pieces stands

-- The whole opening is what was replayed up to a place, and what is left from there.
pub record At (i : ℕ) (disk : List ℕ) (b : Record) (terms orders : List ℕ) (place count : ℕ) : Type 0 where
  pub left : whole_bytes disk ≡ place + whole_bytes (drop place disk)
  pub same : opening i disk ≡ replay (whole_bytes disk) (state_of b terms orders) (suc count) (lines (drop place disk))

-- Some lines further.
module _ (disk : List ℕ) (place : ℕ) (ls : List (List ℕ)) (rest : List ℕ) (a : All Whole ls) (e : drop place disk ≡ strung ls ++ rest) where
  behind : drop (place + length (strung ls)) disk ≡ rest
  behind =
      sym (drop-drop (length (strung ls)) place disk) ∙ ap (drop (length (strung ls))) e
      ∙ ap (λ (n : ℕ). drop n (strung ls ++ rest)) (sym (add-zero (length (strung ls)))) ∙ drop-append-add (strung ls) rest 0

  further-lines : lines (drop place disk) ≡ ls ++ lines (drop (place + length (strung ls)) disk)
  further-lines = ap lines e ∙ lines_in_front ls rest a ∙ ap (λ (l : List ℕ). ls ++ lines l) (sym behind)

  further-left : whole_bytes disk ≡ place + whole_bytes (drop place disk)
      → whole_bytes disk ≡ (place + length (strung ls)) + whole_bytes (drop (place + length (strung ls)) disk)
  further-left l =
      omega (arith, l, ap whole_bytes e ∙ counted_in_front ls rest a, ap whole_bytes behind)

-- ---- each piece

-- Any bytes from a place on: their whole lines, and the rest of the file behind those.
record Cut (disk : List ℕ) (place n : ℕ) : Type 0 where
  rest : List ℕ
  whole : All Whole (lines (take n (drop place disk)))
  is : drop place disk ≡ strung (lines (take n (drop place disk))) ++ rest

cut_at : (disk : List ℕ) (place n : ℕ) → Cut disk place n
cut_at disk place n =
    let bytes = take n (drop place disk) in
    let s = split bytes in
    let same = split_lines bytes s in
    record {
      rest = s.tail ++ drop n (drop place disk);
      whole = rw same s.each;
      is =
          sym (take-append-drop n (drop place disk)) ∙ ap (λ (l : List ℕ). l ++ drop n (drop place disk)) (s.is ∙ ap (λ ls. strung ls ++ s.tail) (sym same))
          ∙ append_assoc (strung (lines bytes)) s.tail (drop n (drop place disk));
    }

module _ (i : ℕ) (disk : List ℕ) where
  -- the fresh box, whatever is lent to it
  fresh-lent : (mask : ℕ) (terms orders : List ℕ) → fresh i mask ≡ state_of (record_of (fresh i mask)) terms orders
  unfolding fresh entries_of
  fresh-lent mask terms orders = refl

  -- A file that begins with a head has its lines behind it,
  module _ (n : ℕ) (h : is_head i (take n disk) ≡ true) where
    headed_whole : All Whole (take n disk ∷ [])
    unfolding All
    headed_whole = (subst Whole (is_head_exactly i (take n disk) h).0 (head-whole i (mask_in (take n disk))), tt)

    headed_parts : drop 0 disk ≡ strung (take n disk ∷ []) ++ drop n disk
    unfolding strung
    headed_parts = sym (take-append-drop n disk) ∙ ap (λ (l : List ℕ). l ++ drop n disk) (sym (append-nil (take n disk)))

    headed_long : 0 + length (strung (take n disk ∷ [])) ≡ length (take n disk)
    unfolding strung
    headed_long = zero-add _ ∙ ap length (append-nil (take n disk))

    headed_lines : lines disk ≡ take n disk ∷ lines (drop (length (take n disk)) disk)
    headed_lines =
        further-lines disk 0 (take n disk ∷ []) (drop n disk) headed_whole headed_parts
        ∙ ap (λ (k : ℕ). take n disk ∷ lines (drop k disk)) headed_long

    headed_left : whole_bytes disk ≡ length (take n disk) + whole_bytes (drop (length (take n disk)) disk)
    headed_left =
        further-left disk 0 (take n disk ∷ []) (drop n disk) headed_whole headed_parts (sym (zero-add (whole_bytes disk)))
        ∙ ap (λ (k : ℕ). k + whole_bytes (drop k disk)) headed_long

    headed_at : (terms orders : List ℕ) → At i disk (record_of (fresh i (mask_in (take n disk)))) terms orders (length (take n disk)) 1
    unfolding opening open_lines
    headed_at terms orders =
        record {
          left = headed_left;
          same =
              ap (open_lines i (whole_bytes disk)) headed_lines
              ∙ rw h (ap (λ (s : State). replay (whole_bytes disk) s 2 (lines (drop (length (take n disk)) disk))) (fresh-lent (mask_in (take n disk)) terms orders));
        }

  -- so there the head is passed.
  at_head : (n : ℕ) (r : ReplayedTold) → r ≡ heading i (take n disk) → r.refusal ≡ 0 → (terms orders : List ℕ)
      → At i disk r.state terms orders (length (take n disk)) 1
  unfolding heading
  at_head n r e z terms orders = go (is_head i (take n disk)) refl r e z
    where
      go : (c : Bool) → is_head i (take n disk) ≡ c → (x : ReplayedTold)
          → x ≡ cond c (record { refusal = 0; state = record_of (fresh i (mask_in (take n disk))) }) (record { refusal = 11; state = record_of (fresh 0 0) })
          → x.refusal ≡ 0 → At i disk x.state terms orders (length (take n disk)) 1
      go true h x p q = rw p (headed_at n h terms orders)
      go false h x p q = absurd (omega (arith, q, ap (λ (y : ReplayedTold). y.refusal) p))

  module _ (b : Record) (terms orders : List ℕ) (place count : ℕ) (at : At i disk b terms orders place count) (n : ℕ) where
    abbrev bytes : List ℕ
    bytes = take n (drop place disk)

    -- A block passes its lines,
    module _ (r : Block) (terms' orders' : List ℕ) (c : ReplaysLines b bytes terms orders r terms' orders') where
      abbrev begun : Blocks
      begun = record { answer = record { refusal = 0; state = b; bytes = 0; lines = 0 }; terms = terms; orders = orders }

      abbrev ended : Blocks
      ended = record { answer = told_block r; terms = terms'; orders = orders' }

      leaves : replay_each begun (lines bytes) ≡ ended
      unfolding replaying_lines
      leaves = sym c.leaves

      cut : Cut disk place n
      cut = cut_at disk place n

      at_block : (told_block r).refusal ≡ 0 → At i disk r.state terms' orders' (place + r.bytes) (count + r.lines)
      at_block z =
          let passed = subst (λ y. AllPassed begun y (lines bytes)) leaves (all_passed begun (lines bytes) (ap (λ (y : Blocks). y.answer.refusal) leaves ∙ z)) in
          let long : length (strung (lines bytes)) ≡ r.bytes = omega (arith, passed.bytes) in
          let many : suc count + length (lines bytes) ≡ suc (count + r.lines) = omega (arith, passed.number) in
          record {
            left = rw long at (further-left disk place (lines bytes) cut.rest cut.whole cut.is at.left);
            same =
                at.same ∙ ap (replay (whole_bytes disk) (state_of b terms orders) (suc count)) (further-lines disk place (lines bytes) cut.rest cut.whole cut.is)
                ∙ passed.on (whole_bytes disk) (suc count) _ ∙ rw (long, many);
          }

      -- none is left behind one that reaches the file's end,
      pub block_ends : (told_block r).refusal ≡ 0 → length (drop place disk) ≤ n → lines (drop (place + r.bytes) disk) ≡ []
      block_ends z l =
          let passed = subst (λ y. AllPassed begun y (lines bytes)) leaves (all_passed begun (lines bytes) (ap (λ (y : Blocks). y.answer.refusal) leaves ∙ z)) in
          let long : length (strung (lines bytes)) ≡ r.bytes = omega (arith, passed.bytes) in
          let all : drop place disk ≡ bytes = sym (take_all n (drop place disk) l) in
          let on = further-lines disk place (lines bytes) cut.rest cut.whole cut.is in
          rw long at
          (none-behind (lines bytes) (lines (drop (place + length (strung (lines bytes))) disk)) (sym (ap lines all) ∙ on))

      -- or stops at the line that breaks a rule, which is the one that opening names.
      pub block_breaks : ((told_block r).refusal ≡ 0 → ⊥) → opening i disk ≡ broken (suc (count + r.lines))
      block_breaks z =
          let stop = subst (λ y. OneBreaks begun y (lines bytes)) leaves (one-breaks begun (lines bytes) refl (λ e. z (sym (ap (λ (y : Blocks). y.answer.refusal) leaves) ∙ e))) in
          at.same ∙ ap (replay (whole_bytes disk) (state_of b terms orders) (suc count)) (further-lines disk place (lines bytes) cut.rest cut.whole cut.is)
          ∙ stop.on (whole_bytes disk) (suc count) _ ∙ ap broken (omega (arith, stop.number))

    -- One line is passed,
    module _ (r : ReplayedTold) (terms' orders' : List ℕ) (c : Tells b bytes terms orders r terms' orders') where
      line_parts : drop place disk ≡ strung (bytes ∷ []) ++ drop n (drop place disk)
      unfolding strung
      line_parts = sym (take-append-drop n (drop place disk)) ∙ ap (λ (l : List ℕ). l ++ drop n (drop place disk)) (sym (append-nil bytes))

      line-long : length (strung (bytes ∷ [])) ≡ length bytes
      unfolding strung
      line-long = ap length (append-nil bytes)

      one-whole : Whole bytes → All Whole (bytes ∷ [])
      unfolding All
      one-whole w = (w, tt)

      line-there : Whole bytes → lines (drop place disk) ≡ bytes ∷ lines (drop (place + length bytes) disk)
      line-there w =
          further-lines disk place (bytes ∷ []) (drop n (drop place disk)) (one-whole w) line_parts
          ∙ ap (λ (k : ℕ). bytes ∷ lines (drop (place + k) disk)) line-long

      at-line : r.refusal ≡ 0 → At i disk r.state terms' orders' (place + length bytes) (count + 1)
      at-line z =
          let goes = line-goes b bytes terms orders c z in
          let spelt = next_exactly (state_of b terms orders) bytes goes.to goes.is in
          let w : Whole bytes = subst Whole (sym spelt.text) (line-whole spelt.line) in
          record {
            left =
                further-left disk place (bytes ∷ []) (drop n (drop place disk)) (one-whole w) line_parts at.left
                ∙ ap (λ (k : ℕ). place + k + whole_bytes (drop (place + k) disk)) line-long;
            same =
                at.same ∙ ap (replay (whole_bytes disk) (state_of b terms orders) (suc count)) (line-there w)
                ∙ goes-line (whole_bytes disk) (suc count) (state_of b terms orders) goes.to bytes (lines (drop (place + length bytes) disk)) goes.is
                ∙ rw (← goes.same) (ap (λ (k : ℕ). replay (whole_bytes disk) (state_of r.state terms' orders') k (lines (drop (place + length bytes) disk)))
                (let e : suc (suc count) ≡ suc (count + 1) = omega arith in e));
          }

      -- or breaks a rule, and is the one that opening names.
      pub breaking_line : Whole bytes → (r.refusal ≡ 0 → ⊥) → opening i disk ≡ broken (suc count)
      breaking_line w z =
          at.same ∙ ap (replay (whole_bytes disk) (state_of b terms orders) (suc count)) (line-there w)
          ∙ breaks-line (whole_bytes disk) (suc count) (state_of b terms orders) bytes _ (line-breaks b bytes terms orders c z)

-- ---- the whole

-- What was passed is what opening has behind it.
pub passed_at : (i : ℕ) (disk : List ℕ) (b : Record) (terms orders : List ℕ) (place count : ℕ) → Passed i disk b terms orders place count
    → At i disk b terms orders place count
passed_at i disk b terms orders place count (the_head n s e t o) = at_head i disk n (told_replay none (Ok s)) e refl t o
passed_at i disk b terms orders place count (a_line c t o p m before n s t' o' e) =
    at-line i disk c t o p m (passed_at i disk c t o p m before) n (told_replay c (Ok s)) t' o' e refl
passed_at i disk b terms orders place count (a_block c t o p m before n r t' o' e z) =
    at_block i disk c t o p m (passed_at i disk c t o p m before) n r t' o' e (ap code z)

-- **Where no whole line is left, the struct and the arrays are the record that opening finds, and the place is its byte count.**
pub pieces_open : (i : ℕ) (disk : List ℕ) (b : Record) (terms orders : List ℕ) (place count : ℕ) → Passed i disk b terms orders place count
    → lines (drop place disk) ≡ [] → opening i disk ≡ opened (state_of b terms orders) place
unfolding replay
pieces_open i disk b terms orders place count p e =
    let at = passed_at i disk b terms orders place count p in
    at.same ∙ ap (replay (whole_bytes disk) (state_of b terms orders) (suc count)) e
    ∙ ap (opened (state_of b terms orders)) (omega (arith, at.left, none-counted (drop place disk) e))

-- **A first line that is no head is answered 11 by both.**
pub head-refused : (i : ℕ) (disk : List ℕ) (n : ℕ) → Whole (take n disk) → (r : ReplayedTold) → r ≡ heading i (take n disk) → (r.refusal ≡ 0 → ⊥)
    → opening i disk ≡ headless
unfolding opening open_lines heading
head-refused i disk n w r e z =
    ap (open_lines i (whole_bytes disk)) (ap lines (sym (take-append-drop n disk)) ∙ lines-first (take n disk) (drop n disk) w)
    ∙ go (is_head i (take n disk)) (rw e at z)
  where
    go : (c : Bool)
        → ((cond {A = ReplayedTold} c (record { refusal = 0; state = record_of (fresh i (mask_in (take n disk))) })
        (record { refusal = 11; state = record_of (fresh 0 0) })).refusal ≡ 0 → ⊥)
        → cond c (replay (whole_bytes disk) (fresh i (mask_in (take n disk))) 2 (lines (drop n disk))) headless ≡ headless
    go true f = absurd (f refl)
    go false f = refl
