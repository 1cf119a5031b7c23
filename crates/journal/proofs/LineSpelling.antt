-- A journal's line, and its head, has one spelling: the reader takes exactly the bytes that are written, and each undoes the other.
-- (`IsSized`: each number fits the bytes of its field.) Assumes nothing.
use Prim.Native.Nat.{ℕ, suc, ◌+◌, ◌*◌, ◌<◌}
use Rattle.std.proofs.Common.{arith, sym, ap, ◌∙◌, length-append}
use Rattle.std.specs.Prelude.{◌≡◌, refl, true, eqb, length}
use mathlib.Core.List.{List, [], ◌∷◌, ◌++◌}
use Rattle.std.proofs.Math.ListN.{get_or, take, drop_of_length-le}
use Rattle.std.proofs.Math.Seq.{split_at, get_or-append_seam}
use borrow.Author.Tests.{eqb-true, eq-eqb}
use Rattle.digits.specs.Digits.{field, run}
use Rattle.digits.specs.Laws.{run-line}
use Rattle.digits.specs.Tests.{and_left, and_right}
use Rattle.frames.specs.Clauses.{four}
use Rattle.frames.specs.Message.{Field, number, entry_fields, spell, IsSized, line_feed}
use Rattle.frames.specs.Reading.{text_size, is_line, version, kind, entries_at}
use Rattle.frames.proofs.ReadingLaws.{length-entries}
use Rattle.frames.specs.WritingLaws.{chars, length-spell, chars-entries}
use Rattle.frames.proofs.Spelling.{StandsAt, spell-digits, spelt-stands, stands-spelt, stands-sized, read-entries, entries-read}
use Rattle.raft.specs.Journal.{head, Line, line_text}
use Rattle.journal.specs.Lines.{box_in, mask_in, head_shaped, count_in, line_shaped, line_in}
use Rattle.journal.proofs.LinesLaws.{Whole, digits_feedless}

-- ---- over any fields

-- Fields and the line feed behind them.
abbrev pub lined : List Field → List ℕ
lined fs = spell fs ++ (line_feed ∷ [])

module _ (fs : List Field) where
  -- all but the line feed are digits
  run-lined : run (lined fs) ≡ chars fs
  run-lined = run-line (spell fs) (spell-digits fs) [] ∙ length-spell fs

  -- they are as long as the fields, and the line feed,
  pub length-lined : length (lined fs) ≡ chars fs + 1
  length-lined = rw (length-append, length-spell)

  -- they are one line,
  pub is_line-lined : is_line (lined fs) ≡ true
  unfolding is_line
  is_line-lined =
      rw (eq-eqb (run (lined fs) + 1) (length (lined fs)) (omega (arith, run-lined, length-lined)), run-lined, ← length-spell fs)
      (eq-eqb _ _ (get_or-append_seam (spell fs) line_feed [] 0))

  -- a whole one,
  pub whole-lined : Whole (lined fs)
  whole-lined = record { front = spell fs; free = digits_feedless (spell fs) (spell-digits fs); ended = refl }

  -- and the fields are read from it where they fit.
  pub lined-stands : IsSized fs → StandsAt fs 0 (lined fs)
  lined-stands z = spelt-stands fs 0 (lined fs) (line_feed ∷ []) refl z

  module _ (s : List ℕ) (h : is_line s ≡ true) (l : length s ≡ chars fs + 1) (t : StandsAt fs 0 s) where
    -- a line's digits
    run-there : run s ≡ chars fs
    unfolding is_line
    run-there = omega (arith, eqb-true (run s + 1) (length s) (and_left (eqb (run s + 1) (length s)) _ h))

    -- Back: the fields that are read from all of a line are written as that line,
    pub stands-lined : lined fs ≡ s
    unfolding is_line
    stands-lined =
        let ended : get_or s (run s) 0 ≡ line_feed = eqb-true _ _ (and_right (eqb (run s + 1) (length s)) _ h) in
        let digits : spell fs ≡ take (run s) s = rw run-there (stands-spelt fs 0 s (omega (arith, run-there)) t) in
        rw (digits) (sym (split_at s (run s) 0 (omega (arith, run-there))
        ∙ rw (ended, drop_of_length-le s {i = suc (run s)} (omega (arith, run-there)))))

    -- and they fit.
    pub lined-sized : IsSized fs
    lined-sized = stands-sized fs 0 s (omega (arith, run-there)) t

-- ---- a line

-- "01, 10, box, term 4, vote 1, kept 2, count 1, entries"
abbrev pub line_fields : Line → List Field
line_fields l =
    number 1 1 ∷ number 1 16 ∷ number 1 l.box ∷ number 4 l.term ∷ number 1 l.vote ∷ number 2 l.kept
    ∷ number 1 (length l.entries) ∷ entry_fields l.entries

-- They are its text,
pub line-lined : (l : Line) → line_text l ≡ lined (line_fields l)
unfolding line_text
line-lined l = refl

-- 11 bytes, and 12 for each entry.
pub line-chars : (l : Line) → chars (line_fields l) ≡ 22 + 24 * length l.entries
line-chars l = omega (arith, chars-entries l.entries)

-- What is read where a line's fields stand.
told : (l : Line) (s : List ℕ) → StandsAt (line_fields l) 0 s
    → (version s ≡ 1) × (kind s ≡ 16) × (count_in s ≡ length l.entries) × (line_in s ≡ l)
unfolding StandsAt version kind count_in line_in box_in
told l s t =
    let (first, (second, (box, (term, (vote, (kept, (counted, entries))))))) = t in
    let read : entries_at s 22 (field s 20 1) ≡ l.entries =
    ap (entries_at s 22) counted ∙ entries-read l.entries 22 s entries in
    (first, second, counted, λ d. record { box = box d; term = term d; vote = vote d; kept = kept d; entries = read d })

-- What was written of a line is read as the same line.
pub line_reads : (l : Line) → IsSized (line_fields l) → (line_shaped (line_text l) ≡ true) × (line_in (line_text l) ≡ l)
unfolding line_shaped
line_reads l z =
    let t = told l (lined (line_fields l)) (lined-stands (line_fields l) z) in
    let long : length (lined (line_fields l)) ≡ text_size (11 + 12 * length l.entries) =
    omega (arith, length-lined (line_fields l), line-chars l) in
    rw (line-lined l)
    (rw (is_line-lined (line_fields l), t.0, t.1, t.2, eq-eqb _ _ long), t.3)

-- The form says this, test by test.
shaped-facts : (s : List ℕ) → line_shaped s ≡ true
    → (is_line s ≡ true) × (version s ≡ 1) × (kind s ≡ 16) × (length s ≡ text_size (11 + 12 * count_in s))
unfolding line_shaped
shaped-facts s h =
    let t = four (is_line s) (eqb (version s) 1) (eqb (kind s) 16) _ h in
    (t.0, eqb-true _ _ t.1, eqb-true _ _ t.2, eqb-true _ _ t.3)

module _ (s : List ℕ) (h : line_shaped s ≡ true) where
  -- the fields of the line that is read stand where they are read
  read-stands : StandsAt (line_fields (line_in s)) 0 s
  unfolding StandsAt version kind count_in line_in box_in
  read-stands =
      let f = shaped-facts s h in
      (f.1, (f.2, (refl, (refl, (refl, (refl, (sym (length-entries s 22 (field s 20 1)), read-entries s 22 (field s 20 1))))))))

  -- and are all of it
  read-long : length s ≡ chars (line_fields (line_in s)) + 1
  unfolding line_in
  read-long = omega (arith, (shaped-facts s h).3, line-chars (line_in s), length-entries s 22 (count_in s))

  -- What has the form of a line is the text of the line that is read,
  pub line_exactly : line_text (line_in s) ≡ s
  line_exactly = line-lined (line_in s) ∙ stands-lined (line_fields (line_in s)) s (shaped-facts s h).0 read-long read-stands

  -- and its numbers fit their fields.
  pub line-sized : IsSized (line_fields (line_in s))
  line-sized = lined-sized (line_fields (line_in s)) s (shaped-facts s h).0 read-long read-stands

-- Two lines that fit and have the same bytes are the same line.
pub one-line_spelling : (a b : Line) → IsSized (line_fields a) → IsSized (line_fields b) → line_text a ≡ line_text b → a ≡ b
one-line_spelling a b y z e = sym (line_reads a y).1 ∙ ap line_in e ∙ (line_reads b z).1

-- A line's text is a whole line.
pub line-whole : (l : Line) → Whole (line_text l)
line-whole l = rw (line-lined l) (whole-lined (line_fields l))

-- ---- the head

-- "head 01, 11, box, mask"
abbrev pub head_fields : ℕ → ℕ → List Field
head_fields box mask = number 1 1 ∷ number 1 17 ∷ number 1 box ∷ number 1 mask ∷ []

-- They are its text,
pub head-lined : (box mask : ℕ) → head box mask ≡ lined (head_fields box mask)
unfolding head
head-lined box mask = refl

-- nine bytes with the line feed,
pub head_nine : (box mask : ℕ) → length (head box mask) ≡ 9
head_nine box mask = ap length (head-lined box mask) ∙ length-lined (head_fields box mask)

-- a whole line.
pub head-whole : (box mask : ℕ) → Whole (head box mask)
head-whole box mask = rw (head-lined box mask) (whole-lined (head_fields box mask))

-- What was written of a head is read as the same head,
pub head-reads : (box mask : ℕ) → box < 256 → mask < 256
    → (head_shaped (head box mask) ≡ true) × (box_in (head box mask) ≡ box) × (mask_in (head box mask) ≡ mask)
unfolding head_shaped StandsAt IsSized version kind box_in mask_in
head-reads box mask b m =
    let fs = head_fields box mask in
    let (first, (second, (its_box, (its-mask, rest)))) = lined-stands fs (omega arith, (omega arith, (b, (m, tt)))) in
    rw (head-lined box mask)
    (rw (is_line-lined fs, first, second, eq-eqb (length (lined fs)) 9 (length-lined fs)), its_box, its-mask)

-- and what has the form of a head is the text of the box and mask that are read.
pub head_exactly : (s : List ℕ) → head_shaped s ≡ true → head (box_in s) (mask_in s) ≡ s
unfolding head_shaped StandsAt version kind box_in mask_in
head_exactly s h =
    let t = four (is_line s) (eqb (version s) 1) (eqb (kind s) 17) _ h in
    head-lined (box_in s) (mask_in s)
    ∙ stands-lined (head_fields (box_in s) (mask_in s)) s t.0 (eqb-true (length s) 9 t.3)
    (eqb-true _ _ t.1, (eqb-true _ _ t.2, (refl, (refl, tt))))
