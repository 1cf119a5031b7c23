-- What the code's proofs use: whole lines, their form and fields, and their rules on the structs. Assumes nothing.
use Rattle.std.specs.Prelude.{ℕ, suc, ◌+◌, ◌*◌, ◌≤◌, ◌<◌, ◌≡◌, refl, Bool, true, false, cond, ◌&&◌, ◌||◌, List, [], ◌∷◌, eqb, ltb, leb, length, take, Ok, Err}
use Rattle.std.proofs.Common.{arith, sym, ap, ◌∙◌, eqb-true, leb-true, eq-eqb, ne_eqb}
use Rattle.std.proofs.Math.Bool.{and-true, and-false}
use Rattle.std.proofs.lemmas.Bool.{eqb-false}
use Rattle.digits.specs.Digits.{field, run}
use Rattle.digits.specs.Tests.{and_left, and_right}
use Rattle.frames.specs.declared.Entry.{Entry}
use Rattle.frames.specs.Limits.{log_limit, entry_limit}
use Rattle.frames.specs.declared.refusal.Refusal.{Refusal}
use Rattle.frames.specs.Message.{line_feed}
use Rattle.frames.specs.Rules.{in_order}
use Rattle.frames.specs.Reading.{text_size, is_line, version, kind, entries_at}
use Rattle.frames.specs.Fields.{listed, places}
use Rattle.frames.specs.Clauses.{four}
use Rattle.frames.specs.Laws.{length-listed}
use Rattle.frames.proofs.ReadingLaws.{line-run, listed-places, length-entries}
use Rattle.raft.proofs.SendLaws.{All}
use Rattle.raft.specs.Record.{fresh, term_at, is_membership, is_vote}
use Rattle.raft.specs.LentLaws.{length-entries_of}
use Rattle.record.specs.declared.Record.{Record}
use Rattle.record.specs.Calls.{entries_of, state_of, record_of}
use Rattle.opening.specs.declared.LineFields.{LineFields}
use Rattle.journal.specs.Lines.{box_in, mask_in, count_in, line_shaped, line_in, head_shaped}
use Rattle.journal.specs.Opening.{is_head, allows}
use Rattle.journal.proofs.LinesLaws.{Feedless, Whole}
use Rattle.text.specs.Lines.{first_line}
use Rattle.opening.specs.Calls.{ReplayedTold, heading, Heads, line_of, allows_numbers}
use Rattle.frames.specs.RefusalLaws.{not_0}

-- ---- where a line ends

-- no line feed, no line
pub first-none : (bytes : List ℕ) → first_line bytes ≡ 0 → Feedless bytes
unfolding first_line All
first-none [] h = tt
first-none (b ∷ bytes) h = go (first-none bytes) (eqb b line_feed) refl (eqb (first_line bytes) 0) refl h
  where
    go : (first_line bytes ≡ 0 → Feedless bytes) → (x : Bool) → eqb b line_feed ≡ x → (y : Bool) → eqb (first_line bytes) 0 ≡ y
        → cond x 1 (cond y 0 (suc (first_line bytes))) ≡ 0
        → (eqb b line_feed ≡ false) × All (λ c. eqb c line_feed ≡ false) bytes
    go f true p y q e = absurd (omega arith)
    go f false p true q e = (p, f (eqb-true (first_line bytes) 0 q))
    go f false p false q e = absurd (omega arith)

-- otherwise the bytes up to there are one whole line
pub first-whole : (bytes : List ℕ) → (first_line bytes ≡ 0 → ⊥) → Whole (take (first_line bytes) bytes)
unfolding first_line All
first-whole [] h = absurd (h refl)
first-whole (b ∷ bytes) h = go (first-whole bytes) (eqb b line_feed) refl (eqb (first_line bytes) 0) refl h
  where
    go : ((first_line bytes ≡ 0 → ⊥) → Whole (take (first_line bytes) bytes)) → (x : Bool) → eqb b line_feed ≡ x → (y : Bool)
        → eqb (first_line bytes) 0 ≡ y → (cond x 1 (cond y 0 (suc (first_line bytes))) ≡ 0 → ⊥)
        → Whole (take (cond x 1 (cond y 0 (suc (first_line bytes)))) (b ∷ bytes))
    go f true p y q n = record { front = []; free = tt; ended = rw (eqb-true b line_feed p) }
    go f false p true q n = absurd (n refl)
    go f false p false q n =
        let rest = f (eqb-false (first_line bytes) 0 q) in
        record { front = b ∷ rest.front; free = (p, rest.free); ended = ap (λ (l : List ℕ). b ∷ l) rest.ended }

-- ---- the form of a head

pub head-long : (s : List ℕ) → (length s ≡ 9 → ⊥) → head_shaped s ≡ false
unfolding head_shaped
head-long s h = rw (ne_eqb (length s) 9 h, and-false (is_line s && eqb (version s) 1 && eqb (kind s) 17))

pub head-no_line : (s : List ℕ) → is_line s ≡ false → head_shaped s ≡ false
unfolding head_shaped
head-no_line s h = rw h

pub head-by : (s : List ℕ) (v k : ℕ) → is_line s ≡ true → length s ≡ 9 → v ≡ version s → k ≡ kind s → (eqb v 1 && eqb k 17) ≡ head_shaped s
unfolding head_shaped
head-by s v k h l e f = rw (h, e, f, eq-eqb (length s) 9 l, and-true (eqb (version s) 1 && eqb (kind s) 17))

-- a head has eight digits
pub head-run : (s : List ℕ) → head_shaped s ≡ true → run s ≡ 8
unfolding head_shaped
head-run s h =
    let t = four (is_line s) (eqb (version s) 1) (eqb (kind s) 17) (eqb (length s) (text_size 4)) h in
    omega (arith, line-run s t.0, eqb-true (length s) 9 t.3)

pub head_nine_long : (s : List ℕ) → head_shaped s ≡ true → length s ≡ 9
unfolding head_shaped
head_nine_long s h =
    eqb-true (length s) 9 (four (is_line s) (eqb (version s) 1) (eqb (kind s) 17) (eqb (length s) (text_size 4)) h).3

-- the mask of a head for the box asked for, told by a number: 0 where the line is no such head
pub head-not : (me : ℕ) (s : List ℕ) → head_shaped s ≡ false → 0 ≡ cond (is_head me s) (mask_in s) 0
unfolding is_head
head-not me s h = rw h

pub head-is : (me : ℕ) (s : List ℕ) (b m : ℕ) (g : Bool) → head_shaped s ≡ true → b ≡ field s 4 1 → m ≡ field s 6 1 → g ≡ is_membership me m
    → (eqb b me && g) ≡ true → m ≡ cond (is_head me s) (mask_in s) 0
unfolding is_head box_in mask_in
head-is me s b m g h e f k a = rw (h, ← e, ← f, ← k, a)

pub head_another : (me : ℕ) (s : List ℕ) (b m : ℕ) (g : Bool) → head_shaped s ≡ true → b ≡ field s 4 1 → m ≡ field s 6 1 → g ≡ is_membership me m
    → (eqb b me && g) ≡ false → 0 ≡ cond (is_head me s) (mask_in s) 0
unfolding is_head box_in mask_in
head_another me s b m g h e f k a = rw (h, ← e, ← f, ← k, a)

-- what is known where one was read, and where none was
module _ (me : ℕ) (line : List ℕ) where
  pub headed : (n : Record) → Heads me line (Ok n) → (is_head me line ≡ true) × (n ≡ record_of (fresh me (mask_in line)))
  unfolding heading
  headed n e = go (is_head me line) refl
    where
      go : (b : Bool) → is_head me line ≡ b → (is_head me line ≡ true) × (n ≡ record_of (fresh me (mask_in line)))
      go true q = let told = rw q at e in (q, ap (λ (x : ReplayedTold). x.state) told)
      go false q = let told = rw q at e in absurd (omega (arith, ap (λ (x : ReplayedTold). x.refusal) told))

  pub unheaded : (why : Refusal) → Heads me line (Err why) → is_head me line ≡ false
  unfolding heading
  unheaded why e = go (is_head me line) refl
    where
      go : (b : Bool) → is_head me line ≡ b → is_head me line ≡ false
      go true q = let told = rw q at e in absurd (not_0 why (ap (λ (x : ReplayedTold). x.refusal) told))
      go false q = q

-- ---- the form of a line

-- too short for one
pub shaped-short : (s : List ℕ) → length s < 23 → line_shaped s ≡ false
unfolding line_shaped
shaped-short s h =
    rw (ne_eqb (length s) (text_size (11 + 12 * count_in s)) (λ e. omega arith), and-false (is_line s && eqb (version s) 1 && eqb (kind s) 16))

pub shaped-no_line : (s : List ℕ) → is_line s ≡ false → line_shaped s ≡ false
unfolding line_shaped
shaped-no_line s h = rw h

pub shaped-by : (s : List ℕ) (v k c : ℕ) → is_line s ≡ true → v ≡ version s → k ≡ kind s → c ≡ count_in s
    → (eqb v 1 && eqb k 16 && eqb (length s) (23 + 24 * c)) ≡ line_shaped s
unfolding line_shaped
shaped-by s v k c h e f g = rw (h, e, f, g) (ap (λ (n : ℕ). eqb (version s) 1 && eqb (kind s) 16 && eqb (length s) n) long)
  where
    long : 23 + 24 * count_in s ≡ text_size (11 + 12 * count_in s)
    long = omega arith

-- a line has all the digits that its count tells
pub shaped-run : (s : List ℕ) → line_shaped s ≡ true → run s ≡ 22 + 24 * count_in s
unfolding line_shaped
shaped-run s h =
    let t = four (is_line s) (eqb (version s) 1) (eqb (kind s) 16) (eqb (length s) (text_size (11 + 12 * count_in s))) h in
    omega (arith, line-run s t.0, eqb-true (length s) (text_size (11 + 12 * count_in s)) t.3)

-- and its fields, at their places, are the line
pub fields-line : (s : List ℕ) (who term vote kept count : ℕ) (es : List Entry) → who ≡ field s 4 1 → term ≡ field s 6 4 → vote ≡ field s 14 1
    → kept ≡ field s 16 2 → count ≡ field s 20 1 → es ≡ places (entries_at s 22 count) → count_in s ≤ entry_limit
    → record { box = who; term = term; vote = vote; kept = kept; entries = listed es 0 count } ≡ line_in s
unfolding line_in box_in count_in
fields-line s who term vote kept count es a b c d e f h =
    rw (a, b, c, d, f, e)
    (ap (λ (n : List Entry). record { box = field s 4 1; term = field s 6 4; vote = field s 14 1; kept = field s 16 2; entries = n }) all)
  where
    long : length (entries_at s 22 (field s 20 1)) ≡ field s 20 1
    long = length-entries s 22 (field s 20 1)

    all : listed (places (entries_at s 22 (field s 20 1))) 0 (field s 20 1) ≡ entries_at s 22 (field s 20 1)
    all = ap (listed (places (entries_at s 22 (field s 20 1))) 0) (sym long) ∙ listed-places (entries_at s 22 (field s 20 1)) (omega (arith, long))

-- ---- its rules

-- on the structs
pub allows-by : (b : Record) (l : LineFields) (terms orders : List ℕ)
    → allows (state_of b terms orders) (line_of l)
    ≡ (allows_numbers b l && in_order (term_at (entries_of terms orders 0 b.last) l.kept) l.term (listed l.entries 0 l.count))
unfolding allows
allows-by b l terms orders = rw (length-listed l.entries 0 l.count, length-entries_of terms orders 0 b.last)

-- what they say of the numbers
pub record Numbers (b : Record) (l : LineFields) : Type 0 where
  pub inside : l.kept ≤ b.last
  pub room : l.kept + l.count ≤ log_limit
  pub few : l.count ≤ entry_limit

pub numbers : (b : Record) (l : LineFields) → allows_numbers b l ≡ true → Numbers b l
numbers b l h =
    let front = eqb l.who b.me && (leb 1 l.term && leb b.term l.term) && is_vote b.members l.vote in
    let t = four front (ltb b.term l.term || eqb b.vote 0 || eqb l.vote b.vote) (leb l.kept b.last) (leb (l.kept + l.count) log_limit && leb l.count entry_limit) h in
    record {
      inside = leb-true _ _ t.2;
      room = leb-true _ _ (and_left (leb (l.kept + l.count) log_limit) _ t.3);
      few = leb-true _ _ (and_right (leb (l.kept + l.count) log_limit) _ t.3);
    }

pub allowed-numbers : (b : Record) (l : LineFields) (terms orders : List ℕ) → allows (state_of b terms orders) (line_of l) ≡ true → Numbers b l
allowed-numbers b l terms orders a = numbers b l (and_left (allows_numbers b l) _ (sym (allows-by b l terms orders) ∙ a))
