-- What the block function prints, block by block and however the input is cut, is the session of the whole input. Assumes nothing.
use Rattle.std.specs.Prelude.{ℕ, ◌+◌, ◌-◌, ◌≤◌, ◌<◌, Bool, ◌&&◌, eqb, leb, length, drop}
use Rattle.std.proofs.Common.{arith, ◌∙◌, true≢false, length-append, length-drop, take-append-drop, drop_at}
use Rattle.std.proofs.Math.Path.{◌≡◌, refl, sym, ap}
use Rattle.std.proofs.Math.Bool.{true, false, cond}
use mathlib.Core.List.{List, [], ◌∷◌, ◌++◌, append_assoc, append-nil}
use Rattle.std.proofs.Math.ListN.{take}
use Rattle.std.proofs.Math.Seq.{length-take-le, take-append-add}
use borrow.Author.Tests.{eqb-true, leb-true, le-leb}
use Rattle.digits.specs.Room.{over}
use Rattle.digits.specs.Tests.{and_right}
use Rattle.frames.specs.Limits.{log_limit, longest_message}
use Rattle.frames.specs.Message.{text}
use Rattle.frames.specs.Reading.{is_line, version, kind}
use Rattle.frames.proofs.OneSpelling.{refused-when}
use Rattle.raft.specs.Record.{State, fresh, is_membership, good}
use Rattle.raft.proofs.RecordLaws.{fresh-good}
use Rattle.raft.specs.Journal.{head}
use Rattle.raft.specs.Lent.{entries_of}
use Rattle.raft.specs.Outcome.{Outcome, done, refuse}
use Rattle.raft.specs.Receive.{arrive_read, receive}
use Rattle.raft.specs.Event.{step}
use Rattle.raft.proofs.SendLaws.{All}
use Rattle.journal.specs.Lines.{lines, whole_bytes, box_in, mask_in, head_shaped}
use Rattle.journal.proofs.LinesLaws.{Whole, strung, strung-append, lines-first, lines-whole, whole-lines}
use Rattle.journal.proofs.LongestLaws.{text-most}
use Rattle.record.specs.declared.Record.{Record}
use Rattle.record.specs.Calls.{state_of}
use Rattle.console.specs.Session.{letter_t, letter_p, outcome_of, printed, next_of, answers, is_start, talk, session}
use Rattle.printing.specs.Text.{refusal_line}
use Rattle.console.specs.Calls.{longest, Beginning, beginning, AfterLine, outcome_answer, line_answer, AfterLines, answer_next, answer_rest, reached, lines_answer, Known}
use Rattle.console.specs.LineLaws.{letter_long, order-long, asks-receive, outcome-step, not_good}
use Rattle.printing.specs.TextLaws.{taken_back}
use Rattle.console.specs.BeginLaws.{unshaped, shaped}
use Rattle.record.specs.SameLaws.{next-lent}
use Rattle.console.specs.GoodLaws.{known-stays}

-- ---- one line

-- A text at a room's start is within the room as it is then.
over-within : (room text : List ℕ) → length text ≤ length (over room 0 text)
unfolding over
over-within room text = simp length-append (omega arith)

module _ (line : List ℕ) (b : Record) (terms orders room : List ℕ) where
  abbrev s : State
  s = state_of b terms orders

  -- What the answer to a line leaves: its text at the room's start, and in the struct and the lent log the next record.
  record Leaves (known : Bool) (y : AfterLine) : Type 0 where
    text : take y.answer.bytes y.room ≡ printed s (outcome_of line s)
    next : state_of y.answer.state y.terms y.orders ≡ next_of s (outcome_of line s)
    knows : Known known y.answer.state y.terms y.orders
    within : y.answer.bytes ≤ length y.room

  -- So it is, whatever the line comes to, since a log fits.
  leaves : {known : Bool} → Known known b terms orders → longest ≤ length room → Leaves known (line_answer b line terms orders room)
  unfolding line_answer outcome_answer printed next_of
  leaves {known} k wide = go (outcome_of line s) refl
    where
      knows : Known known (line_answer b line terms orders room).answer.state (line_answer b line terms orders room).terms (line_answer b line terms orders room).orders
      knows = known-stays line room k wide refl

      go : (o : Outcome) → outcome_of line s ≡ o → Leaves known (line_answer b line terms orders room)
      go (done t ms) e =
          let wide' = le-leb longest (length room) wide in
          record {
            text = rw (wide', e) (taken_back room (printed s (done t ms)));
            next = rw (wide', e) (next-lent t terms orders);
            knows = knows;
            within = rw (wide', e) (over-within room (printed s (done t ms)));
          }
      go (refuse n) e =
          let wide' = le-leb longest (length room) wide in
          record {
            text = rw (wide', e) (taken_back room (refusal_line n));
            next = rw (wide', e);
            knows = knows;
            within = rw (wide', e) (over-within room (refusal_line n));
          }

-- ---- a block of lines

-- The record of a box that has answered some lines.
abbrev pub box_of : AfterLines → State
box_of x = state_of x.answer.state x.terms x.orders

-- The text that is printed of it.
abbrev pub text_of : AfterLines → List ℕ
text_of x = take x.answer.bytes x.room

-- One text behind another, in what was lent: both are read back.
text-behind : (n m : ℕ) (a d : List ℕ) → n ≤ length a → take (n + m) (take n a ++ d) ≡ take n a ++ take m d
text-behind n m a d h =
    ap (λ (k : ℕ). take (k + m) (take n a ++ d)) (sym (length-take-le n a h)) ∙ take-append-add (take n a) d m

-- A place is sound where the lent log is whole, and what is printed lies in the room.
record Sound (known : Bool) (x : AfterLines) : Type 0 where
  knows : Known known x.answer.state x.terms x.orders
  within : x.answer.bytes ≤ length x.room

-- From one place of a block to a later one: some lines were answered, and what is printed and what is left to print make the same whole.
record Goes (known : Bool) (x : AfterLines) (ls : List (List ℕ)) (y : AfterLines) : Type 0 where
  took : List (List ℕ)
  left : List (List ℕ)
  both : ls ≡ took ++ left
  consumed : y.answer.consumed ≡ x.answer.consumed + length (strung took)
  prints : (more : List (List ℕ)) → text_of x ++ answers (box_of x) (ls ++ more) ≡ text_of y ++ answers (box_of y) (left ++ more)
  sound : Sound known y

-- Nothing answered: all is as it was.
goes-nowhere : {known : Bool} (x : AfterLines) (ls : List (List ℕ)) → Sound known x → Goes known x ls x
unfolding strung
goes-nowhere x ls k =
    record { took = []; left = ls; both = refl; consumed = omega arith; prints = λ more. refl; sound = k }

module _ {known : Bool} (x : AfterLines) (line : List ℕ) (k : Sound known x) (wide : longest ≤ length x.room - x.answer.bytes) where
  -- The answer to one line more, in the room that is left.
  abbrev rest : List ℕ
  rest = drop x.answer.bytes x.room

  abbrev one : AfterLine
  one = line_answer x.answer.state line x.terms x.orders rest

  one-leaves : Leaves line x.answer.state x.terms x.orders rest known one
  one-leaves =
      leaves line x.answer.state x.terms x.orders rest k.knows (rw (length-drop x.answer.bytes x.room) wide)

  -- It leaves a place that is sound.
  next-sound : Sound known (answer_next x line)
  unfolding answer_next
  next-sound =
      record {
        knows = one-leaves.knows;
        within = rw (length-append, length-take-le x.answer.bytes x.room k.within) (omega (arith, one-leaves.within));
      }

  -- Its text stands behind what was printed, and the box that it leaves is the next: so what is printed and what is left to print stay the same whole.
  next-prints : (ls : List (List ℕ))
      → text_of x ++ answers (box_of x) (line ∷ ls) ≡ text_of (answer_next x line) ++ answers (box_of (answer_next x line)) ls
  unfolding answer_next answers
  next-prints ls =
      let outcome = outcome_of line (box_of x) in
      rw (
        text-behind x.answer.bytes one.answer.bytes x.room one.room k.within,
        one-leaves.text,
        one-leaves.next,
        append_assoc (text_of x) (printed (box_of x) outcome) (answers (next_of (box_of x) outcome) ls),
      )

  -- Then the lines behind it.
  goes_on : (ls : List (List ℕ)) (y : AfterLines) → Goes known (answer_next x line) ls y → Goes known x (line ∷ ls) y
  unfolding answer_next strung
  goes_on ls y g =
      record {
        took = line ∷ g.took;
        left = g.left;
        both = ap (λ (l : List (List ℕ)). line ∷ l) g.both;
        consumed = g.consumed ∙ rw (length-append line (strung g.took)) (omega arith);
        prints = λ more. next-prints (ls ++ more) ∙ g.prints more;
        sound = g.sound;
      }

-- Line by line, up to where no line or no room is left.
goes : {known : Bool} (x : AfterLines) (ls : List (List ℕ)) → Sound known x → Goes known x ls (answer_rest x ls)
unfolding answer_rest
goes x [] k = goes-nowhere x [] k
goes {known} x (line ∷ ls) k = go (leb longest (length x.room - x.answer.bytes)) refl (goes (answer_next x line) ls)
  where
    go : (b : Bool) → leb longest (length x.room - x.answer.bytes) ≡ b
        → (Sound known (answer_next x line) → Goes known (answer_next x line) ls (answer_rest (answer_next x line) ls))
        → Goes known x (line ∷ ls) (cond b (answer_rest (answer_next x line) ls) x)
    go true e more =
        let wide = leb-true longest (length x.room - x.answer.bytes) e in
        goes_on x line k wide ls (answer_rest (answer_next x line) ls) (more (next-sound x line k wide))
    go false e more = goes-nowhere x (line ∷ ls) k

-- ---- the bytes of a block

-- What holds of each part of a list holds of each behind the first ones.
all-behind : {A : Type 0} (P : A → Type 0) (a b : List A) → All P (a ++ b) → All P b
unfolding All
all-behind P [] b h = h
all-behind P (x ∷ a) b h = all-behind P a b h.1

-- Whole lines one behind another are the first lines of the bytes that they begin.
lines-on : (ls : List (List ℕ)) (rest : List ℕ) → All Whole ls → lines (strung ls ++ rest) ≡ ls ++ lines rest
unfolding All strung
lines-on [] rest a = refl
lines-on (l ∷ ls) rest a =
    rw (append_assoc l (strung ls) rest, lines-first l (strung ls ++ rest) a.0, lines-on ls rest a.1)

-- What is kept of some bytes when their lines are answered: those behind the last line feed.
abbrev pub kept : List ℕ → List ℕ
kept bytes = drop (whole_bytes bytes) bytes

-- Bytes are their lines and what is kept.
lines-kept : (bytes : List ℕ) → bytes ≡ strung (lines bytes) ++ kept bytes
lines-kept bytes = sym (take-append-drop (whole_bytes bytes) bytes) ∙ rw (whole-lines bytes)

-- More input behind some bytes: their own lines stay, and behind them come the lines of what is kept and what is read. So nothing is seen of where the
-- input was cut.
pub more_lines : (bytes more : List ℕ) → lines (bytes ++ more) ≡ lines bytes ++ lines (kept bytes ++ more)
more_lines bytes more =
    ap (λ (l : List ℕ). lines (l ++ more)) (lines-kept bytes)
    ∙ rw (append_assoc (strung (lines bytes)) (kept bytes) more) (lines-on (lines bytes) (kept bytes ++ more) (lines-whole bytes))

-- Where some of the lines are consumed,
module _ (bytes : List ℕ) (took left : List (List ℕ)) (both : lines bytes ≡ took ++ left) where
  -- the bytes are those lines, the other lines and what is kept:
  consumed_parts : bytes ≡ strung took ++ (strung left ++ kept bytes)
  consumed_parts =
      lines-kept bytes ∙ rw (both, strung-append took left, append_assoc (strung took) (strung left) (kept bytes))

  -- no more bytes are consumed than there are,
  consumed-most : length (strung took) ≤ length bytes
  consumed-most = omega (arith, simp length-append at (ap length consumed_parts))

  -- and the bytes behind them begin with the other lines, whatever comes behind.
  lines_left : (more : List ℕ) → lines (drop (length (strung took)) bytes ++ more) ≡ left ++ lines (kept bytes ++ more)
  lines_left more =
      let behind : drop (length (strung took)) bytes ≡ strung left ++ kept bytes =
      ap (drop (length (strung took))) consumed_parts ∙ drop_at (strung took) (strung left ++ kept bytes) (length (strung took)) refl in
      let whole : All Whole left = all-behind Whole took left (rw both at (lines-whole bytes)) in
      rw (behind, append_assoc (strung left) (kept bytes) more) (lines-on left (kept bytes ++ more) whole)

-- ---- each call prints a beginning of what is to be printed

-- What a call leaves, of a box and some bytes: the text that it prints, and what the box then has to print of the bytes that are left, make all that the
-- box had to print; and so they do whatever more is read. A good record stays good, the lent log stays whole.
pub record LinesAnswered (b : Record) (bytes terms orders : List ℕ) (y : AfterLines) : Type 0 where
  pub prints : answers (state_of b terms orders) (lines bytes) ≡ text_of y ++ answers (box_of y) (lines (drop y.answer.consumed bytes))
  pub prints_on : (more : List ℕ)
      → answers (state_of b terms orders) (lines (bytes ++ more)) ≡ text_of y ++ answers (box_of y) (lines (drop y.answer.consumed bytes ++ more))
  pub stays : good (state_of b terms orders) ≡ good (box_of y)
  pub terms_stay : length y.terms ≡ log_limit
  pub orders_stay : length y.orders ≡ log_limit
  pub consumed : y.answer.consumed ≤ length bytes
  pub within : y.answer.bytes ≤ length y.room

-- So it is for every record, good or not, any bytes and any room: line by line, by what one line prints and leaves.
pub lines_print : (b : Record) (bytes terms orders room : List ℕ) → length terms ≡ log_limit → length orders ≡ log_limit
    → LinesAnswered b bytes terms orders (lines_answer b bytes terms orders room)
unfolding lines_answer
lines_print b bytes terms orders room p q =
    record {
      prints = rw (append-nil bytes, append-nil (drop y.answer.consumed bytes)) at (on []);
      prints_on = on;
      stays = g.sound.knows.is;
      terms_stay = g.sound.knows.terms_long;
      orders_stay = g.sound.knows.orders_long;
      consumed = omega (arith, g.consumed, consumed-most bytes g.took g.left g.both);
      within = g.sound.within;
    }
  where
    y : AfterLines
    y = lines_answer b bytes terms orders room

    g : Goes (good (state_of b terms orders)) (reached b 0 0 terms orders room) (lines bytes) y
    g =
        goes (reached b 0 0 terms orders room) (lines bytes)
        (record { knows = record { terms_long = p; orders_long = q; is = refl }; within = omega arith })

    on : (more : List ℕ)
        → answers (state_of b terms orders) (lines (bytes ++ more)) ≡ text_of y ++ answers (box_of y) (lines (drop y.answer.consumed bytes ++ more))
    on more =
        let consumed : y.answer.consumed ≡ length (strung g.took) = omega (arith, g.consumed) in
        rw (more_lines bytes more, consumed, lines_left bytes g.took g.left g.both more) (g.prints (lines (kept bytes ++ more)))

-- ---- called until nothing is consumed, it answers all lines

-- What is consumed stays consumed.
consumed_more : (x : AfterLines) (ls : List (List ℕ)) → x.answer.consumed ≤ (answer_rest x ls).answer.consumed
unfolding answer_rest answer_next
consumed_more x [] = omega arith
consumed_more x (line ∷ ls) = go (leb longest (length x.room - x.answer.bytes)) (consumed_more (answer_next x line) ls)
  where
    go : (b : Bool) → x.answer.consumed + length line ≤ (answer_rest (answer_next x line) ls).answer.consumed
        → x.answer.consumed ≤ (cond b (answer_rest (answer_next x line) ls) x).answer.consumed
    go true h = omega arith
    go false h = omega arith

-- A whole line has its line feed at least.
whole-some : (line : List ℕ) → Whole line → 1 ≤ length line
whole-some line w = omega (arith, simp length-append at (ap length w.ended))

module _ (b : Record) (bytes terms orders room : List ℕ) (wide : longest ≤ length room) where
  -- With room for the longest answer, the first whole line is consumed.
  pub progress : (lines bytes ≡ [] → ⊥) → 1 ≤ (lines_answer b bytes terms orders room).answer.consumed
  unfolding lines_answer answer_rest answer_next All
  progress some = go (lines bytes) refl
    where
      go : (ls : List (List ℕ)) → lines bytes ≡ ls → 1 ≤ (lines_answer b bytes terms orders room).answer.consumed
      go [] e = absurd (some e)
      go (line ∷ ls) e =
          let long = whole-some line (rw e at (lines-whole bytes)).0 in
          let more = consumed_more (answer_next (reached b 0 0 terms orders room) line) ls in
          rw (e, le-leb longest (length room - 0) (omega arith)) (omega (arith, long, more))

  -- So where nothing is consumed no whole line is left, nothing is printed, and the box and the lent log are as they were.
  pub all-answered : (lines_answer b bytes terms orders room).answer.consumed ≡ 0
      → (lines bytes ≡ []) × (lines_answer b bytes terms orders room ≡ reached b 0 0 terms orders room)
  unfolding lines_answer answer_rest
  all-answered none = go (lines bytes) refl
    where
      go : (ls : List (List ℕ)) → lines bytes ≡ ls → (lines bytes ≡ []) × (lines_answer b bytes terms orders room ≡ reached b 0 0 terms orders room)
      go [] e = (e, rw e)
      go (line ∷ ls) e =
          absurd (omega (arith, none, progress (λ z. let never : ◌≡◌ {A = ℕ} 0 1 = cc in omega arith)))

-- ---- a line that is too long

-- No frame has more than 131 bytes (`text-most`): longer bytes are not one frame,
receive-long : (line : List ℕ) (s : State) → longest_message < length line → receive line s ≡ refuse 1
unfolding receive arrive_read
receive-long line s h = rw (refused-when line (λ m o z e. omega (arith, text-most m o, ap length e)))

-- and they are no letter and no order.
pub too_long : (line : List ℕ) (s : State) → longest_message < length line → good s ≡ true → outcome_of line s ≡ refuse 1
unfolding step
too_long line s h g =
    let t = letter_long letter_t line (λ e. omega arith) in
    let p = letter_long letter_p line (λ e. omega arith) in
    let o = order-long line (λ e. omega arith) in
    rw (outcome-step line s g, asks-receive line t p o) (receive-long line s h)

-- Any line is answered 12 at a record that is not good (`not_good`). So two lines that are too long come to the same, at any record, whatever of them is kept.
pub shortened_same : (a b : List ℕ) (s : State) → longest_message < length a → longest_message < length b → outcome_of a s ≡ outcome_of b s
shortened_same a b s h k = go (good s) refl
  where
    go : (g : Bool) → good s ≡ g → outcome_of a s ≡ outcome_of b s
    go true e = too_long a s h e ∙ sym (too_long b s k e)
    go false e = not_good a s e ∙ sym (not_good b s e)

-- A head's mask is a membership that holds its box.
start-member : (line : List ℕ) → is_start line ≡ true → is_membership (box_in line) (mask_in line) ≡ true
start-member line h = go (head_shaped line) refl
  where
    go : (b : Bool) → head_shaped line ≡ b → is_membership (box_in line) (mask_in line) ≡ true
    go true e = sym (shaped line e) ∙ h
    go false e = absurd (true≢false (sym h ∙ unshaped line e))

-- A head has nine bytes, so a longer line starts nothing.
pub too_long-start : (line : List ℕ) → 9 < length line → is_start line ≡ false
unfolding head_shaped
too_long-start line h = unshaped line (go (head_shaped line) refl)
  where
    go : (b : Bool) → head_shaped line ≡ b → head_shaped line ≡ false
    go true e = absurd (omega (arith, eqb-true (length line) 9 (and_right (is_line line && eqb (version line) 1 && eqb (kind line) 17) _ e)))
    go false e = e

-- ---- the first line

-- With no whole line nothing is printed.
pub session-none : (bytes : List ℕ) → lines bytes ≡ [] → session bytes ≡ []
unfolding session talk
session-none bytes e = rw e

module _ (bytes first : List ℕ) (rest : List (List ℕ)) (room : List ℕ) (e : lines bytes ≡ first ∷ rest) (wide : longest ≤ length room) where
  abbrev x : Beginning
  x = beginning first room

  -- A first line: what the answer to it prints, and behind it, where it starts a box, the answers of that box to the lines behind it, whatever log is lent.
  pub session-begins : (terms orders : List ℕ)
      → session bytes ≡ take x.answer.bytes x.room ++ cond x.answer.started (answers (state_of x.answer.state terms orders) rest) []
  unfolding session talk beginning fresh entries_of
  session-begins terms orders = go (is_start first) refl
    where
      go : (b : Bool) → is_start first ≡ b
          → session bytes ≡ take x.answer.bytes x.room ++ cond x.answer.started (answers (state_of x.answer.state terms orders) rest) []
      go true p = rw (e, le-leb longest (length room) wide, p, taken_back room (head (box_in first) (mask_in first)))
      go false p = rw (e, le-leb longest (length room) wide, p, taken_back room (refusal_line 12), append-nil (refusal_line 12))

  -- A box is started exactly by a head,
  pub begins_exactly : x.answer.started ≡ is_start first
  unfolding beginning
  begins_exactly = go (is_start first) refl
    where
      go : (b : Bool) → is_start first ≡ b → x.answer.started ≡ is_start first
      go true p = rw (le-leb longest (length room) wide, p)
      go false p = rw (le-leb longest (length room) wide, p)

  -- and is good, whatever log is lent.
  pub begins-good : (terms orders : List ℕ) → x.answer.started ≡ true → good (state_of x.answer.state terms orders) ≡ true
  unfolding beginning fresh entries_of
  begins-good terms orders s =
      let head : is_start first ≡ true = sym begins_exactly ∙ s in
      let member = start-member first head in
      rw (le-leb longest (length room) wide, head) (fresh-good (box_in first) (mask_in first) member)
