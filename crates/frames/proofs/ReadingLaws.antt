-- What is proved of reading, for the reader's proofs and for 'one spelling'. Assumes nothing.
use Rattle.std.specs.Prelude.{ℕ, zero, suc, ◌+◌, ◌*◌, ◌≤◌, ◌<◌, ◌≡◌, refl, Bool, true, false}
use Rattle.std.specs.Prelude.{cond, ◌&&◌, List, [], ◌∷◌, ◌++◌, eqb, leb, length, get_or, take, Ok}
use Rattle.std.proofs.Math.Seq.{take-append_seam, get_or-append_seam}
use Rattle.std.proofs.Common.{add-zero, mul-zero, length-append, arith, sym, ap, ◌∙◌, true≢false, eqb-true, leb-true, ne_eqb, eq-eqb, le-leb}
use Rattle.digits.specs.Digits.{field, run, all_digits}
use Rattle.digits.specs.Laws.{run_ends}
use Rattle.digits.specs.Tests.{and_left, and_right, and_both, at_each}
use Rattle.frames.specs.declared.Entry.{Entry}
use Rattle.frames.specs.declared.Fields.{Fields}
use Rattle.frames.specs.Limits.{log_limit, entry_limit}
use Rattle.frames.specs.Message.{Message, vote_request, vote_answer, append, append_answer, by_kind, line_feed}
use Rattle.frames.specs.Rules.{is_start, is_index, is_pair, in_order, obeys}
use Rattle.frames.specs.Reading.{lengths, size, text_size, is_line, version, kind, count, is_headed, shaped, readable}
use Rattle.frames.specs.Reading.{entry_at, entries_at, vote_request_in, vote_answer_in, append_in, append_answer_in, message_in}
use Rattle.frames.specs.Reading.{is_frame, frame, refused, reading}
use Rattle.frames.specs.Fields.{no_entry, listed, message_of, places, fields_of, answer}
use Rattle.frames.specs.Clauses.{four}
use Rattle.frames.specs.Laws.{OfFour, at-kind, count_of}

-- ---- the table of lengths, by a computed test

-- no kind has more than 17 bytes before its entries
pub longest : (k : ℕ) → k < 5 → get_or lengths k 0 ≤ 17
longest k h = leb-true _ _ (at_each (λ j. leb (get_or lengths j 0) 17) 5 refl k h)

-- nor less than 9
shortest : (k : ℕ) → 1 ≤ k → k < 5 → 9 ≤ get_or lengths k 0
shortest zero l h = absurd (omega arith)
shortest (suc k) l h = leb-true _ _ (at_each (λ j. leb 9 (get_or lengths (suc j) 0)) 4 refl k (omega arith))

-- so a frame's size is far from overflowing
pub size-lt : (k n : ℕ) → k < 5 → n < 256 → size k n < 4096
unfolding size
size-lt k n h l = omega (arith, longest k h)

-- at least 9
pub size-least : (k n : ℕ) → 1 ≤ k → k < 5 → 9 ≤ size k n
unfolding size
size-least k n l h = omega (arith, shortest k l h)

-- and at least that of its fixed part
pub size-grows : (k n : ℕ) → size k 0 ≤ size k n
unfolding size
size-grows k n = omega arith

-- ---- the count

-- an append has its count at its place
pub count-append : (s : List ℕ) → kind s ≡ 3 → count s ≡ field s 32 1
unfolding count
count-append s e = rw e

-- and the other kinds have none
pub count_none : (s : List ℕ) → (kind s ≡ 3 → ⊥) → count s ≡ 0
unfolding count
count_none s e = rw (ne_eqb _ _ e)

-- ---- what the form says

-- one line is digits up to its last character
pub line-run : (s : List ℕ) → is_line s ≡ true → run s + 1 ≡ length s
unfolding is_line
line-run s h = eqb-true _ _ (and_left (eqb (run s + 1) (length s)) _ h)

-- a text with no character is no line
pub no_line : (s : List ℕ) → length s ≡ 0 → is_line s ≡ false
unfolding is_line
no_line s l = rw (ne_eqb (run s + 1) (length s) (omega arith))

-- the test of the last character and of all before it is the test for a line
pub line-by : (s : List ℕ) (n : ℕ) → length s ≡ n + 1 → is_line s ≡ (all_digits (take n s) && eqb (get_or s n 0) 10)
unfolding is_line
line-by s n l = run_ends s n l

-- so for a text that is a last character behind all before it
pub line_split : (rest : List ℕ) (last : ℕ) → is_line (rest ++ (last ∷ [])) ≡ (all_digits rest && eqb last 10)
line_split rest last =
    line-by (rest ++ (last ∷ [])) (length rest) (simp length-append (omega arith))
    ∙ rw (take-append_seam rest (last ∷ []), get_or-append_seam rest last [] 0)

-- a headed text is of one of the four kinds
pub headed_kind : (s : List ℕ) → is_headed s ≡ true → OfFour (kind s)
unfolding is_headed
headed_kind s h =
    let t = four (is_line s) (eqb (version s) 1) (leb 1 (kind s)) (leb (kind s) 4) h in
    record { least = leb-true 1 (kind s) t.2; most = omega (arith, leb-true (kind s) 4 t.3) }

-- The form of a frame, test by test.
pub record Form (s : List ℕ) : Type 0 where
  pub line : run s + 1 ≡ length s
  pub ended : get_or s (run s) 0 ≡ line_feed
  pub one : version s ≡ 1
  pub least : 1 ≤ kind s
  pub most : kind s < 5
  pub long : length s ≡ text_size (size (kind s) (count s))

-- it is the test that the reader makes: what has the form passes it
pub form_shaped : (s : List ℕ) → Form s → shaped s ≡ true
unfolding shaped is_headed is_line
form_shaped s f =
    rw (
      eq-eqb _ _ f.line,
      eq-eqb _ _ f.ended,
      eq-eqb _ _ f.one,
      le-leb _ _ f.least,
      le-leb (kind s) 4 (omega arith),
      eq-eqb _ _ f.long,
    )

-- and what passes it has the form
pub shaped_form : (s : List ℕ) → shaped s ≡ true → Form s
unfolding shaped is_headed is_line
shaped_form s h =
    let headed = four (is_line s) (eqb (version s) 1) (leb 1 (kind s)) (leb (kind s) 4) (and_left (is_headed s) _ h) in
    record {
      line = eqb-true _ _ (and_left (eqb (run s + 1) (length s)) _ headed.0);
      ended = eqb-true _ _ (and_right (eqb (run s + 1) (length s)) _ headed.0);
      one = eqb-true _ _ headed.1;
      least = (headed_kind s (and_left (is_headed s) _ h)).least;
      most = (headed_kind s (and_left (is_headed s) _ h)).most;
      long = eqb-true _ _ (and_right (is_headed s) _ h);
    }

-- what is readable has the form
pub form : (s : List ℕ) → readable s ≡ true → Form s
unfolding readable
form s h = shaped_form s (and_left (shaped s) _ h)

-- and at most four entries
few-counted : (s : List ℕ) → readable s ≡ true → count s ≤ entry_limit
unfolding readable
few-counted s h = leb-true _ _ (and_right (shaped s) _ h)

-- so it has no fewer digits than the shortest kind
pub readable-long : (s : List ℕ) → readable s ≡ true → 18 ≤ run s
readable-long s h = omega (arith, form s h, size-least (kind s) (count s) (form s h).least (form s h).most)

-- and what is shorter is not readable
pub unreadable : (s : List ℕ) → length s < 19 → readable s ≡ false
unreadable s l = go (readable s) refl
  where
    go : (b : Bool) → readable s ≡ b → readable s ≡ false
    go true e = absurd (omega (arith, readable-long s e, (form s e).line))
    go false e = e

-- the fixed part of its kind is there
pub room_for : (k : ℕ) (s : List ℕ) → readable s ≡ true → kind s ≡ k → 2 * get_or lengths k 0 ≤ run s
unfolding size
room_for k s h e =
    let long : length s ≡ text_size (size k (count s)) = rw e at (form s h).long in
    omega (arith, (form s h).line)

-- and so are an append's entries
pub room_for_entries : (s : List ℕ) → readable s ≡ true → kind s ≡ 3 → 34 + 24 * field s 32 1 ≤ run s
unfolding size
room_for_entries s h e =
    let long : length s ≡ text_size (size 3 (field s 32 1)) = rw (e, count-append s e) at (form s h).long in
    omega (arith, (form s h).line)

-- a kind that is none of the first three is the fourth
pub last-kind : (s : List ℕ) → readable s ≡ true → (kind s ≡ 1 → ⊥) → (kind s ≡ 2 → ⊥) → (kind s ≡ 3 → ⊥) → kind s ≡ 4
last-kind s h a b c = omega (arith, form s h)

-- ---- entries at their places

-- as many entries are read as are asked for
pub length-entries : (s : List ℕ) (at n : ℕ) → length (entries_at s at n) ≡ n
unfolding entries_at
length-entries s at zero = refl
length-entries s at (suc n) = ap suc (length-entries s (at + 24) n)

-- each at its place
pub entry-there : (s : List ℕ) (at n i : ℕ) → i < n → get_or (entries_at s at n) i no_entry ≡ entry_at s (at + 24 * i)
unfolding entries_at
entry-there s at zero i h = absurd (omega arith)
entry-there s at (suc n) zero h = rw (mul-zero, add-zero)
entry-there s at (suc n) (suc i) h =
    entry-there s (at + 24) n i (omega arith) ∙ ap (entry_at s) (omega arith)

-- and none behind the last
pub entry_past : (s : List ℕ) (at n i : ℕ) → n ≤ i → get_or (entries_at s at n) i no_entry ≡ no_entry
unfolding entries_at
entry_past s at zero i h = refl
entry_past s at (suc n) zero h = absurd (omega arith)
entry_past s at (suc n) (suc i) h = entry_past s (at + 24) n i (omega arith)

-- ---- the struct of a message tells that message

-- up to four entries are those of their places
pub listed-places : (es : List Entry) → length es ≤ entry_limit → listed (places es) 0 (length es) ≡ es
unfolding listed
listed-places [] h = refl
listed-places (a ∷ []) h = refl
listed-places (a ∷ b ∷ []) h = refl
listed-places (a ∷ b ∷ c ∷ []) h = refl
listed-places (a ∷ b ∷ c ∷ d ∷ []) h = refl
listed-places (a ∷ b ∷ c ∷ d ∷ e ∷ es) h = absurd (omega arith)

-- the fields of a message with at most four entries tell that message
pub message_told : (m : Message) → count_of m ≤ entry_limit → message_of (fields_of m) ≡ m
unfolding fields_of by_kind
message_told (vote_request a b c d e) h = refl
message_told (vote_answer a b c d) h = refl
message_told (append a b c d e f es) h = ap (append a b c d e f) (listed-places es h)
message_told (append_answer a b c d e) h = refl

-- and its count
pub count-told : (m : Message) → (fields_of m).count ≡ count_of m
unfolding fields_of
count-told (vote_request a b c d e) = refl
count-told (vote_answer a b c d) = refl
count-told (append a b c d e f es) = refl
count-told (append_answer a b c d e) = refl

-- as many entries are read as are counted
count-read : (s : List ℕ) → Form s → count_of (message_in s) ≡ count s
unfolding message_in by_kind count vote_request_in vote_answer_in append_in append_answer_in
count-read s f =
    at-kind (λ k. kind s ≡ k → count_of (message_in s) ≡ count s)
    (λ e. rw e) (λ e. rw e) (λ e. rw e (length-entries s 34 _)) (λ e. rw e) (kind s) f.least f.most refl

-- so what is readable tells at most four
few-read : (s : List ℕ) → readable s ≡ true → count_of (message_in s) ≤ entry_limit
few-read s h = omega (arith, count-read s (form s h), few-counted s h)

-- and so does a message that obeys
pub obeys-few : (m : Message) → obeys m ≡ true → count_of m ≤ entry_limit
obeys-few (vote_request a b c d e) h = omega arith
obeys-few (vote_answer a b c d) h = omega arith
obeys-few (append a b c d e f es) h =
    leb-true (length es) entry_limit
    (four (is_start a b c && is_index d && is_pair d e && is_index f) (leb (length es) entry_limit) (leb (d + length es) log_limit) (in_order e c es) h).1
obeys-few (append_answer a b c d e) h = omega arith

-- ---- the reader's answers

module _ (s : List ℕ) (f : Fields) (h : readable s ≡ true) (e : f ≡ fields_of (message_in s)) where
  -- the fields that were read tell the message that is read
  tells : message_of f ≡ message_in s
  tells = rw e (message_told (message_in s) (few-read s h))

  -- with at most four entries
  pub read-few : f.count ≤ entry_limit
  read-few = rw (e, count-told) (few-read s h)

  -- the fields that the form tells, where the rules hold, are the frame's
  pub read-frame : obeys (message_of f) ≡ true → Ok f ≡ answer (reading s)
  unfolding answer reading is_frame readable
  read-frame o = rw (and_left (shaped s) _ h, rw tells at o, e)

  -- and where they do not, it is refused
  pub read_disobeys : obeys (message_of f) ≡ false → reading s ≡ refused
  unfolding reading is_frame readable
  read_disobeys o = rw (and_left (shaped s) _ h, rw tells at o)

-- a frame has the form, and at most four entries
pub frame-readable : (s : List ℕ) → is_frame s ≡ true → readable s ≡ true
unfolding is_frame readable
frame-readable s f =
    let form-true : shaped s ≡ true = and_left (shaped s) _ f in
    let few : count_of (message_in s) ≤ entry_limit = obeys-few (message_in s) (and_right (shaped s) _ f) in
    and_both (shaped s) _ form-true (le-leb (count s) entry_limit (omega (arith, count-read s (shaped_form s form-true))))

-- so what has not is no frame
pub read_unreadable : (s : List ℕ) → readable s ≡ false → reading s ≡ refused
unfolding reading
read_unreadable s h = go (is_frame s) refl
  where
    go : (b : Bool) → is_frame s ≡ b → cond (is_frame s) (frame (message_in s)) refused ≡ refused
    go true e = absurd (true≢false (sym (frame-readable s e) ∙ h))
    go false e = rw e
