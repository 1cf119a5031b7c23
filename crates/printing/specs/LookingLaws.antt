-- What the code's proofs use of a record as text. Assumes nothing.
use Rattle.std.specs.Prelude.{ℕ, ◌+◌, ◌-◌, ◌*◌, ◌≤◌, ◌≡◌, refl, true, false, ◌&&◌, Some, None, List, [], ◌∷◌, ◌++◌, eqb, leb, length, get_or, set}
use Rattle.std.proofs.Common.{zero-add, add-one, arith, ap, ◌∙◌, append_assoc, append-nil, length-append, eqb-true, leb-true, eq-eqb, ne_eqb}
use Rattle.digits.specs.Tests.{and_left, and_right}
use Rattle.digits.specs.Room.{over}
use Rattle.digits.specs.RoomLaws.{length_over}
use Rattle.frames.specs.declared.Entry.{Entry}
use Rattle.frames.specs.Limits.{boxes, log_limit}
use Rattle.frames.specs.Message.{entry_fields, spell, line_feed}
use Rattle.frames.specs.WritingLaws.{length-spell, chars-entries}
use Rattle.raft.specs.Lent.{entries_of}
use Rattle.raft.specs.LentLaws.{length-entries_of, entries_more}
use Rattle.record.specs.declared.Record.{Record}
use Rattle.record.specs.Calls.{state_of}
use Rattle.printing.specs.Text.{decimal_in, decimal}
use Rattle.printing.specs.Looking.{asks, asked_box, space, numbered, first_shown, entry_shown, log_shown, shown}
use Rattle.printing.specs.Putting.{shown_most, Puts}
use Rattle.printing.specs.TextLaws.{put-behind, put_both, decimal-long}

-- ---- the box asked for

pub asks-long : (s : List ℕ) → (length s ≡ 2 → ⊥) → asks s ≡ false
unfolding asks
asks-long s h = rw (ne_eqb (length s) 2 h)

pub asks-by : (s : List ℕ) → length s ≡ 2 → asks s ≡ (leb 49 (get_or s 0 0) && leb (get_or s 0 0) (48 + boxes) && eqb (get_or s 1 0) line_feed)
unfolding asks
asks-by s h = rw (eq-eqb (length s) 2 h)

pub record Asking (s : List ℕ) : Type 0 where
  pub long : length s ≡ 2
  pub digit : 49 ≤ get_or s 0 0

pub asks-facts : (s : List ℕ) → asks s ≡ true → Asking s
unfolding asks
asks-facts s h =
    let all = and_right (eqb (length s) 2) _ h in
    let range = and_left (leb 49 (get_or s 0 0) && leb (get_or s 0 0) (48 + boxes)) _ all in
    record {
      long = eqb-true (length s) 2 (and_left (eqb (length s) 2) _ h);
      digit = leb-true 49 (get_or s 0 0) (and_left (leb 49 (get_or s 0 0)) _ range);
    }

pub asked-digit : (s : List ℕ) → asks s ≡ true → asked_box s ≡ Some (get_or s 0 0 - 48)
unfolding asked_box
asked-digit s h = rw h

pub asked-none : (s : List ℕ) → asks s ≡ false → asked_box s ≡ None
unfolding asked_box
asked-none s h = rw h

-- ---- numbers, one behind the other

numbered-most : (n behind : ℕ) → length (numbered n behind) ≤ 21
unfolding numbered decimal
numbered-most n behind = omega (arith, length-append (decimal_in 20 n) (behind ∷ []), decimal-long 20 n)

pub numbered-put : (d : List ℕ) {d₁ : List ℕ} (at n behind : ℕ) {end : ℕ} → at + 21 ≤ length d → Puts d at (decimal n) end d₁
    → Puts d at (numbered n behind) (end + 1) (set d₁ end behind)
unfolding numbered decimal
numbered-put d at n behind h p = put-behind behind (omega (arith, p.behind, decimal-long 20 n)) p

-- four of them
pub first-put : (d : List ℕ) {d₁ d₂ d₃ d₄ : List ℕ} (bytes term vote last : ℕ) {one two three four : ℕ} → 84 ≤ length d
    → Puts d 0 (numbered bytes space) one d₁ → Puts d₁ one (numbered term space) two d₂ → Puts d₂ two (numbered vote space) three d₃
    → Puts d₃ three (numbered last line_feed) four d₄ → Puts d 0 (first_shown bytes term vote last) four d₄
unfolding first_shown
first-put d bytes term vote last h p₁ p₂ p₃ p₄ =
    let l₁ = numbered-most bytes space in
    let l₂ = numbered-most term space in
    let l₃ = numbered-most vote space in
    let l₄ = numbered-most last line_feed in
    let both = length-append (numbered bytes space) (numbered term space) in
    let all = length-append (numbered bytes space ++ numbered term space) (numbered vote space) in
    let two = put_both (omega (arith, l₁, l₂)) p₁ p₂ in
    let three = put_both (omega (arith, both, l₁, l₂, l₃)) two p₃ in
    put_both (omega (arith, both, all, l₁, l₂, l₃, l₄)) three p₄

-- ---- the log's entries

entry-long : (e : Entry) → length (entry_shown e) ≡ 25
unfolding entry_shown
entry-long e =
    omega (
      arith,
      length-append (spell (entry_fields (e ∷ []))) (line_feed ∷ []),
      length-spell (entry_fields (e ∷ [])),
      chars-entries (e ∷ []),
    )

log-long : (es : List Entry) → length (log_shown es) ≡ 25 * length es
unfolding log_shown
log-long [] = refl
log-long (e ∷ es) = rw (length-append (entry_shown e) (log_shown es), entry-long e, log-long es) (omega arith)

log-append : (es fs : List Entry) → log_shown es ++ log_shown fs ≡ log_shown (es ++ fs)
unfolding log_shown
log-append [] fs = refl
log-append (e ∷ es) fs = append_assoc (entry_shown e) (log_shown es) (log_shown fs) ∙ ap (λ (l : List ℕ). entry_shown e ++ l) (log-append es fs)

logged_long : (terms orders : List ℕ) (n : ℕ) → length (log_shown (entries_of terms orders 0 n)) ≡ 25 * n
logged_long terms orders n = log-long (entries_of terms orders 0 n) ∙ rw (length-entries_of terms orders 0 n)

-- the entries up to a place are shown: then the next, and its line feed
pub logged_next : (d : List ℕ) {d₁ d₂ : List ℕ} (at : ℕ) (terms orders : List ℕ) (n : ℕ) → at + 25 * n + 25 ≤ length d
    → d₁ ≡ over d at (log_shown (entries_of terms orders 0 n))
    → d₂ ≡ over d₁ (at + 25 * n) (spell (entry_fields (record { term = get_or terms n 0; order = get_or orders n 0 } ∷ [])))
    → set d₂ (at + 25 * n + 24) line_feed ≡ over d at (log_shown (entries_of terms orders 0 (n + 1)))
unfolding entry_shown log_shown
logged_next d {d₁} {d₂} at terms orders n h p q =
    rw (add-one n, entries_more terms orders 0 n, zero-add n, ← log-append (entries_of terms orders 0 n) (next ∷ []), append-nil (entry_shown next))
    (put_both (omega (arith, before, entry-long next)) shown line).holds
  where
    next : Entry
    next = record { term = get_or terms n 0; order = get_or orders n 0 }

    before : length (log_shown (entries_of terms orders 0 n)) ≡ 25 * n
    before = logged_long terms orders n

    digits : length (spell (entry_fields (next ∷ []))) ≡ 24
    digits = omega (arith, length-spell (entry_fields (next ∷ [])), chars-entries (next ∷ []))

    shown : Puts d at (log_shown (entries_of terms orders 0 n)) (at + 25 * n) d₁
    shown = record { behind = omega (arith, before); holds = p }

    long : length d₁ ≡ length d
    long = ap length p ∙ length_over d at (log_shown (entries_of terms orders 0 n)) (omega (arith, before))

    line : Puts d₁ (at + 25 * n) (entry_shown next) (at + 25 * n + 24 + 1) (set d₂ (at + 25 * n + 24) line_feed)
    line = put-behind line_feed (omega (arith, long)) (record { behind = omega (arith, digits); holds = q })

-- the first line, and the log behind it
pub shown-put : (d : List ℕ) {d₁ d₂ : List ℕ} (bytes : ℕ) (b : Record) (terms orders : List ℕ) {first : ℕ} → shown_most ≤ length d → b.last ≤ log_limit
    → Puts d 0 (first_shown bytes b.term b.vote b.last) first d₁ → first ≤ 84
    → d₂ ≡ over d₁ first (log_shown (entries_of terms orders 0 b.last))
    → Puts d 0 (shown bytes (state_of b terms orders)) (first + 25 * b.last) d₂
unfolding shown
shown-put d bytes b terms orders h k p m q =
    let log : length (log_shown (entries_of terms orders 0 b.last)) ≡ 25 * b.last = logged_long terms orders b.last in
    rw (length-entries_of terms orders 0 b.last)
    (put_both (omega (arith, p.behind, m, log, k)) p (record { behind = omega (arith, log); holds = q }))
