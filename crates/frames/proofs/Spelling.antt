-- The workings of 'a frame has one spelling': reading and writing are each other's inverse. Assumes nothing.
use Rattle.std.specs.Prelude.{ℕ, zero, suc, ◌+◌, ◌^◌, ◌≤◌, ◌<◌, ◌≡◌, refl, Bool, true, false}
use Rattle.std.specs.Prelude.{◌&&◌, ◌||◌, List, [], ◌∷◌, ◌++◌, eqb, ltb, length, get_or, take, drop}
use Rattle.std.proofs.Common.{add_assoc, add-zero, zero-add, add-suc, suc-add, arith, sym, ◌∙◌, append_assoc, length-append}
use Rattle.std.proofs.Common.{drop_of_length-le, take-add, take_at, drop_at, drop-drop, eqb-true, ltb-true, ltb-false}
use Rattle.std.proofs.Math.ListN.{get_or-eq_default}
use Rattle.std.proofs.Math.Seq.{split_at, get_or-append_seam}
use Rattle.digits.specs.Digits.{spelt, field, run, all_digits}
use Rattle.digits.specs.Tests.{and_left}
use Rattle.digits.specs.Laws.{length-spelt, numeral-spelt, spelt-digits, all_digits-append, run-line, spelt-field, field_lt}
use Rattle.frames.specs.declared.Entry.{Entry}
use Rattle.frames.specs.declared.Fields.{Fields}
use Rattle.frames.specs.Limits.{entry_limit}
use Rattle.frames.specs.Message.{Message, vote_request, vote_answer, append, append_answer, by_kind}
use Rattle.frames.specs.Message.{Field, number, width, value, start, entry_fields, table, spell, IsSized, line_feed, text}
use Rattle.frames.specs.Rules.{obeys}
use Rattle.frames.specs.Reading.{version, kind, count, shaped, entry_at, entries_at, vote_request_in, vote_answer_in, append_in, append_answer_in, message_in, is_frame, frame, reading}
use Rattle.frames.specs.Fields.{no_entry, listed, message_of, places, fields_of, is_unused, entries_unused, fields_unused, one_frame}
use Rattle.frames.specs.Clauses.{four, zeros}
use Rattle.frames.specs.Laws.{at-kind, kind_of, count_of, kind_range, length-listed}
use Rattle.frames.proofs.ReadingLaws.{Form, form_shaped, shaped_form, length-entries}
use Rattle.frames.specs.WritingLaws.{chars, chars-table, length-text, whole}

-- ---- over any fields

-- The fields stand in a text from a place on: at each one's place its number is read.
unfoldable pub StandsAt : List Field → ℕ → List ℕ → Type 0
StandsAt [] at s = Unit {0}
StandsAt (f ∷ fs) at s = (field s at (width f) ≡ value f) × StandsAt fs (at + (width f + width f)) s

-- fields behind others stand behind them
stands-behind : (fs gs : List Field) (at : ℕ) (s : List ℕ) → StandsAt (fs ++ gs) at s → StandsAt gs (at + chars fs) s
unfolding StandsAt
stands-behind [] gs at s t = rw add-zero t
stands-behind (f ∷ fs) gs at s t = rw (← add_assoc at (width f + width f) (chars fs)) (stands-behind fs gs (at + (width f + width f)) s t.1)

-- fields are written with digits alone
pub spell-digits : (fs : List Field) → all_digits (spell fs) ≡ true
unfolding spell all_digits
spell-digits [] = refl
spell-digits (f ∷ fs) = all_digits-append (spelt (width f) (value f)) _ (spelt-digits (width f) (value f)) (spell-digits fs)

-- reading back: fields that fit stand where they were written
pub spelt-stands : (fs : List Field) (at : ℕ) (s rest : List ℕ) → drop at s ≡ spell fs ++ rest → IsSized fs → StandsAt fs at s
unfolding spell IsSized StandsAt field
spelt-stands [] at s rest e z = tt
spelt-stands (f ∷ fs) at s rest e z = (here, spelt-stands fs _ s rest there z.1)
  where
    both : drop at s ≡ spelt (width f) (value f) ++ (spell fs ++ rest)
    both = e ∙ append_assoc (spelt (width f) (value f)) (spell fs) rest

    here : field s at (width f) ≡ value f
    here = rw (both, take_at _ _ _ (length-spelt (width f) (value f)), numeral-spelt (width f) (value f) z.0)

    there : drop (at + (width f + width f)) s ≡ spell fs ++ rest
    there = rw (← drop-drop, both, drop_at _ _ _ (length-spelt (width f) (value f)))

-- writing back: fields that stand among the digits of a text are written as they stand there
pub stands-spelt : (fs : List Field) (at : ℕ) (s : List ℕ) → at + chars fs ≤ run s → StandsAt fs at s → spell fs ≡ take (chars fs) (drop at s)
unfolding spell StandsAt
stands-spelt [] at s h t = refl
stands-spelt (f ∷ fs) at s h t =
    rw (← t.0, spelt-field s at (width f) (omega arith), take-add _ (chars fs), drop-drop, stands-spelt fs _ s (omega arith) t.1)

-- and they fit
pub stands-sized : (fs : List Field) (at : ℕ) (s : List ℕ) → at + chars fs ≤ run s → StandsAt fs at s → IsSized fs
unfolding IsSized StandsAt
stands-sized [] at s h t = tt
stands-sized (f ∷ fs) at s h t =
    (rw (← t.0) (field_lt s at (width f) (omega arith)), stands-sized fs _ s (omega arith) t.1)

-- ---- over entries

-- the entries that are read at a place stand there
pub read-entries : (s : List ℕ) (at n : ℕ) → StandsAt (entry_fields (entries_at s at n)) at s
unfolding entries_at entry_at entry_fields StandsAt
read-entries s at zero = tt
read-entries s at (suc n) = (refl, (refl, rw (add_assoc at 8 16) (read-entries s (at + 24) n)))

-- and those that stand there are read
pub entries-read : (es : List Entry) (at : ℕ) (s : List ℕ) → StandsAt (entry_fields es) at s → entries_at s at (length es) ≡ es
unfolding entries_at entry_at entry_fields StandsAt
entries-read [] at s t = refl
entries-read (e ∷ es) at s t =
    λ d. record { term = t.0 d; order = t.1.0 d } ∷ entries-read es (at + 24) s (rw (add_assoc at 8 16) at t.1.1) d

-- where each entry of the struct fits, so do those that are listed
pub sized-listed : (es : List Entry) → ((i : ℕ) → ((get_or es i no_entry).term < 256 ^ 4) × ((get_or es i no_entry).order < 256 ^ 8))
    → (at n : ℕ) → IsSized (entry_fields (listed es at n))
unfolding listed entry_fields IsSized
sized-listed es z at zero = tt
sized-listed es z at (suc n) = ((z at).0, ((z at).1, sized-listed es z (suc at) n))

-- ---- over the four kinds

-- What a text tells of a message whose fields stand in it.
record Told (m : Message) (s : List ℕ) : Type 0 where
  its_version : version s ≡ 1
  its_kind : kind s ≡ kind_of m
  its_count : count s ≡ count_of m
  its_message : message_in s ≡ m

-- a message whose fields stand in a text is the one that is read there
told : (m : Message) (s : List ℕ) → StandsAt (table m) 0 s → Told m s
unfolding table StandsAt version kind count message_in by_kind vote_request_in vote_answer_in append_in append_answer_in
told (vote_request from to term last_index last_term) s t =
    record { its_version = t.0; its_kind = t.1.0; its_count = rw t.1.0; its_message = rw t.1.0 (cc) }
told (vote_answer from to term reply) s t =
    record { its_version = t.0; its_kind = t.1.0; its_count = rw t.1.0; its_message = rw t.1.0 (cc) }
told (append from to term previous-index previous-term commit es) s t =
    let fixed = start 3 from to term (number 2 previous-index ∷ number 4 previous-term ∷ number 2 commit ∷ number 1 (length es) ∷ []) in
    let read : entries_at s 34 (length es) ≡ es = entries-read es 34 s (stands-behind fixed (entry_fields es) 0 s t) in
    record { its_version = t.0; its_kind = t.1.0; its_count = rw t.1.0 (cc); its_message = rw t.1.0 (cc) }
told (append_answer from to term reply index) s t =
    record { its_version = t.0; its_kind = t.1.0; its_count = rw t.1.0; its_message = rw t.1.0 (cc) }

-- a line is its digits and the line feed
line_split : (s : List ℕ) → Form s → s ≡ take (run s) s ++ (line_feed ∷ [])
line_split s f = split_at s (run s) 0 (omega arith) ∙ rw (f.ended, drop_of_length-le s {i = suc (run s)} (omega arith))

-- the fields of the message that is read stand where they are read
read-stands : (s : List ℕ) → Form s → StandsAt (table (message_in s)) 0 s
unfolding version kind message_in by_kind vote_request_in vote_answer_in append_in append_answer_in table StandsAt
read-stands s f =
    at-kind (λ k. kind s ≡ k → StandsAt (table (by_kind k (vote_request_in s) (vote_answer_in s) (append_in s) (append_answer_in s))) 0 s)
    (λ e. (f.one, (e, (refl, (refl, (refl, (refl, (refl, tt))))))))
    (λ e. (f.one, (e, (refl, (refl, (refl, (refl, tt)))))))
    (λ e. (f.one, (e, (refl, (refl, (refl, (refl, (refl, (refl, (sym (length-entries s 34 _), read-entries s 34 _))))))))))
    (λ e. (f.one, (e, (refl, (refl, (refl, (refl, (refl, tt))))))))
    (kind s) f.least f.most refl

-- ---- reading what was written

-- the fields of a message whose numbers fit stand in its text
text-told : (m : Message) → IsSized (table m) → Told m (text m)
unfolding text
text-told m z = told m (text m) (spelt-stands (table m) 0 (text m) (line_feed ∷ []) refl z)

-- and its text has the form of a frame
text_form : (m : Message) → IsSized (table m) → Form (text m)
unfolding text
text_form m z =
    record {
      line = rw (digits, length-append);
      ended = rw digits (get_or-append_seam (spell (table m)) line_feed [] 0);
      one = (text-told m z).its_version;
      least = rw (text-told m z).its_kind (kind_range m).least;
      most = rw (text-told m z).its_kind (kind_range m).most;
      long = rw ((text-told m z).its_kind, (text-told m z).its_count) (length-text m);
    }
  where
    digits : run (text m) ≡ length (spell (table m))
    digits = run-line (spell (table m)) (spell-digits (table m)) []

-- what was written is read as the same message
pub reading-text : (m : Message) → IsSized (table m) → obeys m ≡ true → reading (text m) ≡ frame m
unfolding reading is_frame
reading-text m z o = rw (form_shaped (text m) (text_form m z), (text-told m z).its_message, o)

-- ---- writing what was read

module _ (s : List ℕ) (h : is_frame s ≡ true) where
  -- it has the form of a frame, and what is read tells the message that is read
  is_form : Form s
  unfolding is_frame
  is_form = shaped_form s (and_left (shaped s) _ h)

  read_told : Told (message_in s) s
  read_told = told (message_in s) s (read-stands s is_form)

  -- the fields are all the digits of the text
  all_digits-read : chars (table (message_in s)) ≡ run s
  all_digits-read =
      chars-table (message_in s) ∙ rw (← read_told.its_kind, ← read_told.its_count) (omega (arith, is_form.line, is_form.long))

  -- what is read fits its fields
  pub sized-reading : IsSized (table (message_in s))
  sized-reading = stands-sized (table (message_in s)) 0 s (omega (arith, all_digits-read)) (read-stands s is_form)

  -- what was read is written as the same bytes
  pub text-reading : text (message_in s) ≡ s
  unfolding text
  text-reading =
      rw (stands-spelt (table (message_in s)) 0 s (omega (arith, all_digits-read)) (read-stands s is_form), all_digits-read)
      (sym (line_split s is_form))

-- ---- the struct holds no more than the message

-- the entries that are listed are those of the struct
getD_listed : (es : List Entry) (at n i : ℕ) → i < n → get_or (listed es at n) i no_entry ≡ get_or es (at + i) no_entry
unfolding listed
getD_listed es at zero i h = absurd (omega arith)
getD_listed es at (suc n) zero h = rw add-zero
getD_listed es at (suc n) (suc i) h = getD_listed es (suc at) n i (omega arith) ∙ rw (suc-add, add-suc)

-- an entry that is not used is no entry
unused-entry : (e : Entry) → (eqb e.term 0 && eqb e.order 0) ≡ true → no_entry ≡ e
unused-entry e u =
    let z = zeros 0 0 e.term e.order u in
    λ d. record { term = sym z.2 d; order = sym z.3 d }

-- an entry of the message, or none and zeros
entry-told : (es : List Entry) (n i : ℕ) → is_unused n i (get_or es i no_entry) ≡ true → get_or (listed es 0 n) i no_entry ≡ get_or es i no_entry
entry-told es n i u = go (ltb i n) refl u
  where
    go : (b : Bool) → ltb i n ≡ b → (b || (eqb (get_or es i no_entry).term 0 && eqb (get_or es i no_entry).order 0)) ≡ true
        → get_or (listed es 0 n) i no_entry ≡ get_or es i no_entry
    go true e v = getD_listed es 0 n i (ltb-true i n e) ∙ rw zero-add
    go false e v =
        get_or-eq_default (listed es 0 n) no_entry {n = i} (omega (arith, ltb-false i n e, length-listed es 0 n))
        ∙ unused-entry (get_or es i no_entry) v

-- the four places are the whole list
places-all : (es : List Entry) → length es ≡ entry_limit → places es ≡ es
places-all [] h = absurd (omega arith)
places-all (a ∷ []) h = absurd (omega arith)
places-all (a ∷ b ∷ []) h = absurd (omega arith)
places-all (a ∷ b ∷ c ∷ []) h = absurd (omega arith)
places-all (a ∷ b ∷ c ∷ d ∷ []) h = refl
places-all (a ∷ b ∷ c ∷ d ∷ e ∷ es) h = absurd (omega arith)

-- so the listed entries fill the four places as the struct does
entries-told : (es : List Entry) (n : ℕ) → length es ≡ entry_limit → entries_unused n es ≡ true → places (listed es 0 n) ≡ es
entries-told es n l u =
    let t = four (is_unused n 0 (get_or es 0 no_entry)) (is_unused n 1 (get_or es 1 no_entry)) (is_unused n 2 (get_or es 2 no_entry)) _ u in
    rw (entry-told es n 0 t.0, entry-told es n 1 t.1, entry-told es n 2 t.2, entry-told es n 3 t.3) (places-all es l)

-- What the struct of a frame holds is no more than the message.
pub fields_told : (f : Fields) → length f.entries ≡ entry_limit → one_frame f ≡ true → fields_of (message_of f) ≡ f
unfolding fields_of by_kind listed
fields_told f l h =
    at-kind (λ k. f.kind ≡ k → fields_of (message_of f) ≡ f)
    (λ e. let z = zeros 0 f.commit f.reply f.count (rw e at unused) in rw (e, z.1, z.2, z.3, ← none z.3))
    (λ e. let z = zeros f.index f.prior f.commit f.count (rw e at unused) in rw (e, z.0, z.1, z.2, z.3, ← none z.3))
    (λ e. rw (e, eqb-true f.reply 0 (rw e at unused), length-listed, all))
    (λ e. let z = zeros 0 f.prior f.commit f.count (rw e at unused) in rw (e, z.1, z.2, z.3, ← none z.3))
    f.kind (whole f h).least (whole f h).most refl
  where
    unused : fields_unused f ≡ true
    unused = (whole f h).unused

    all : places (listed f.entries 0 f.count) ≡ f.entries
    all = entries-told f.entries f.count l (whole f h).spare

    none : f.count ≡ 0 → places [] ≡ f.entries
    none z = rw z at all
