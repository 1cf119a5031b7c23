-- What is proved of writing: fields one behind the other, the line feed, and how long a frame is. Assumes nothing.
use Rattle.std.specs.Prelude.{ℕ, zero, suc, Bool, cond, ◌+◌, ◌*◌, ◌≤◌, ◌<◌, ◌≡◌, true, false}
use Rattle.std.specs.Prelude.{◌&&◌, List, [], ◌∷◌, ◌++◌, leb, length, get_or, set, take, Ok, Err}
use Rattle.std.proofs.Common.{add-zero, zero-add, add-suc, suc-add, add-one, arith, sym, ap, ◌∙◌, append_assoc, append-nil, length-append, take-append-drop}
use Rattle.std.proofs.Math.Path.{refl}
use Rattle.std.proofs.lemmas.List.{take_more, length-take-le}
use Rattle.std.proofs.lemmas.List.Edits.{sets-eq}
use borrow.Author.Tests.{leb-true, lt-leb, le-leb}
use Rattle.digits.specs.Digits.{spelt}
use Rattle.digits.specs.Laws.{length-spelt}
use Rattle.digits.specs.Room.{over}
use Rattle.digits.specs.RoomLaws.{over-over}
use Rattle.frames.specs.declared.Entry.{Entry}
use Rattle.frames.specs.declared.Fields.{Fields}
use Rattle.frames.specs.declared.refusal.Refusal.TheVariants.{NotAFrame, NoRoom}
use Rattle.frames.specs.Limits.{entry_limit}
use Rattle.frames.specs.Message.{Message, vote_request, vote_answer, append, append_answer, by_kind, Field, width, value, entry_fields, table, spell, text}
use Rattle.frames.specs.Rules.{obeys}
use Rattle.frames.specs.Reading.{size, text_size}
use Rattle.frames.specs.Fields.{no_entry, listed, message_of, fields_unused, entries_unused, one_frame}
use Rattle.frames.specs.Writing.{Wrote, written}
use Rattle.frames.specs.Clauses.{four, zeros}
use Rattle.frames.specs.Laws.{at-kind, kind_of, count_of, length-listed}

-- how many characters fields take
abbrev pub chars : List Field → ℕ
chars [] = 0
chars (f ∷ fs) = width f + width f + chars fs

-- a field is written with two characters a byte
pub length-spell : (fs : List Field) → length (spell fs) ≡ chars fs
unfolding spell
length-spell [] = refl
length-spell (f ∷ fs) = rw (length-append, length-spelt, length-spell fs)

-- fields and fields behind them are written one behind the other
pub spell-append : (fs gs : List Field) → spell (fs ++ gs) ≡ spell fs ++ spell gs
unfolding spell
spell-append [] gs = refl
spell-append (f ∷ fs) gs = rw (spell-append fs gs) (sym (append_assoc (spelt (width f) (value f)) (spell fs) (spell gs)))

-- nothing written yet
pub put-none : (d : List ℕ) (at : ℕ) → d ≡ over d at (spell [])
unfolding over spell
put-none d at = rw (append-nil, add-zero) (sym (take-append-drop at d))

-- fields, and then more fields behind them
pub put_more : (d : List ℕ) {d₁ d₂ : List ℕ} (at : ℕ) (fs gs : List Field) → at + chars fs + chars gs ≤ length d
    → d₁ ≡ over d at (spell fs) → d₂ ≡ over d₁ (at + chars fs) (spell gs) → d₂ ≡ over d at (spell (fs ++ gs))
put_more d at fs gs h p q =
    q ∙ rw (p, spell-append fs gs, ← length-spell fs)
    (over-over d at (spell fs) (spell gs) (omega (arith, length-spell fs, length-spell gs)))

-- fields, and then one more field
pub put_next : (d : List ℕ) {d₁ d₂ : List ℕ} (at : ℕ) (fs : List Field) (f : Field) → at + chars fs + (width f + width f) ≤ length d
    → d₁ ≡ over d at (spell fs) → d₂ ≡ over d₁ (at + chars fs) (spelt (width f) (value f)) → d₂ ≡ over d at (spell (fs ++ (f ∷ [])))
unfolding spell
put_next d at fs f h p q = put_more d at fs (f ∷ []) (omega arith) p (q ∙ rw append-nil)

-- all fields, and then the line feed
pub put_ended : (d : List ℕ) {d₁ d₂ : List ℕ} (fs : List Field) → suc (chars fs) ≤ length d
    → d₁ ≡ over d 0 (spell fs) → d₂ ≡ over d₁ (chars fs) (10 ∷ []) → d₂ ≡ over d 0 (spell fs ++ (10 ∷ []))
put_ended d fs h p q =
    q ∙ rw (p, ← length-spell fs, ← zero-add (length (spell fs))) (over-over d 0 (spell fs) (10 ∷ []) (omega (arith, length-spell fs)))

-- so a frame
pub put-line : (d : List ℕ) {d₁ d₂ : List ℕ} (m : Message) → suc (chars (table m)) ≤ length d
    → d₁ ≡ over d 0 (spell (table m)) → d₂ ≡ over d₁ (chars (table m)) (10 ∷ []) → d₂ ≡ over d 0 (text m)
unfolding text
put-line d m h p q = put_ended d (table m) h p q

-- one character stored
pub stored_one : (d : List ℕ) (at c : ℕ) → at < length d → set d at c ≡ over d at (c ∷ [])
unfolding over
stored_one d at c h = sets-eq (c ∷ []) d at (omega (arith, add-one at))

-- the entries up to a place, and then the one there
pub listed_suc : (es : List Entry) (at n : ℕ) → listed es at (suc n) ≡ listed es at n ++ (get_or es (at + n) no_entry ∷ [])
unfolding listed
listed_suc es at zero = rw add-zero
listed_suc es at (suc n) = rw (listed_suc es (suc at) n, suc-add at n, add-suc at n)

-- the same, as the code counts
pub listed_more : (es : List Entry) (n : ℕ) → listed es 0 (n + 1) ≡ listed es 0 n ++ (get_or es n no_entry ∷ [])
listed_more es n = rw (add-one n, listed_suc es 0 n, zero-add)

-- entries and entries behind them have their fields so
pub entry_fields-append : (a b : List Entry) → entry_fields (a ++ b) ≡ entry_fields a ++ entry_fields b
unfolding entry_fields
entry_fields-append [] b = refl
entry_fields-append (e ∷ a) b = rw (entry_fields-append a b)

-- "entries of 12" bytes
pub chars-entries : (es : List Entry) → chars (entry_fields es) ≡ 24 * length es
unfolding entry_fields
chars-entries [] = refl
chars-entries (e ∷ es) = omega (arith, chars-entries es)

-- and so for the entries up to a place
pub chars-listed : (es : List Entry) (n : ℕ) → chars (entry_fields (listed es 0 n)) ≡ 24 * n
chars-listed es n = rw (chars-entries, length-listed)

-- the entries up to a place are written: then the next
pub put-entry-next : (d : List ℕ) {d₁ d₂ : List ℕ} (at : ℕ) (es : List Entry) (n : ℕ) → n < length es → at + 24 * length es ≤ length d
    → d₁ ≡ over d at (spell (entry_fields (take n es)))
    → d₂ ≡ over d₁ (at + 24 * n) (spell (entry_fields (get_or es n no_entry ∷ [])))
    → d₂ ≡ over d at (spell (entry_fields (take (n + 1) es)))
put-entry-next d {d₁} at es n i h p q =
    rw (take_more es n no_entry i, entry_fields-append (take n es) (get_or es n no_entry ∷ []))
    (put_more d at (entry_fields (take n es)) (entry_fields (get_or es n no_entry ∷ []))
    (omega (arith, long, chars-entries (get_or es n no_entry ∷ [])))
    p (q ∙ ap (λ (k : ℕ). over d₁ (at + k) (spell (entry_fields (get_or es n no_entry ∷ [])))) (sym long)))
  where
    long : chars (entry_fields (take n es)) ≡ 24 * n
    long = chars-entries (take n es) ∙ ap (λ (k : ℕ). 24 * k) (length-take-le n es (omega arith))

-- the same of listed entries
pub put-entry-listed : (d : List ℕ) {d₁ d₂ : List ℕ} (at : ℕ) (es : List Entry) (n : ℕ) → at + 24 * n + 24 ≤ length d
    → d₁ ≡ over d at (spell (entry_fields (listed es 0 n)))
    → d₂ ≡ over d₁ (at + 24 * n) (spell (entry_fields (get_or es n no_entry ∷ [])))
    → d₂ ≡ over d at (spell (entry_fields (listed es 0 (n + 1))))
put-entry-listed d {d₁} at es n h p q =
    rw (listed_more es n, entry_fields-append (listed es 0 n) (get_or es n no_entry ∷ []))
    (put_more d at (entry_fields (listed es 0 n)) (entry_fields (get_or es n no_entry ∷ []))
    (omega (arith, chars-listed es n, chars-entries (get_or es n no_entry ∷ [])))
    p (q ∙ ap (λ (k : ℕ). over d₁ (at + k) (spell (entry_fields (get_or es n no_entry ∷ [])))) (sym (chars-listed es n))))

-- ---- how long a frame is

-- its fields, and the line feed
pub text-long : (m : Message) → length (text m) ≡ suc (chars (table m))
unfolding text
text-long m = simp (length-append, length-spell) (omega arith)

-- 01's constant table of lengths is right
pub chars-table : (m : Message) → chars (table m) ≡ 2 * size (kind_of m) (count_of m)
unfolding table size
chars-table (vote_request from to term last_index last_term) = refl
chars-table (vote_answer from to term reply) = refl
chars-table (append from to term previous-index previous-term commit es) = omega (arith, chars-entries es)
chars-table (append_answer from to term reply index) = refl

-- so a frame is as long as its kind and count tell
pub length-text : (m : Message) → length (text m) ≡ text_size (size (kind_of m) (count_of m))
length-text m = omega (arith, text-long m, chars-table m)

-- Fields that are one frame, test by test.
pub record Whole (f : Fields) : Type 0 where
  pub few : f.count ≤ entry_limit
  pub least : 1 ≤ f.kind
  pub most : f.kind < 5
  pub obeyed : obeys (message_of f) ≡ true
  pub unused : fields_unused f ≡ true
  pub spare : entries_unused f.count f.entries ≡ true

-- it is the test that the writer makes
pub whole : (f : Fields) → one_frame f ≡ true → Whole f
unfolding one_frame
whole f h =
    let tests = four (leb f.count entry_limit && leb 1 f.kind && leb f.kind 4) (obeys (message_of f)) (fields_unused f) _ h in
    let limits = four true (leb f.count entry_limit) (leb 1 f.kind) (leb f.kind 4) tests.0 in
    record {
      few = leb-true f.count entry_limit limits.1;
      least = leb-true 1 f.kind limits.2;
      most = omega (arith, leb-true f.kind 4 limits.3);
      obeyed = tests.1;
      unused = tests.2;
      spare = tests.3;
    }

-- a kind that is none of the first three is the fourth
pub last_of_four : (f : Fields) → one_frame f ≡ true → (f.kind ≡ 1 → ⊥) → (f.kind ≡ 2 → ⊥) → (f.kind ≡ 3 → ⊥) → f.kind ≡ 4
last_of_four f h a b c = omega (arith, whole f h)

module _ (f : Fields) (h : one_frame f ≡ true) where
  -- the message that the fields tell has their kind
  kind-kept : kind_of (message_of f) ≡ f.kind
  unfolding by_kind
  kind-kept =
      at-kind (λ k. f.kind ≡ k → kind_of (message_of f) ≡ f.kind)
      (λ e. rw e) (λ e. rw e) (λ e. rw e) (λ e. rw e) f.kind (whole f h).least (whole f h).most refl

  -- and their count: only an append counts entries
  count_kept : count_of (message_of f) ≡ f.count
  unfolding by_kind
  count_kept =
      at-kind (λ k. f.kind ≡ k → count_of (message_of f) ≡ f.count)
      (λ e. rw e (sym (zeros 0 f.commit f.reply f.count (rw e at (whole f h).unused)).3))
      (λ e. rw e (sym (zeros f.index f.prior f.commit f.count (rw e at (whole f h).unused)).3))
      (λ e. rw e (length-listed f.entries 0 f.count))
      (λ e. rw e (sym (zeros 0 f.prior f.commit f.count (rw e at (whole f h).unused)).3))
      f.kind (whole f h).least (whole f h).most refl

  -- so the frame is as long as their kind and count tell
  pub text-bytes : length (text (message_of f)) ≡ text_size (size f.kind f.count)
  text-bytes = length-text (message_of f) ∙ rw (kind-kept, count_kept)

-- ---- the writer's answers

-- fields that are not one frame
pub written-not : (f : Fields) (d : List ℕ) → one_frame f ≡ false → ◌≡◌ {A = Wrote} (record { answer = Err NotAFrame; room = d }) (written f d)
unfolding written
written-not f d h = rw h

module _ (f : Fields) (d : List ℕ) (h : one_frame f ≡ true) where
  -- room that is too short
  pub written-short : length d < text_size (size f.kind f.count) → ◌≡◌ {A = Wrote} (record { answer = Err NoRoom; room = d }) (written f d)
  unfolding written
  written-short l = rw (h, lt-leb (length (text (message_of f))) (length d) (omega (arith, text-bytes f h)))

  -- otherwise the frame
  pub written-whole : {n : ℕ} {d₁ : List ℕ} → text_size (size f.kind f.count) ≤ length d → n ≡ text_size (size f.kind f.count)
      → d₁ ≡ over d 0 (text (message_of f)) → ◌≡◌ {A = Wrote} (record { answer = Ok n; room = d₁ }) (written f d)
  unfolding written
  written-whole l e w =
      rw (h, le-leb (length (text (message_of f))) (length d) (omega (arith, text-bytes f h)), e, w, text-bytes f h)

-- so whoever is answered a number has room for as many
pub written_fits : (f : Fields) (d : List ℕ) {d₁ : List ℕ} {n : ℕ} → ◌≡◌ {A = Wrote} (record { answer = Ok n; room = d₁ }) (written f d) → n ≤ length d
unfolding written
written_fits f d {d₁} {n} e = go (one_frame f) (leb (length (text (message_of f))) (length d)) refl _ _ _ refl refl refl e
  where
    go : (b l : Bool) → leb (length (text (message_of f))) (length d) ≡ l → (x y z : Wrote) → x.answer ≡ Ok (length (text (message_of f)))
        → y.answer ≡ Err NoRoom → z.answer ≡ Err NotAFrame
        → ◌≡◌ {A = Wrote} (record { answer = Ok n; room = d₁ }) (cond b (cond l x y) z) → n ≤ length d
    go true true h x y z p q r e =
        let same : n ≡ length (text (message_of f)) = cc (ap (λ (w : Wrote). w.answer) e) in
        omega (arith, leb-true (length (text (message_of f))) (length d) h)
    go true false h x y z p q r e = absurd (cc (ap (λ (w : Wrote). w.answer) e))
    go false l h x y z p q r e = absurd (cc (ap (λ (w : Wrote). w.answer) e))
