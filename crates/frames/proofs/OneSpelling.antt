-- A frame has one spelling: the reader takes exactly the bytes that the writer makes, and each undoes the other.
-- (`IsSized`: each number fits the bytes of its field.) Assumes nothing.
use Rattle.std.specs.Prelude.{ℕ, ◌≤◌, ◌<◌, ◌≡◌, refl, Bool, true, false, cond, List, [], ◌∷◌, length, get_or, Ok}
use Rattle.std.proofs.Common.{arith, sym, ap, ◌∙◌, le-leb}
use Rattle.digits.specs.Room.{over}
use Rattle.digits.specs.Tests.{and_right}
use Rattle.frames.specs.declared.Fields.{Fields}
use Rattle.frames.specs.Limits.{entry_limit}
use Rattle.frames.specs.Message.{Message, vote_request, vote_answer, append, append_answer, by_kind, entry_fields, table, IsSized, text}
use Rattle.frames.specs.Rules.{obeys}
use Rattle.frames.specs.Reading.{shaped, message_in, is_frame, Reading, frame, refused, reading}
use Rattle.frames.specs.Fields.{no_entry, listed, message_of, fields_of, one_frame, answer}
use Rattle.frames.specs.Writing.{written}
use Rattle.frames.specs.Laws.{at-kind, length-listed}
use Rattle.frames.proofs.ReadingLaws.{message_told, obeys-few}
use Rattle.frames.specs.WritingLaws.{whole}
use Rattle.frames.proofs.Spelling.{sized-listed, reading-text, sized-reading, text-reading, fields_told}

-- ---- of messages

-- The reader gives a message only for the bytes that spell it, a message that obeys the rules and whose numbers fit their fields.
pub frame_exactly : (s : List ℕ) (m : Message) → reading s ≡ frame m → (obeys m ≡ true) × IsSized (table m) × (s ≡ text m)
unfolding reading is_frame
frame_exactly s m r = go (is_frame s) refl r
  where
    go : (b : Bool) → is_frame s ≡ b → cond b (frame (message_in s)) refused ≡ frame m → (obeys m ≡ true) × IsSized (table m) × (s ≡ text m)
    go true h e =
        let same : message_in s ≡ m = cc in
        rw (← same) (and_right (shaped s) _ h, sized-reading s h, sym (text-reading s h))
    go false h e = absurd (let never : ◌≡◌ {A = ℕ} 0 1 = cc in omega arith)

-- And it gives it for those bytes.
pub frame-when : (s : List ℕ) (m : Message) → obeys m ≡ true → IsSized (table m) → s ≡ text m → reading s ≡ frame m
frame-when s m o z e = ap reading e ∙ reading-text m z o

-- What the reader refuses is the spelling of no such message.
pub refused_exactly : (s : List ℕ) → reading s ≡ refused → (m : Message) → obeys m ≡ true → IsSized (table m) → s ≡ text m → ⊥
refused_exactly s r m o z e = let never : ◌≡◌ {A = ℕ} 0 1 = cc (frame-when s m o z e) in omega arith

-- What is the spelling of no such message the reader refuses.
pub refused-when : (s : List ℕ) → ((m : Message) → obeys m ≡ true → IsSized (table m) → s ≡ text m → ⊥) → reading s ≡ refused
refused-when s none = go (reading s) refl
  where
    go : (r : Reading) → reading s ≡ r → reading s ≡ refused
    go (frame m) e = let x = frame_exactly s m e in absurd (none m x.0 x.1 x.2)
    go refused e = e

-- Two such messages with the same bytes are the same message.
pub one_spelling : (m n : Message) → obeys m ≡ true → IsSized (table m) → obeys n ≡ true → IsSized (table n) → text m ≡ text n → m ≡ n
one_spelling m n o z p y e = cc (frame-when (text m) m o z refl, frame-when (text m) n p y e)

-- ---- of the struct that the code reads and writes

-- What the code's types say of the struct: whoever has a value of it has this (`typed` of `frame_writer/proofs/ReadBack`), so no caller has to show it.
pub record Typed (f : Fields) : Type 0 where
  pub kind : f.kind < 256
  pub from : f.from < 256
  pub to : f.to < 256
  pub term : f.term < 4294967296
  pub index : f.index < 65536
  pub prior : f.prior < 4294967296
  pub commit : f.commit < 65536
  pub reply : f.reply < 256
  pub count : f.count < 256
  pub entries : length f.entries ≡ entry_limit
  pub entry_term : (i : ℕ) → (get_or f.entries i no_entry).term < 4294967296
  pub entry_order : (i : ℕ) → (get_or f.entries i no_entry).order < 18446744073709551616

-- So the numbers of a struct that is one frame fit their fields.
pub sized-told : (f : Fields) → Typed f → one_frame f ≡ true → IsSized (table (message_of f))
unfolding by_kind table IsSized
sized-told f t h =
    at-kind (λ k. f.kind ≡ k → IsSized (table (message_of f)))
    (λ e. rw e (omega arith, (omega arith, (t.from, (t.to, (t.term, (t.index, (t.prior, tt))))))))
    (λ e. rw e (omega arith, (omega arith, (t.from, (t.to, (t.term, (t.reply, tt)))))))
    (λ e. rw e (omega arith, (omega arith, (t.from, (t.to, (t.term, (t.index, (t.prior, (t.commit, (counted, entries_fit))))))))))
    (λ e. rw e (omega arith, (omega arith, (t.from, (t.to, (t.term, (t.reply, (t.index, tt))))))))
    f.kind (whole f h).least (whole f h).most refl
  where
    counted : length (listed f.entries 0 f.count) < 256
    counted = rw length-listed t.count

    entries_fit : IsSized (entry_fields (listed f.entries 0 f.count))
    entries_fit = sized-listed f.entries (λ i. (t.entry_term i, t.entry_order i)) 0 f.count

-- What the writer wrote, the reader reads as the same fields.
pub read_back : (f : Fields) → Typed f → one_frame f ≡ true → answer (reading (text (message_of f))) ≡ Ok f
unfolding answer
read_back f t h = rw (reading-text (message_of f) (sized-told f t h) (whole f h).obeyed, fields_told f t.entries h)

-- The fields that were read can be written.
pub one_frame-of : (m : Message) → obeys m ≡ true → one_frame (fields_of m) ≡ true
unfolding one_frame fields_of by_kind listed
one_frame-of (vote_request from to term last_index last_term) o = rw o
one_frame-of (vote_answer from to term reply) o = rw o
one_frame-of (append from to term previous-index previous-term commit []) o = rw o
one_frame-of (append from to term previous-index previous-term commit (a ∷ [])) o = rw o
one_frame-of (append from to term previous-index previous-term commit (a ∷ b ∷ [])) o = rw o
one_frame-of (append from to term previous-index previous-term commit (a ∷ b ∷ c ∷ [])) o = rw o
one_frame-of (append from to term previous-index previous-term commit (a ∷ b ∷ c ∷ d ∷ [])) o = rw o
one_frame-of (append from to term previous-index previous-term commit (a ∷ b ∷ c ∷ d ∷ e ∷ es)) o =
    absurd (omega (arith, obeys-few (append from to term previous-index previous-term commit (a ∷ b ∷ c ∷ d ∷ e ∷ es)) o))
one_frame-of (append_answer from to term reply index) o = rw o

-- What the reader read, the writer writes as the same bytes.
pub write_back : (s room : List ℕ) → is_frame s ≡ true → length s ≤ length room
    → written (fields_of (message_in s)) room ≡ record { answer = Ok (length s); room = over room 0 s }
unfolding written is_frame
write_back s room h l =
    let obeyed : obeys (message_in s) ≡ true = and_right (shaped s) _ h in
    rw (one_frame-of (message_in s) obeyed, message_told (message_in s) (obeys-few (message_in s) obeyed), text-reading s h, le-leb _ _ l)
