-- What the writer wrote, the reader reads as the same fields, with nothing left to assume of them: what the code's types say of the struct (`Typed`) follows from
-- what owning a value of the type tells (`Is`), which every call of `write` has at its entry. Assumes nothing.
use Prim.Native.Nat.{ℕ, zero, suc, ◌<◌}
use native.Mathlib.Omega.{arith}
use mathlib.Core.Path.{◌≡◌, refl, sym, ap, ◌∙◌}
use mathlib.Core.Bool.{Bool, true, false, cond}
use mathlib.Core.List.{List, [], ◌∷◌, ◌++◌}
use lib.Dec.{leb}
use lib.ListN.{length, take, get_or}
use mir.Val.{Val}
use denote.Shadow.{shadow}
use denote.Array.{each}
use denote.Laws.{Is}
use borrow.Fn.Kinds.{GoodsP}
use Rattle.std.specs.Prelude.{Ok, Err}
use Rattle.digits.specs.Room.{over}
use Rattle.frames.specs.declared.Entry.{Entry}
use Rattle.frames.specs.declared.Fields.{Fields}
use Rattle.frames.specs.declared.refusal.Refusal.TheVariants.{NotAFrame, NoRoom}
use Rattle.frames.specs.Message.{text}
use Rattle.frames.specs.Reading.{reading}
use Rattle.frames.specs.Fields.{no_entry, message_of, one_frame, answer}
use Rattle.frames.specs.Writing.{Wrote, written}
use Rattle.frames.proofs.OneSpelling.{Typed, read_back}
use Rattle.frames.specs.contracts.Entry as entry
use Rattle.frames.specs.contracts.Fields as fields
use Rattle.frame_writer.proofs.write.Kinds as kinds
use Rattle.frame_writer.proofs.write.Reads as write

-- an entry's term has 4 bytes and its order 8
abbrev Fit : Entry → Type 0
Fit e = (e.term < 4294967296) × (e.order < 18446744073709551616)

each_fits : (es : List Entry) (us : List Val) → shadow (each (entry.the_row).Denot (entry.the_row).own_val es us)
    → (i : ℕ) → Fit (get_or es i no_entry)
each_fits [] us h i = (omega arith, omega arith)
each_fits (e ∷ es) [] h i = absurd h
each_fits (e ∷ es) (u ∷ us) h zero = (h.0.1.1.0.1, h.0.1.1.1.0.1)
each_fits (e ∷ es) (u ∷ us) h (suc i) = each_fits es us h.1 i

-- **Whoever has a value of the struct's type has its numbers in their ranges.**
pub typed : (f : Fields) (vs : List Val) → Is fields.the_row f vs → Typed f
typed f vs h =
    let kind = h.1.1 in
    let from = kind.1 in
    let to = from.1 in
    let term = to.1 in
    let index = term.1 in
    let prior = index.1 in
    let commit = prior.1 in
    let reply = commit.1 in
    let count = reply.1 in
    let entries = count.1.0 in
    record {
      kind = kind.0.1;
      from = from.0.1;
      to = to.0.1;
      term = term.0.1;
      index = index.0.1;
      prior = prior.0.1;
      commit = commit.0.1;
      reply = reply.0.1;
      count = count.0.1;
      entries = entries.1.0.1;
      entry_term = λ i. (each_fits f.entries entries.0 entries.1.1 i).0;
      entry_order = λ i. (each_fits f.entries entries.0 entries.1.1 i).1;
    }

-- ---- what was written is read back

-- the front of a room that was written from its start
front : (t d : List ℕ) → take (length t) (t ++ d) ≡ t
front [] d = refl
front (x ∷ t) d = ap (λ (l : List ℕ). x ∷ l) (front t d)

-- `Ok` is answered to one frame, and then its text stands at the room's start, with as many bytes as the answer says.
pub record Stands (f : Fields) (bytes : ℕ) (w : Wrote) : Type 0 where
  pub one : one_frame f ≡ true
  pub there : take bytes w.room ≡ text (message_of f)

stands : (f : Fields) (room : List ℕ) (n : ℕ) → (written f room).answer ≡ Ok n → Stands f n (written f room)
unfolding written over
stands f room n = go (one_frame f) refl (leb (length (text (message_of f))) (length room)) _ _ _ (front (text (message_of f)) _) refl refl refl
  where
    go : (b : Bool) → one_frame f ≡ b → (l : Bool) (x y z : Wrote) → take (length (text (message_of f))) x.room ≡ text (message_of f)
        → x.answer ≡ Ok (length (text (message_of f))) → y.answer ≡ Err NoRoom → z.answer ≡ Err NotAFrame
        → (cond b (cond l x y) z).answer ≡ Ok n → Stands f n (cond b (cond l x y) z)
    go true h true x y z t o p q e =
        let long : length (text (message_of f)) ≡ n = cc in
        record { one = h; there = ap (λ (k : ℕ). take k x.room) (sym long) ∙ t }
    go true h false x y z t o p q e = absurd cc
    go false h l x y z t o p q e = absurd cc

-- **Whoever called `write`, with whatever fields, and was answered `Ok`: what `read` promises of the bytes that it wrote is those fields.** (`good` is what
-- owning the arguments tells; every call has it.)
pub reads-back : (κs : _) (a : _) → GoodsP κs kinds.ps a → (r : _) (s : _) → write.Post κs a r s → (bytes : ℕ) → r ≡ Ok bytes
    → answer (reading (take bytes s.0.now)) ≡ Ok a.1.0
reads-back κs a good r s p bytes z =
    let f : Fields = a.1.0 in
    let w = stands f a.0.now bytes (sym (ap (λ (x : Wrote). x.answer) p) ∙ z) in
    ap (λ (x : Wrote). answer (reading (take bytes x.room))) p
    ∙ ap (λ (l : List ℕ). answer (reading l)) w.there
    ∙ read_back f (typed f _ good.1.0) w.one
