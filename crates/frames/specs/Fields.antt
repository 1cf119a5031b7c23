-- The struct that the code has for a message, and what it stands for. Assumes nothing.
use Rattle.std.specs.Prelude.{ℕ, zero, suc, Bool, ◌&&◌, ◌||◌, List, [], ◌∷◌, eqb, ltb, leb, length, get_or, Result, Ok, Err}
use Rattle.frames.specs.declared.Entry.{Entry}
use Rattle.frames.specs.declared.Fields.{Fields}
use Rattle.frames.specs.declared.refusal.Refusal.{Refusal}
use Rattle.frames.specs.declared.refusal.Refusal.TheVariants.{NotAFrame}
use Rattle.frames.specs.Limits.{entry_limit}
use Rattle.frames.specs.Message.{Message, vote_request, vote_answer, append, append_answer, by_kind}
use Rattle.frames.specs.Rules.{obeys}
use Rattle.frames.specs.Reading.{Reading, frame, refused}

abbrev pub no_entry : Entry
no_entry = record { term = 0; order = 0 }

-- So many entries of the struct's four, from a place on.
unfoldable pub listed : List Entry → ℕ → ℕ → List Entry
listed es at zero = []
listed es at (suc n) = get_or es at no_entry ∷ listed es (suc at) n

-- The message that the fields tell: those of its kind, and as many entries as it counts.
abbrev pub message_of : Fields → Message
message_of f =
    by_kind f.kind (vote_request f.from f.to f.term f.index f.prior)
    (vote_answer f.from f.to f.term f.reply)
    (append f.from f.to f.term f.index f.prior f.commit (listed f.entries 0 f.count))
    (append_answer f.from f.to f.term f.reply f.index)

-- The four places for entries, with zeros where there is none.
abbrev pub places : List Entry → List Entry
places es = get_or es 0 no_entry ∷ get_or es 1 no_entry ∷ get_or es 2 no_entry ∷ get_or es 3 no_entry ∷ []

-- The fields that tell a message: what its kind does not have is 0.
unfoldable pub fields_of : Message → Fields
fields_of (vote_request from to term last_index last_term) =
    record { kind = 1; from = from; to = to; term = term; index = last_index; prior = last_term; commit = 0; reply = 0; count = 0; entries = places [] }
fields_of (vote_answer from to term reply) =
    record { kind = 2; from = from; to = to; term = term; index = 0; prior = 0; commit = 0; reply = reply; count = 0; entries = places [] }
fields_of (append from to term previous-index previous-term commit es) =
    record { kind = 3; from = from; to = to; term = term; index = previous-index; prior = previous-term; commit = commit; reply = 0; count = length es; entries = places es }
fields_of (append_answer from to term reply index) =
    record { kind = 4; from = from; to = to; term = term; index = index; prior = 0; commit = 0; reply = reply; count = 0; entries = places [] }

-- What a kind does not have is 0: fields, and entries past the count.
abbrev pub is_unused : ℕ → ℕ → Entry → Bool
is_unused count at e = ltb at count || (eqb e.term 0 && eqb e.order 0)

abbrev pub entries_unused : ℕ → List Entry → Bool
entries_unused count es =
    is_unused count 0 (get_or es 0 no_entry) && is_unused count 1 (get_or es 1 no_entry)
    && is_unused count 2 (get_or es 2 no_entry) && is_unused count 3 (get_or es 3 no_entry)

abbrev pub fields_unused : Fields → Bool
fields_unused f =
    by_kind f.kind (eqb f.commit 0 && eqb f.reply 0 && eqb f.count 0)
    (eqb f.index 0 && eqb f.prior 0 && eqb f.commit 0 && eqb f.count 0)
    (eqb f.reply 0)
    (eqb f.prior 0 && eqb f.commit 0 && eqb f.count 0)

-- The fields are one frame: at most four entries, a kind of the four, the rules of the kind, and nothing that the kind does not have.
unfoldable pub one_frame : Fields → Bool
one_frame f =
    leb f.count entry_limit && leb 1 f.kind && leb f.kind 4 && obeys (message_of f)
    && fields_unused f && entries_unused f.count f.entries

-- The reader's answer as the code gives it.
unfoldable pub answer : Reading → Result Fields Refusal
answer (frame m) = Ok (fields_of m)
answer refused = Err NotAFrame
