-- 01, 'Frames and journal lines': the four messages, and the text of each. Assumes nothing.
use Rattle.std.specs.Prelude.{ℕ, ◌^◌, ◌<◌, cond, List, [], ◌∷◌, ◌++◌, eqb, length}
use Rattle.digits.specs.Digits.{spelt}
use Rattle.frames.specs.declared.Entry.{Entry}

pub data Message : Type 0 where
  vote_request : (from to term last_index last_term : ℕ) → Message
  vote_answer : (from to term reply : ℕ) → Message
  append : (from to term previous-index previous-term commit : ℕ) (entries : List Entry) → Message
  append_answer : (from to term reply index : ℕ) → Message

-- One of four by the kind's number. (Whatever is no kind is refused before anybody asks; here it goes with 4.)
unfoldable pub by_kind : {A : Type 0} → ℕ → A → A → A → A → A
by_kind kind a b c d = cond (eqb kind 1) a (cond (eqb kind 2) b (cond (eqb kind 3) c d))

-- A field of so many bytes with its number, or the 8 bytes of an order as they stand (their number, the first byte highest).
pub data Field : Type 0 where
  number : (width n : ℕ) → Field
  order : (n : ℕ) → Field

abbrev pub width : Field → ℕ
width (number w n) = w
width (order n) = 8

abbrev pub value : Field → ℕ
value (number w n) = n
value (order n) = n

-- "Every frame starts: 01, kind, from, to, term (4)."
abbrev pub start : ℕ → ℕ → ℕ → ℕ → List Field → List Field
start kind from to term rest = number 1 1 ∷ number 1 kind ∷ number 1 from ∷ number 1 to ∷ number 4 term ∷ rest

-- "entries of 12": a term (4 bytes) and an order (8 bytes).
unfoldable pub entry_fields : List Entry → List Field
entry_fields [] = []
entry_fields (e ∷ es) = number 4 e.term ∷ order e.order ∷ entry_fields es

-- 01's table of kinds, column 'Then'.
unfoldable pub table : Message → List Field
table (vote_request from to term last_index last_term) = start 1 from to term (number 2 last_index ∷ number 4 last_term ∷ [])
table (vote_answer from to term reply) = start 2 from to term (number 1 reply ∷ [])
table (append from to term previous-index previous-term commit es) =
    start 3 from to term (number 2 previous-index ∷ number 4 previous-term ∷ number 2 commit ∷ number 1 (length es) ∷ entry_fields es)
table (append_answer from to term reply index) = start 4 from to term (number 1 reply ∷ number 2 index ∷ [])

-- The digits of fields, one behind the other.
unfoldable pub spell : List Field → List ℕ
spell [] = []
spell (f ∷ fs) = spelt (width f) (value f) ++ spell fs

-- Each number fits the bytes of its field.
unfoldable pub IsSized : List Field → Type 0
IsSized [] = Unit {0}
IsSized (f ∷ fs) = (value f < 256 ^ width f) × IsSized fs

-- "ended by one line feed (0a)"
abbrev pub line_feed : ℕ
line_feed = 10

-- A frame's bytes.
unfoldable pub text : Message → List ℕ
text m = spell (table m) ++ (line_feed ∷ [])
