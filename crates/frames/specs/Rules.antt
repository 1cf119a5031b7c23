-- 01, the paragraph under the table of kinds: which fields are one frame. Each clause of 01 is one clause here. Assumes nothing.
use Rattle.std.specs.Prelude.{ℕ, ◌+◌, Bool, ◌&&◌, ◌||◌, List, [], ◌∷◌, eqb, ltb, leb, length}
use Rattle.frames.specs.declared.Entry.{Entry}
use Rattle.frames.specs.Limits.{boxes, log_limit, entry_limit}
use Rattle.frames.specs.Message.{Message, vote_request, vote_answer, append, append_answer}

-- "Boxes 1 to 7"
abbrev pub is_box : ℕ → Bool
is_box i = leb 1 i && leb i boxes

-- "indexes at most 256"
abbrev pub is_index : ℕ → Bool
is_index i = leb i log_limit

-- "yes 0 or 1"
abbrev pub is_reply : ℕ → Bool
is_reply y = leb y 1

-- "an index is 0 exactly when its term is"
abbrev pub is_pair : ℕ → ℕ → Bool
is_pair index term = (eqb index 0 && eqb term 0) || (leb 1 index && leb 1 term)

-- "Boxes 1 to 7; term at least 1"
abbrev pub is_start : ℕ → ℕ → ℕ → Bool
is_start from to term = is_box from && is_box to && leb 1 term

-- One step of the entry rule: a term, the previous one first, and the entry's term that follows it.
abbrev pub follows : ℕ → ℕ → ℕ → Bool
follows last term next = leb last term && leb 1 next && leb last next

-- The entry rule: "previous term and the entry terms never fall, entry terms at least 1, none of them, previous term included,
-- above term". The journal's lines have the same rule.
unfoldable pub in_order : ℕ → ℕ → List Entry → Bool
in_order previous term [] = leb previous term
in_order previous term (e ∷ es) = follows previous term e.term && in_order e.term term es

-- The rules of each kind. "Kind 1: last term below term." "Kind 3: count at most 4, previous index + count at most 256" and the
-- entry rule. "Kind 4: a no names index 0."
abbrev pub obeys : Message → Bool
obeys (vote_request from to term last_index last_term) =
    is_start from to term && is_index last_index && is_pair last_index last_term && ltb last_term term
obeys (vote_answer from to term reply) = is_start from to term && is_reply reply
obeys (append from to term previous-index previous-term commit es) =
    is_start from to term && is_index previous-index && is_pair previous-index previous-term && is_index commit
    && leb (length es) entry_limit && leb (previous-index + length es) log_limit && in_order previous-term term es
obeys (append_answer from to term reply index) =
    is_start from to term && is_reply reply && is_index index && (eqb reply 1 || eqb index 0)
