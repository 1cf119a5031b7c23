-- 01, 'The box's record': what a box holds, the fresh box, and the rules that a record keeps. Assumes nothing.
use Rattle.std.specs.Prelude.{ℕ, zero, suc, ◌+◌, ◌-◌, Bool, false, cond, ◌&&◌, ◌||◌, List, [], ◌∷◌, eqb, ltb, leb, length, get_or, take}
use Rattle.frames.specs.declared.Entry.{Entry}
use Rattle.frames.specs.Limits.{masks, log_limit}
use Rattle.frames.specs.Rules.{is_box, in_order}
use Rattle.frames.specs.Fields.{no_entry}
use Rattle.raft.specs.Majority.{holds, within}

-- Roles, by number.
abbrev pub follower : ℕ
follower = 0

abbrev pub candidate : ℕ
candidate = 1

abbrev pub leader : ℕ
leader = 2

-- What a leader alone has: next and match for each box, box i's at place i-1.
pub record Lead : Type 0 where
  pub next : List ℕ
  pub matched : List ℕ

-- Stored: term, vote, log. Not stored: role, votes got, commit, and what a leader has.
pub record State : Type 0 where
  pub me : ℕ
  pub members : ℕ
  pub term : ℕ
  pub vote : ℕ
  pub log : List Entry
  pub commit : ℕ
  pub role : ℕ
  pub votes : ℕ
  pub lead : Lead

-- "indexes from 1": the last index, and the term of the entry at an index, 0 at the start.
abbrev pub last_index : State → ℕ
last_index s = length s.log

unfoldable pub term_at : List Entry → ℕ → ℕ
term_at log zero = 0
term_at log (suc i) = (get_or log i no_entry).term

abbrev pub last_term : State → ℕ
last_term s = term_at s.log (last_index s)

-- What is kept for box i.
abbrev pub of_box : List ℕ → ℕ → ℕ
of_box list i = get_or list (i - 1) 0

-- Another member.
unfoldable pub is_other : ℕ → ℕ → ℕ → Bool
is_other me members i = cond (eqb i me) false (holds members i)

-- A number for each of the seven boxes, and a zero for each.
abbrev pub of_each : (ℕ → ℕ) → List ℕ
of_each f = f 1 ∷ f 2 ∷ f 3 ∷ f 4 ∷ f 5 ∷ f 6 ∷ f 7 ∷ []

abbrev pub zeros : List ℕ
zeros = of_each (λ i. 0)

-- "Next and match are 0 unless leader": what everybody else has in their place.
abbrev pub no_lead : Lead
no_lead = record { next = zeros; matched = zeros }

-- "A fresh box stands in term 0, has voted for nobody, has an empty log and is a follower."
unfoldable pub fresh : ℕ → ℕ → State
fresh me members =
    record { me = me; members = members; term = 0; vote = 0; log = []; commit = 0; role = follower; votes = 0; lead = no_lead }

-- ---- changes of a record: a setter for each part. Nowhere else are a record's fields listed.

abbrev pub with_term : ℕ → State → State
with_term term s = record { me = s.me; members = s.members; term = term; vote = s.vote; log = s.log; commit = s.commit; role = s.role; votes = s.votes; lead = s.lead }

abbrev pub with_vote : ℕ → State → State
with_vote vote s = record { me = s.me; members = s.members; term = s.term; vote = vote; log = s.log; commit = s.commit; role = s.role; votes = s.votes; lead = s.lead }

abbrev pub with_log : List Entry → State → State
with_log log s = record { me = s.me; members = s.members; term = s.term; vote = s.vote; log = log; commit = s.commit; role = s.role; votes = s.votes; lead = s.lead }

abbrev pub with_commit : ℕ → State → State
with_commit commit s = record { me = s.me; members = s.members; term = s.term; vote = s.vote; log = s.log; commit = commit; role = s.role; votes = s.votes; lead = s.lead }

abbrev pub with_role : ℕ → State → State
with_role role s = record { me = s.me; members = s.members; term = s.term; vote = s.vote; log = s.log; commit = s.commit; role = role; votes = s.votes; lead = s.lead }

abbrev pub with_votes : ℕ → State → State
with_votes votes s = record { me = s.me; members = s.members; term = s.term; vote = s.vote; log = s.log; commit = s.commit; role = s.role; votes = votes; lead = s.lead }

abbrev pub with_lead : Lead → State → State
with_lead lead s = record { me = s.me; members = s.members; term = s.term; vote = s.vote; log = s.log; commit = s.commit; role = s.role; votes = s.votes; lead = lead }

-- The three roles, each with what goes with it.
abbrev pub as_follower : State → State
as_follower s = with_role follower (with_votes 0 (with_lead no_lead s))

abbrev pub as_candidate : ℕ → State → State
as_candidate votes s = with_role candidate (with_votes votes (with_lead no_lead s))

abbrev pub as_leader : Lead → State → State
as_leader lead s = with_role leader (with_votes 0 (with_lead lead s))

-- ---- the rules, in 01's order

-- "bit 7 is 0, the mask is not 0 and holds the box itself"
unfoldable pub is_membership : ℕ → ℕ → Bool
is_membership me members = is_box me && ltb members masks && holds members me

-- "vote, 0 or a member"
unfoldable pub is_vote : ℕ → ℕ → Bool
is_vote members vote = eqb vote 0 || (is_box vote && holds members vote)

-- A role is one of the three; "a candidate or leader has voted for itself, in a term of at least 1."
unfoldable pub is_role : ℕ → ℕ → ℕ → ℕ → Bool
is_role role term vote me = eqb role follower || (leb role leader && eqb vote me && leb 1 term)

-- "Votes are 0 unless candidate, then members with itself among them."
unfoldable pub are_votes : ℕ → ℕ → ℕ → ℕ → Bool
are_votes role votes members me = cond (eqb role candidate) (within votes members && holds votes me) (eqb votes 0)

-- "Next and match are 0 unless leader, and 0 for itself and non-members; for the others match is below next, and next is at most
-- last index + 1."
unfoldable pub is_progress : Bool → ℕ → ℕ → ℕ → Bool
is_progress sends last next matched = cond sends (ltb matched next && leb next (last + 1)) (eqb next 0 && eqb matched 0)

unfoldable pub sends_to : State → ℕ → Bool
sends_to s i = eqb s.role leader && is_other s.me s.members i

abbrev pub has_progress : State → ℕ → Bool
has_progress s i = is_progress (sends_to s i) (last_index s) (of_box s.lead.next i) (of_box s.lead.matched i)

-- Every rule of a record; "Commit is at most the last index" among them. It says nothing of how large a term or an order may be: in the code a term is
-- a u32 and an order a u64, 8 bytes, so that they are below 2^32 and 2^64 in whatever record and log is lent.
unfoldable pub good : State → Bool
good s =
    is_membership s.me s.members && is_vote s.members s.vote && leb (last_index s) log_limit
    && in_order 0 s.term s.log && leb s.commit (last_index s) && is_role s.role s.term s.vote s.me
    && are_votes s.role s.votes s.members s.me
    && has_progress s 1 && has_progress s 2 && has_progress s 3 && has_progress s 4 && has_progress s 5 && has_progress s 6 && has_progress s 7

-- "Handed out: entries 1 to commit."
unfoldable pub handed_out : State → List Entry
handed_out s = take s.commit s.log
