-- 01, 'When the box says no', to be held beside the table: each row's condition in 01's words, the order in which the rows are checked, and of each row
-- that its number is answered exactly when the row holds and none of those that are checked before it. That all of it holds is proved in `ExactlyWhenLaws`;
-- rows 10 and 11 are opening's, in `journal/proofs/OpeningExactly`. Assumes nothing.
use Rattle.std.specs.Prelude.{ℕ, ◌≡◌, Bool, true, false, not, ◌&&◌, ◌||◌, List, [], ◌∷◌, eqb, ltb, leb, length}
use Rattle.frames.specs.declared.Fields.{Fields}
use Rattle.frames.specs.Limits.{log_limit}
use Rattle.frames.specs.Refusal.{code}
use Rattle.frames.specs.Message.{Message, vote_request, vote_answer, append, append_answer, text}
use Rattle.frames.specs.Reading.{is_frame, message_in}
use Rattle.frames.specs.Fields.{message_of, one_frame}
use Rattle.frames.specs.Writing.{written}
use Rattle.raft.specs.Majority.{holds}
use Rattle.raft.specs.Record.{State, leader, last_index, is_membership, good}
use Rattle.raft.specs.Timeout.{last_of_terms}
use Rattle.raft.specs.Order.{blank}
use Rattle.raft.specs.Sends.{texts}
use Rattle.raft.specs.Journal.{head, journaled}
use Rattle.raft.specs.Outcome.{Outcome, done, refuse}
use Rattle.raft.specs.Append.{lacks, cuts_committed}
use Rattle.raft.specs.Receive.{sender, receiver}
use Rattle.raft.specs.Event.{Event, times_out, takes_order, is_prompted, receives, step}
use Rattle.raft.specs.Exactly.{Exactly, Row, row, None, First}
use Rattle.record.specs.declared.Record.{Record}
use Rattle.record.specs.Calls.{state_of, Called, call, begun, handed}

-- ---- what is asked

-- A call: the event, the struct, the lent log, and the room for the journal line and for the messages.
pub record Asked : Type 0 where
  pub event : Event
  pub box : Record
  pub terms : List ℕ
  pub orders : List ℕ
  pub journal : List ℕ
  pub messages : List ℕ

-- The box's record.
abbrev pub state : Asked → State
state a = state_of a.box a.terms a.orders

-- What the call leaves, and the number that it answers.
abbrev pub left_by : Asked → Called
left_by a = call a.event a.box a.terms a.orders a.journal a.messages

abbrev pub Answers : Asked → ℕ → Type 0
Answers a n = (left_by a).answer.refusal ≡ n

-- The kinds of events.
abbrev pub is_order : Event → Bool
is_order times_out = false
is_order (takes_order o) = true
is_order is_prompted = false
is_order (receives bytes) = false

abbrev pub is_prompt : Event → Bool
is_prompt times_out = false
is_prompt (takes_order o) = false
is_prompt is_prompted = true
is_prompt (receives bytes) = false

abbrev pub is_timeout : Event → Bool
is_timeout times_out = true
is_timeout (takes_order o) = false
is_timeout is_prompted = false
is_timeout (receives bytes) = false

-- Bytes arrive, and they are not one frame;
abbrev pub no_frame : Event → Bool
no_frame times_out = false
no_frame (takes_order o) = false
no_frame is_prompted = false
no_frame (receives bytes) = not (is_frame bytes)

-- or they are one, and its message passes a test.
abbrev pub a_frame : Event → (Message → Bool) → Bool
a_frame times_out test = false
a_frame (takes_order o) test = false
a_frame is_prompted test = false
a_frame (receives bytes) test = is_frame bytes && test (message_in bytes)

abbrev pub leads : State → Bool
leads s = eqb s.role leader

-- ---- the rows, in the table's order

-- 1: "the bytes .. are not one frame"
abbrev pub not_one_frame : Asked → Bool
not_one_frame a = no_frame a.event

-- 2: "not to this box, from itself, or from a non-member"
abbrev pub astray : State → Message → Bool
astray s m = not (eqb (receiver m) s.me) || eqb (sender m) s.me || not (holds s.members (sender m))

abbrev pub not_for_this_box : Asked → Bool
not_for_this_box a = a_frame a.event (astray (state a))

-- 3: "order or prompt, not leader"
abbrev pub not_leader : Asked → Bool
not_leader a = (is_order a.event || is_prompt a.event) && not (leads (state a))

-- 4: "order, log holds 256"
abbrev pub log_full : Asked → Bool
log_full a = is_order a.event && eqb (last_index (state a)) log_limit

-- 5: "the .. journal line or messages are longer than the room left", those of a step that is done
abbrev pub longer : List ℕ → List ℕ → Bool
longer text room = ltb (length room) (length text)

abbrev pub overflows : Asked → Outcome → Bool
overflows a (done t sent) = longer (journaled (state a) t) a.journal || longer (texts sent) a.messages
overflows a (refuse number) = false

abbrev pub too_long : Asked → Bool
too_long a = overflows a (step a.event (state a))

-- 6: "alarm: append of the box's own term, and it leads"
abbrev pub of_own_term : State → Message → Bool
of_own_term s (vote_request from to term index prior) = false
of_own_term s (vote_answer from to term reply) = false
of_own_term s (append from to term index prior commit es) = eqb term s.term && leads s
of_own_term s (append_answer from to term reply index) = false

abbrev pub second_leader : Asked → Bool
second_leader a = a_frame a.event (of_own_term (state a))

-- 7: "alarm: an append of no lower term would cut at or below commit"; it cuts nothing where the log lacks the previous entry. (`cuts-handed_out` of
-- `ExactlyWhenLaws`: the log that it would leave no longer begins with all that is handed out.)
abbrev pub cuts : State → Message → Bool
cuts s (vote_request from to term index prior) = false
cuts s (vote_answer from to term reply) = false
cuts s (append from to term index prior commit es) = leb s.term term && not (lacks s.log index prior) && cuts_committed s index es
cuts s (append_answer from to term reply index) = false

abbrev pub would_cut : Asked → Bool
would_cut a = a_frame a.event (cuts (state a))

-- 8: "alarm: at a leader, an append answer yes of its term names an index past its log"
abbrev pub names_past : State → Message → Bool
names_past s (vote_request from to term index prior) = false
names_past s (vote_answer from to term reply) = false
names_past s (append from to term index prior commit es) = false
names_past s (append_answer from to term reply index) = leads s && eqb reply 1 && eqb term s.term && ltb (last_index s) index

abbrev pub past_its_log : Asked → Bool
past_its_log a = a_frame a.event (names_past (state a))

-- 9: "timeout at a non-leader in the last term"
abbrev pub in_last_term : Asked → Bool
in_last_term a = is_timeout a.event && not (leads (state a)) && eqb (state a).term last_of_terms

-- 12: "an event: the record breaks a rule above"
abbrev pub breaks_a_rule : Asked → Bool
breaks_a_rule a = not (good (state a))

-- 13: T-01, "A client order of eight zeros"
abbrev pub of_zeros : Event → Bool
of_zeros times_out = false
of_zeros (takes_order o) = eqb o blank
of_zeros is_prompted = false
of_zeros (receives bytes) = false

abbrev pub client_blank : Asked → Bool
client_blank a = of_zeros a.event

-- ---- the table

-- "Checked in the order 12, 1, 2, 3, 4, 9, 6, 7, 8, 5"; T-01: 13 "checked after 3 and before 4"
abbrev pub checked : List (Row Asked)
checked =
    row 12 breaks_a_rule ∷ row 1 not_one_frame ∷ row 2 not_for_this_box ∷ row 3 not_leader ∷ row 13 client_blank ∷ row 4 log_full
    ∷ row 9 in_last_term ∷ row 6 second_leader ∷ row 7 would_cut ∷ row 8 past_its_log ∷ row 5 too_long ∷ []

-- "Given exactly when", of a call. (`First a r before`: r holds of the call, and nothing of `before` does.)
pub record Table (a : Asked) : Type 0 where
  pub row_0 : Exactly (Answers a 0)
      (None a (breaks_a_rule ∷ not_one_frame ∷ not_for_this_box ∷ not_leader ∷ client_blank ∷ log_full ∷ in_last_term ∷ second_leader ∷ would_cut ∷ past_its_log ∷ too_long ∷ []))
  pub row_1 : Exactly (Answers a 1) (First a not_one_frame (breaks_a_rule ∷ []))
  pub row_2 : Exactly (Answers a 2) (First a not_for_this_box (breaks_a_rule ∷ not_one_frame ∷ []))
  pub row_3 : Exactly (Answers a 3) (First a not_leader (breaks_a_rule ∷ not_one_frame ∷ not_for_this_box ∷ []))
  pub row_4 : Exactly (Answers a 4) (First a log_full (breaks_a_rule ∷ not_one_frame ∷ not_for_this_box ∷ not_leader ∷ client_blank ∷ []))
  pub row_5 : Exactly (Answers a 5) (First a too_long
      (breaks_a_rule ∷ not_one_frame ∷ not_for_this_box ∷ not_leader ∷ client_blank ∷ log_full ∷ in_last_term ∷ second_leader ∷ would_cut ∷ past_its_log ∷ []))
  pub row_6 : Exactly (Answers a 6) (First a second_leader
      (breaks_a_rule ∷ not_one_frame ∷ not_for_this_box ∷ not_leader ∷ client_blank ∷ log_full ∷ in_last_term ∷ []))
  pub row_7 : Exactly (Answers a 7) (First a would_cut
      (breaks_a_rule ∷ not_one_frame ∷ not_for_this_box ∷ not_leader ∷ client_blank ∷ log_full ∷ in_last_term ∷ second_leader ∷ []))
  pub row_8 : Exactly (Answers a 8) (First a past_its_log
      (breaks_a_rule ∷ not_one_frame ∷ not_for_this_box ∷ not_leader ∷ client_blank ∷ log_full ∷ in_last_term ∷ second_leader ∷ would_cut ∷ []))
  pub row_9 : Exactly (Answers a 9) (First a in_last_term (breaks_a_rule ∷ not_one_frame ∷ not_for_this_box ∷ not_leader ∷ client_blank ∷ log_full ∷ []))
  pub row_12 : Exactly (Answers a 12) (First a breaks_a_rule [])
  pub row_13 : Exactly (Answers a 13) (First a client_blank (breaks_a_rule ∷ not_one_frame ∷ not_for_this_box ∷ not_leader ∷ []))

-- ---- starting, writing, and what is handed out

-- A start: box, mask, and the room for the head.
pub record Starting : Type 0 where
  pub me : ℕ
  pub mask : ℕ
  pub journal : List ℕ

abbrev pub Begins : Starting → ℕ → Type 0
Begins a n = (begun a.me a.mask a.journal).answer.refusal ≡ n

-- 12: "starting: bad box or mask"
abbrev pub bad_box_or_mask : Starting → Bool
bad_box_or_mask a = not (is_membership a.me a.mask)

-- 5: "the head .. longer than the room left"
abbrev pub head_too_long : Starting → Bool
head_too_long a = longer (head a.me a.mask) a.journal

abbrev pub start_checked : List (Row Starting)
start_checked = row 12 bad_box_or_mask ∷ row 5 head_too_long ∷ []

pub record StartTable (a : Starting) : Type 0 where
  pub row_0 : Exactly (Begins a 0) (None a (bad_box_or_mask ∷ head_too_long ∷ []))
  pub row_5 : Exactly (Begins a 5) (First a head_too_long (bad_box_or_mask ∷ []))
  pub row_12 : Exactly (Begins a 12) (First a bad_box_or_mask [])

-- A frame to be written: its fields, and the room.
pub record Writing : Type 0 where
  pub fields : Fields
  pub room : List ℕ

abbrev pub Writes : Writing → ℕ → Type 0
Writes a n = code (written a.fields a.room).answer ≡ n

-- 1: "the .. fields to be written, are not one frame"
abbrev pub not_fields : Writing → Bool
not_fields a = not (one_frame a.fields)

-- 5, for a writer's room
abbrev pub frame_too_long : Writing → Bool
frame_too_long a = longer (text (message_of a.fields)) a.room

abbrev pub write_checked : List (Row Writing)
write_checked = row 1 not_fields ∷ row 5 frame_too_long ∷ []

pub record WriteTable (a : Writing) : Type 0 where
  pub row_0 : Exactly (Writes a 0) (None a (not_fields ∷ frame_too_long ∷ []))
  pub row_1 : Exactly (Writes a 1) (First a not_fields [])
  pub row_5 : Exactly (Writes a 5) (First a frame_too_long (not_fields ∷ []))

-- What is handed out is asked: of the struct and the lent log.
pub record Handing : Type 0 where
  pub box : Record
  pub terms : List ℕ
  pub orders : List ℕ

abbrev pub Hands : Handing → ℕ → Type 0
Hands a n = (handed a.box a.terms a.orders).refusal ≡ n

-- 12: "the record breaks a rule above"
abbrev pub bad_record : Handing → Bool
bad_record a = not (good (state_of a.box a.terms a.orders))

abbrev pub hand_checked : List (Row Handing)
hand_checked = row 12 bad_record ∷ []

pub record HandTable (a : Handing) : Type 0 where
  pub row_0 : Exactly (Hands a 0) (None a (bad_record ∷ []))
  pub row_12 : Exactly (Hands a 12) (First a bad_record [])
