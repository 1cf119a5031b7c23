-- Why the old struct is never kept with the new log (docs/HOST.md, 3): the box would say yes to an entry that its file does not hold. Box 2 of three holds an entry of
-- term 1 and has voted in term 3. An append of term 3 puts an entry of term 2 in that place; its line is not written, and the old struct is kept with the arrays that
-- the call left. The same frame comes again: now there is nothing to write, and the box says yes; but its file opens with the entry of term 1. Assumes nothing.
use Rattle.std.specs.Prelude.{ℕ, ◌+◌, ◌≡◌, refl, true, List, [], ◌∷◌, length}
use Rattle.std.proofs.Common.{arith, sym, ap, ◌∙◌}
use mathlib.Core.List.Memᴰ
use Rattle.digits.specs.Room.{over}
use Rattle.frames.specs.declared.Entry.{Entry}
use Rattle.frames.specs.Message.{Message, vote_request, vote_answer, append, append_answer, text}
use Rattle.frames.specs.Rules.{in_order}
use Rattle.raft.specs.Record.{State, fresh, with_log, is_vote, is_role, are_votes, is_progress, sends_to, good}
use Rattle.raft.proofs.RecordLaws.{fresh-good}
use Rattle.raft.specs.Journal.{head, journaled, same_stored, kept}
use Rattle.raft.specs.Sends.{texts}
use Rattle.raft.specs.AnyMessage.{taking}
use Rattle.raft.specs.VoteRequest.{voting}
use Rattle.raft.specs.Append.{joining}
use Rattle.raft.specs.Outcome.{done}
use Rattle.raft.specs.Event.{Event, receives, step}
use Rattle.raft.proofs.EventLaws.{step-good}
use Rattle.raft.specs.LentLaws.{length-entries_of}
use Rattle.journal.specs.Opening.{restarted, opened, opening}
use Rattle.journal.specs.Runs.{by_event}
use Rattle.journal.proofs.StepLine.{journaled-none}
use Rattle.journal.proofs.LifeLaws.{Life, life_opens}
use Rattle.safety.specs.Park.{Comes, frames}
use Rattle.safety.proofs.Elects.{arrives}
use Rattle.safety.proofs.Commits.{opens}
use Rattle.record.specs.Calls.{entries_of, terms_of, orders_of, with_entries, state_of, record_of}
use Rattle.record.specs.SameLaws.{next-lent}
use Rattle.host.specs.Host.{Running, on, Call, frames_in}
use Rattle.host.specs.CallLaws.{record_of_box, call-steps}
use Rattle.host.specs.Seen.{log_in}
use Rattle.host.proofs.Hosted.{the_call, call_0}

-- The old struct with what a call left in the arrays; file and place as they were.
abbrev pub old_struct : {network : List (List ℕ)} (b : Running) → Call network b → Running
old_struct b c = record { node = b.node; terms = c.terms_left; orders = c.orders_left; disk = b.disk; place = b.place }

-- What is shown: a box whose file is of its life, two calls of one frame, and no more than this between them.
pub record SaysYes (held offered : Entry) : Type 0 where
  pub network : List (List ℕ)
  pub box : Running
  pub file : Life 2 7 (record_of_box box) box.place box.disk
  pub first : Call network box
  pub first_0 : first.answer.refusal ≡ 0
  pub second : Call network (old_struct box first)
  pub second_0 : second.answer.refusal ≡ 0
  pub same_frame : second.event ≡ first.event
  -- there is nothing to write, and the answer is yes, up to index 1,
  pub no_line : second.answer.line ≡ 0
  pub says : frames_in second ≡ text (append_answer 2 3 3 1 1) ∷ []
  -- where the arrays have the entry that was offered,
  pub holds : log_in (on (old_struct box first)) ≡ offered ∷ []
  -- but the file opens with the one before.
  pub found : State
  pub count : ℕ
  pub file_opens : opening 2 box.disk ≡ opened found count
  pub lacks : found.log ≡ held ∷ []

-- The entry that it holds, and the one that it is offered.
abbrev pub held : Entry
held = record { term = 1; order = 50 }

abbrev pub offered : Entry
offered = record { term = 2; order = 60 }

-- ---- the box

-- It takes an entry from the leader of term 1,
abbrev taken_up : State
taken_up = joining (taking 1 (fresh 2 7)) 0 0 (held ∷ [])

step_1 : step (receives (text (append 1 2 1 0 0 0 (held ∷ [])))) (fresh 2 7) ≡ done taken_up (append_answer 2 1 1 1 1 ∷ [])
unfolding opens
step_1 = arrives (fresh 2 7) taken_up (append 1 2 1 0 0 0 (held ∷ [])) (append_answer 2 1 1 1 1 ∷ []) refl (omega arith) refl

-- votes for box 3 in term 3,
abbrev voted : State
voted = voting (taking 3 taken_up) 3

step_2 : step (receives (text (vote_request 3 2 3 1 2))) taken_up ≡ done voted (vote_answer 2 3 3 1 ∷ [])
unfolding opens
step_2 = arrives taken_up voted (vote_request 3 2 3 1 2) (vote_answer 2 3 3 1 ∷ []) refl (omega arith) refl

-- and is offered another entry in its place.
abbrev frame : Event
frame = receives (text (append 3 2 3 0 0 0 (offered ∷ [])))

abbrev answer : List Message
answer = append_answer 2 3 3 1 1 ∷ []

abbrev replaced : State
replaced = joining voted 0 0 (offered ∷ [])

step_3 : step frame voted ≡ done replaced answer
unfolding opens
step_3 = arrives voted replaced (append 3 2 3 0 0 0 (offered ∷ [])) answer refl (omega arith) refl

-- The old struct with the new log, at the same frame.
abbrev mixed : State
mixed = with_log (offered ∷ []) voted

abbrev mixed_on : State
mixed_on = joining mixed 0 0 (offered ∷ [])

step_4 : step frame mixed ≡ done mixed_on answer
unfolding opens
step_4 = arrives mixed mixed_on (append 3 2 3 0 0 0 (offered ∷ [])) answer refl (omega arith) refl

nothing-new : journaled mixed mixed_on ≡ []
unfolding opens same_stored kept
nothing-new = journaled-none mixed mixed_on refl

-- ---- its file, and what the host has of it

abbrev disk_1 : List ℕ
disk_1 = over (head 2 7) 9 (journaled (fresh 2 7) taken_up)

abbrev place_1 : ℕ
place_1 = 9 + length (journaled (fresh 2 7) taken_up)

abbrev its_disk : List ℕ
its_disk = over disk_1 place_1 (journaled taken_up voted)

abbrev its_place : ℕ
its_place = place_1 + length (journaled taken_up voted)

its_life : Life 2 7 voted its_place its_disk
unfolding opens
its_life = Life.steps (Life.steps (Life.starts refl) (by_event (receives (text (append 1 2 1 0 0 0 (held ∷ [])))) _ tt step_1))
    (by_event (receives (text (vote_request 3 2 3 1 2))) _ tt step_2)

abbrev its_box : Running
its_box =
    record {
      node = record { state = record_of voted };
      terms = over [] 0 (terms_of voted.log);
      orders = over [] 0 (orders_of voted.log);
      disk = its_disk;
      place = its_place;
    }

its_record : record_of_box its_box ≡ voted
its_record = next-lent voted [] []

voted-good : good voted ≡ true
unfolding opens
voted-good =
    step-good (receives (text (vote_request 3 2 3 1 2))) taken_up
    (step-good (receives (text (append 1 2 1 0 0 0 (held ∷ [])))) (fresh 2 7) (fresh-good 2 7 refl) taken_up _ step_1) voted _ step_2

-- ---- the first call

abbrev sent : List (List ℕ)
sent = text (append 3 2 3 0 0 0 (offered ∷ [])) ∷ []

came : Comes sent frame
came = Memᴰ.head refl

call_1 : Call sent its_box
call_1 = the_call sent its_box frame came (journaled (record_of_box its_box) replaced) (texts answer)

call_1_0 : call_1.answer.refusal ≡ 0
unfolding call_1
call_1_0 = call_0 sent its_box frame came replaced answer (ap good its_record ∙ voted-good) (ap (step frame) its_record ∙ step_3)

-- it leaves the new log in the arrays,
new-log : entries_of call_1.terms_left call_1.orders_left 0 1 ≡ offered ∷ []
unfolding opens call_1 the_call
new-log =
    let s = call-steps call_1 call_1_0 in
    let e = sym (ap (step frame) its_record ∙ step_3) ∙ s.steps in
    let same : replaced ≡ state_of call_1.answer.node.state call_1.terms_left call_1.orders_left = cc in
    let log = ap (λ (t : State). t.log) same in
    let long : call_1.answer.node.state.last ≡ 1 =
    omega (arith, ap length log, length-entries_of call_1.terms_left call_1.orders_left 0 call_1.answer.node.state.last) in
    ap (entries_of call_1.terms_left call_1.orders_left 0) (sym long) ∙ sym log

-- so the old struct with it is the mixed record,
abbrev old_box : Running
old_box = old_struct its_box call_1

mixed_record : record_of_box old_box ≡ mixed
unfolding opens
mixed_record = ap (with_entries (record_of voted)) new-log

-- ---- the second call

mixed-good : good mixed ≡ true
unfolding opens good in_order is_role are_votes is_progress sends_to is_vote
mixed-good = refl

call_2 : Call sent old_box
call_2 = the_call sent old_box frame came (journaled (record_of_box old_box) mixed_on) (texts answer)

call_2_0 : call_2.answer.refusal ≡ 0
unfolding call_2
call_2_0 = call_0 sent old_box frame came mixed_on answer (ap good mixed_record ∙ mixed-good) (ap (step frame) mixed_record ∙ step_4)

-- it comes to what the step comes to
call_2_step : step frame (record_of_box old_box) ≡ done (state_of call_2.answer.node.state call_2.terms_left call_2.orders_left) (call-steps call_2 call_2_0).messages
unfolding call_2 the_call
call_2_step = (call-steps call_2 call_2_0).steps

call_2_known : step frame (record_of_box old_box) ≡ done mixed_on answer
call_2_known = ap (step frame) mixed_record ∙ step_4

call_2_line : call_2.answer.line ≡ 0
call_2_line =
    let e = call_2_step in
    let f = call_2_known in
    let same : state_of call_2.answer.node.state call_2.terms_left call_2.orders_left ≡ mixed_on = cc in
    (call-steps call_2 call_2_0).long ∙ ap (λ (t : State). length (journaled (record_of_box old_box) t)) same
    ∙ ap (λ (s : State). length (journaled s mixed_on)) mixed_record ∙ ap length nothing-new

call_2_says : frames_in call_2 ≡ text (append_answer 2 3 3 1 1) ∷ []
unfolding frames
call_2_says =
    let e = call_2_step in
    let f = call_2_known in
    let same : (call-steps call_2 call_2_0).messages ≡ answer = cc in
    (call-steps call_2 call_2_0).leave ∙ ap frames same

-- **So it is.**
pub says_yes_and-lacks : SaysYes held offered
unfolding opens restarted call_1 call_2 the_call
says_yes_and-lacks =
    record {
      network = sent;
      box = its_box;
      file = rw its_record its_life;
      first = call_1;
      first_0 = call_1_0;
      second = call_2;
      second_0 = call_2_0;
      same_frame = refl;
      no_line = call_2_line;
      says = call_2_says;
      holds = new-log;
      found = restarted voted;
      count = its_place;
      file_opens = life_opens 2 7 voted its_place its_disk its_life;
      lacks = refl;
    }
