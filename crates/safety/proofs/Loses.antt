-- Why the old struct is never kept with the new log (docs/HOST.md, 3): an order that a leader has committed and handed out is lost. Box 1 of Commits has
-- entries of term 1 that nobody else has, and has taken term 2; box 2 leads term 2 by box 3's vote and takes an order. Its append, the blank and the order,
-- replaces box 1's entries, but the line of that step is not written, and box 1 goes on with its old struct and the new log. The append comes again: nothing
-- is to be written, box 1 says yes, and box 2 commits. Power fails at box 1; it comes back by its journal, which has the old entries, and leads term 3 with
-- them. Assumes nothing.
use Rattle.std.specs.Prelude.{ℕ, ◌≤◌, ◌≡◌, refl, true, List, [], ◌∷◌, get_or}
use Rattle.std.proofs.Common.{arith, ap}
use mathlib.Core.List.Memᴰ
use Rattle.frames.specs.declared.Entry.{Entry}
use Rattle.frames.specs.Message.{Message, vote_request, vote_answer, append, append_answer, text}
use Rattle.raft.specs.Record.{State, fresh, with_log, is_membership, handed_out}
use Rattle.raft.specs.Journal.{kept, same_stored}
use Rattle.raft.specs.Commit.{settle}
use Rattle.raft.specs.Sends.{vote_requests, appends}
use Rattle.raft.specs.Outcome.{done}
use Rattle.raft.specs.Timeout.{standing}
use Rattle.raft.specs.Winning.{winner}
use Rattle.raft.specs.Order.{ordered}
use Rattle.raft.specs.AnyMessage.{taking}
use Rattle.raft.specs.VoteRequest.{voting}
use Rattle.raft.specs.VoteAnswer.{adding}
use Rattle.raft.specs.Append.{joining}
use Rattle.raft.specs.AppendAnswer.{heard}
use Rattle.raft.specs.Event.{Event, times_out, takes_order, receives, step}
use Rattle.journal.specs.Opening.{restarted}
use Rattle.history.specs.Begins.{Begins}
use Rattle.safety.specs.Park.{Park, Comes, after, Move, steps, Run, stays, moves, run_both, Reached, Leads}
use Rattle.safety.proofs.Elects.{arrives, gets, blank_of, box_2_votes, third_reached}
use Rattle.safety.proofs.Commits.{opens as opens-orders, entry, added, fourth, to_fourth}

-- To open this is to open every step.
opens : Unit {0}
unfolding opens-orders restarted
opens = tt

-- ---- up to the write that fails

-- Box 2 stands,
abbrev stands_2 : State
stands_2 = standing box_2_votes

abbrev asks_2 : Park
asks_2 = after fourth 2 stands_2 (vote_requests stands_2)

-- box 1 takes its term, and says no,
abbrev old_1 : State
old_1 = taking 2 added

abbrev told_1 : Park
told_1 = after asks_2 1 old_1 (vote_answer 1 2 2 0 ∷ [])

-- box 3 votes for it,
abbrev votes_3 : State
votes_3 = voting (taking 2 (fresh 3 7)) 2

abbrev yea_3 : Park
yea_3 = after told_1 3 votes_3 (vote_answer 3 2 2 1 ∷ [])

-- it leads,
abbrev leads_2 : State
leads_2 = settle (winner (adding stands_2 3))

abbrev led_2 : Park
led_2 = after yea_3 2 leads_2 (appends leads_2)

-- and takes an order.
abbrev others : List Entry
others = blank_of 2 ∷ record { term = 2; order = 60 } ∷ []

abbrev added_2 : State
added_2 = settle (ordered leads_2 60)

abbrev taken_2 : Park
taken_2 = after led_2 2 added_2 (appends added_2)

to-told_1 : Move 7 asks_2 told_1
unfolding opens
to-told_1 = gets 1 refl (vote_request 2 1 2 0 0) (Memᴰ.head refl) old_1 (vote_answer 1 2 2 0 ∷ []) refl (omega arith) refl

to-yea_3 : Move 7 told_1 yea_3
unfolding opens
to-yea_3 =
    gets 3 refl (vote_request 2 3 2 0 0) (Memᴰ.tail (Memᴰ.tail (Memᴰ.head refl))) votes_3 (vote_answer 3 2 2 1 ∷ []) refl (omega arith) refl

to-led_2 : Move 7 yea_3 led_2
unfolding opens
to-led_2 = gets 2 refl (vote_answer 3 2 2 1) (Memᴰ.head refl) leads_2 (appends leads_2) refl (omega arith) refl

before-run : Run 7 fourth taken_2
unfolding opens
before-run =
    moves (moves (moves (moves (moves stays (steps 2 refl times_out tt stands_2 (vote_requests stands_2) refl)) to-told_1) to-yea_3) to-led_2)
    (steps 2 refl (takes_order 60) (omega arith) added_2 (appends added_2) refl)

-- Its append comes to box 1,
abbrev offer_2 : Message
offer_2 = append 2 1 2 0 0 0 others

abbrev new_1 : State
new_1 = joining old_1 0 0 others

offered : step (receives (text offer_2)) (taken_2.box 1) ≡ done new_1 (append_answer 1 2 2 1 2 ∷ [])
unfolding opens
offered = arrives old_1 new_1 offer_2 (append_answer 1 2 2 1 2 ∷ []) refl (omega arith) refl

-- ---- the old struct with the new log

abbrev mixed : State
mixed = with_log new_1.log old_1

abbrev mixed_up : Park
mixed_up = after taken_2 1 mixed []

-- says yes to the same append, with nothing to write,
abbrev again_1 : State
again_1 = joining mixed 0 0 others

abbrev said : Park
said = after mixed_up 1 again_1 (append_answer 1 2 2 1 2 ∷ [])

-- and box 2 commits.
abbrev done_2 : State
done_2 = settle (heard added_2 1 1 2)

abbrev committed_2 : Park
committed_2 = after said 2 done_2 []

mixed-run : Run 7 mixed_up committed_2
unfolding opens
mixed-run =
    moves (moves stays (gets 1 refl offer_2 (Memᴰ.head refl) again_1 (append_answer 1 2 2 1 2 ∷ []) refl (omega arith) refl))
    (gets 2 refl (append_answer 1 2 2 1 2) (Memᴰ.head refl) done_2 [] refl (omega arith) refl)

-- ---- back by the journal

abbrev back : Park
back = after committed_2 1 (restarted old_1) []

-- it stands in term 3,
abbrev stands_1 : State
stands_1 = standing (restarted old_1)

abbrev asks_1 : Park
asks_1 = after back 1 stands_1 (vote_requests stands_1)

-- box 3 votes for it,
abbrev again_3 : State
again_3 = voting (taking 3 votes_3) 1

abbrev yea_1 : Park
yea_1 = after asks_1 3 again_3 (vote_answer 3 1 3 1 ∷ [])

-- and it leads.
abbrev leads_1 : State
leads_1 = settle (winner (adding stands_1 3))

abbrev led_1 : Park
led_1 = after yea_1 1 leads_1 (appends leads_1)

back-run : Run 7 back led_1
unfolding opens
back-run =
    moves
    (moves (moves stays (steps 1 refl times_out tt stands_1 (vote_requests stands_1) refl))
    (gets 3 refl (vote_request 1 3 3 2 1) (Memᴰ.tail (Memᴰ.head refl)) again_3 (vote_answer 3 1 3 1 ∷ []) refl (omega arith) refl))
    (gets 1 refl (vote_answer 3 1 3 1) (Memᴰ.head refl) leads_1 (appends leads_1) refl (omega arith) refl)

-- **Where a box keeps its old struct with the log that a step left, and comes back by its journal (in which nothing was written since), "every leader holds what
-- was committed in earlier terms" is false.**
pub loses : ((p q r : Park) → Reached 7 p → (k : ℕ) → is_membership k 7 ≡ true → (e : Event) → Comes p.sent e → (t : State) (ms : List Message)
    → step e (p.box k) ≡ done t ms → Run 7 (after p k (with_log t.log (p.box k)) []) q
    → same_stored (with_log t.log (p.box k)) (q.box k) ≡ true → Run 7 (after q k (restarted (p.box k)) []) r
    → (i j s u : ℕ) → Leads (q.box i) s → Leads (r.box j) u → s ≤ u → Begins (handed_out (q.box i)) (r.box j).log) → ⊥
unfolding opens same_stored kept
loses claim =
    let b : Begins others (blank_of 1 ∷ entry ∷ blank_of 3 ∷ []) =
    claim taken_2 committed_2 led_1 (run_both (moves third_reached to_fourth) before-run) 1 refl (receives (text offer_2)) (Memᴰ.head refl)
    new_1 (append_answer 1 2 2 1 2 ∷ []) offered mixed-run refl back-run 2 1 2 3
    (record { role = refl; in_term = refl }) (record { role = refl; in_term = refl }) (omega arith) in
    let never : ◌≡◌ {A = ℕ} 1 2 = ap (λ (l : List Entry). (get_or l 0 entry).term) b.first in
    omega (arith, never)
