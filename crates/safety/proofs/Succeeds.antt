-- That a later leader may follow: the leader of Commits has committed an order in term 1, box 2 stands, and box 3's vote makes it leader of term 2,
-- while box 1 leads term 1 still. Assumes nothing.
use Rattle.std.specs.Prelude.{ℕ, ◌≡◌, refl, [], ◌∷◌}
use Rattle.std.proofs.Common.{arith}
use mathlib.Core.List.Memᴰ
use Rattle.frames.specs.Message.{Message, vote_request, vote_answer}
use Rattle.raft.specs.Record.{State, fresh, handed_out}
use Rattle.raft.specs.Commit.{settle}
use Rattle.raft.specs.Sends.{vote_requests, appends}
use Rattle.raft.specs.Timeout.{standing}
use Rattle.raft.specs.Winning.{winner}
use Rattle.raft.specs.AnyMessage.{taking}
use Rattle.raft.specs.VoteRequest.{voting}
use Rattle.raft.specs.VoteAnswer.{adding}
use Rattle.raft.specs.Event.{times_out}
use Rattle.safety.specs.Park.{Park, after, Move, steps, Run, stays, moves, run_both, Reached, Leads}
use Rattle.safety.proofs.Elects.{gets, blank_of, third_reached}
use Rattle.safety.proofs.Commits.{opens, entry, page, joined_up, sixth, commit_run}

-- Box 2 stands,
abbrev pub box_2_stands : State
box_2_stands = standing joined_up

abbrev pub two_asks : Park
two_asks = after sixth 2 box_2_stands (vote_requests box_2_stands)

unfoldable pub to_two_asks : Move 7 sixth two_asks
unfolding opens
to_two_asks = steps 2 refl times_out tt box_2_stands (vote_requests box_2_stands) refl

-- box 3 gives it its vote,
abbrev pub request_2 : Message
request_2 = vote_request 2 3 2 2 1

abbrev pub box_3_votes : State
box_3_votes = voting (taking 2 (fresh 3 7)) 2

abbrev pub three_votes : Park
three_votes = after two_asks 3 box_3_votes (vote_answer 3 2 2 1 ∷ [])

unfoldable pub to_three_votes : Move 7 two_asks three_votes
unfolding opens
to_three_votes =
    gets 3 refl request_2 (Memᴰ.tail (Memᴰ.head refl)) box_3_votes (vote_answer 3 2 2 1 ∷ []) refl (omega arith) refl

-- and box 2 leads.
abbrev pub box_2_leads : State
box_2_leads = settle (winner (adding box_2_stands 3))

abbrev pub two_leads : Park
two_leads = after three_votes 2 box_2_leads (appends box_2_leads)

unfoldable pub to_two_leads : Move 7 three_votes two_leads
unfolding opens
to_two_leads = gets 2 refl (vote_answer 3 2 2 1) (Memᴰ.head refl) box_2_leads (appends box_2_leads) refl (omega arith) refl

-- the run in which it comes to lead
unfoldable pub succeed_run : Run 7 sixth two_leads
succeed_run = moves (moves (moves stays to_two_asks) to_three_votes) to_two_leads

-- Box 1 leads term 1 and box 2 term 2,
pub leads_1 : Leads (sixth.box 1) 1
unfolding opens
leads_1 = record { role = refl; in_term = refl }

pub still_leads_1 : Leads (two_leads.box 1) 1
unfolding opens
still_leads_1 = record { role = refl; in_term = refl }

pub leads_2 : Leads (two_leads.box 2) 2
unfolding opens
leads_2 = record { role = refl; in_term = refl }

-- **and what the one has committed the other holds,** with its own blank behind it.
pub succeeds : (handed_out (sixth.box 1) ≡ page) × ((two_leads.box 2).log ≡ blank_of 1 ∷ entry ∷ blank_of 2 ∷ [])
unfolding opens
succeeds = (refl, refl)

-- **Two terms may have two leaders,** also at one moment: `one_leader` for any two terms is false.
pub terms_differ : ((p q : Park) → Reached 7 p → Run 7 p q → (i j term : ℕ) → Leads (p.box i) term → Leads (q.box j) (q.box j).term → i ≡ j) → ⊥
unfolding opens
terms_differ claim =
    let same : ◌≡◌ {A = ℕ} 1 2 = claim sixth two_leads (run_both third_reached commit_run) succeed_run 1 2 1 leads_1 (record { role = refl; in_term = refl }) in
    omega arith
