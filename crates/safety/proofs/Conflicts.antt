-- That a conflict may cut entries: the leader of Elects takes an order that nobody else has; box 2 leads term 2 by box 3's vote, and its first append, with
-- its blank, cuts the order out of box 1's log. Assumes nothing.
use Rattle.std.proofs.Common.{arith}
use Rattle.std.specs.Prelude.{◌≡◌, refl, [], ◌∷◌}
use mathlib.Core.List.Memᴰ
use Rattle.frames.specs.Message.{Message, vote_request, vote_answer, append, append_answer}
use Rattle.raft.specs.Record.{State, fresh}
use Rattle.raft.specs.Commit.{settle}
use Rattle.raft.specs.Sends.{vote_requests, appends}
use Rattle.raft.specs.Timeout.{standing}
use Rattle.raft.specs.Winning.{winner}
use Rattle.raft.specs.AnyMessage.{taking}
use Rattle.raft.specs.VoteRequest.{voting}
use Rattle.raft.specs.VoteAnswer.{adding}
use Rattle.raft.specs.Append.{joining}
use Rattle.raft.specs.Event.{times_out}
use Rattle.safety.specs.Park.{Park, after, Move, steps, Run, stays, moves, run_both, Reached}
use Rattle.safety.proofs.Elects.{gets, blank_of, box_2_votes, third_reached}
use Rattle.safety.proofs.Commits.{opens, page, added, fourth, to_fourth}

-- Box 2 stands,
abbrev stands_2 : State
stands_2 = standing box_2_votes

abbrev asks_2 : Park
asks_2 = after fourth 2 stands_2 (vote_requests stands_2)

to-asks_2 : Move 7 fourth asks_2
unfolding opens
to-asks_2 = steps 2 refl times_out tt stands_2 (vote_requests stands_2) refl

-- box 3 gives it its vote,
abbrev ask : Message
ask = vote_request 2 3 2 0 0

abbrev votes_3 : State
votes_3 = voting (taking 2 (fresh 3 7)) 2

abbrev yea_3 : Park
yea_3 = after asks_2 3 votes_3 (vote_answer 3 2 2 1 ∷ [])

to-yea_3 : Move 7 asks_2 yea_3
unfolding opens
to-yea_3 = gets 3 refl ask (Memᴰ.tail (Memᴰ.head refl)) votes_3 (vote_answer 3 2 2 1 ∷ []) refl (omega arith) refl

-- and it leads.
abbrev leads_2 : State
leads_2 = settle (winner (adding stands_2 3))

abbrev led_2 : Park
led_2 = after yea_3 2 leads_2 (appends leads_2)

to-led_2 : Move 7 yea_3 led_2
unfolding opens
to-led_2 = gets 2 refl (vote_answer 3 2 2 1) (Memᴰ.head refl) leads_2 (appends leads_2) refl (omega arith) refl

-- Its append comes to box 1,
abbrev offer_2 : Message
offer_2 = append 2 1 2 0 0 0 (blank_of 2 ∷ [])

abbrev cut_1 : State
cut_1 = joining (taking 2 added) 0 0 (blank_of 2 ∷ [])

abbrev cut : Park
cut = after led_2 1 cut_1 (append_answer 1 2 2 1 1 ∷ [])

to-cut : Move 7 led_2 cut
unfolding opens
to-cut = gets 1 refl offer_2 (Memᴰ.head refl) cut_1 (append_answer 1 2 2 1 1 ∷ []) refl (omega arith) refl

conflict_run : Run 7 fourth cut
conflict_run = moves (moves (moves (moves stays to-asks_2) to-yea_3) to-led_2) to-cut

-- **and cuts the order out of its log.**
pub conflicts : Reached 7 cut × ((led_2.box 1).log ≡ page) × ((cut.box 1).log ≡ blank_of 2 ∷ [])
unfolding opens
conflicts = (run_both (moves third_reached to_fourth) conflict_run, refl, refl)
