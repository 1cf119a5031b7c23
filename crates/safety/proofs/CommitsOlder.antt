-- What the blank is for (02, T-01): an order of an older term is handed out while no client sends anything. Box 1 of Commits has taken an order in term 1;
-- boxes 2 and 3 store it, their answers are lost, and box 1 is silent. Box 2 leads term 2 by box 3's vote, box 3 says yes to its first append, and box 2
-- commits its blank, and the order with it. With these very events a park stood still before T-01: box 2 had no entry of term 2, and 01 rules out "An older
-- term's entry committed by counting copies". (Of every run: `GoesOn`.) Assumes nothing.
use Rattle.std.proofs.Common.{arith}
use Rattle.std.specs.Prelude.{◌≡◌, refl, [], ◌∷◌}
use mathlib.Core.List.Memᴰ
use Rattle.frames.specs.Message.{Message, vote_answer, append, append_answer}
use Rattle.raft.specs.Record.{State, fresh, handed_out}
use Rattle.raft.specs.Commit.{settle}
use Rattle.raft.specs.Sends.{vote_requests, appends}
use Rattle.raft.specs.Winning.{leading}
use Rattle.raft.specs.AnyMessage.{taking}
use Rattle.raft.specs.VoteRequest.{voting}
use Rattle.raft.specs.VoteAnswer.{adding}
use Rattle.raft.specs.Append.{joining}
use Rattle.raft.specs.AppendAnswer.{heard}
use Rattle.raft.specs.Event.{times_out}
use Rattle.safety.specs.Park.{Park, after, Move, steps, Run, stays, moves, run_both, Reached}
use Rattle.safety.proofs.Elects.{gets, blank_of, third, third_reached}
use Rattle.safety.proofs.Commits.{opens, entry, page, fifth, to_fourth, to_fifth}
use Rattle.safety.proofs.Succeeds.{box_2_stands, request_2, box_2_leads}

-- Box 3 stores the order as box 2 does: all boxes have it, and nobody has committed it.
abbrev holds_3 : State
holds_3 = joining (taking 1 (fresh 3 7)) 0 0 page

abbrev stored : Park
stored = after fifth 3 holds_3 (append_answer 3 1 1 1 2 ∷ [])

to-stored : Move 7 fifth stored
unfolding opens
to-stored =
    gets 3 refl (append 1 3 1 0 0 0 page) (Memᴰ.tail (Memᴰ.tail (Memᴰ.head refl))) holds_3 (append_answer 3 1 1 1 2 ∷ []) refl (omega arith) refl

-- Box 2 stands,
abbrev stood : Park
stood = after stored 2 box_2_stands (vote_requests box_2_stands)

to-stood : Move 7 stored stood
unfolding opens
to-stood = steps 2 refl times_out tt box_2_stands (vote_requests box_2_stands) refl

-- box 3 gives it its vote,
abbrev votes_3 : State
votes_3 = voting (taking 2 holds_3) 2

abbrev voted : Park
voted = after stood 3 votes_3 (vote_answer 3 2 2 1 ∷ [])

to-voted : Move 7 stood voted
unfolding opens
to-voted = gets 3 refl request_2 (Memᴰ.tail (Memᴰ.head refl)) votes_3 (vote_answer 3 2 2 1 ∷ []) refl (omega arith) refl

-- and it leads.
abbrev led_2 : Park
led_2 = after voted 2 box_2_leads (appends box_2_leads)

to-led_2 : Move 7 voted led_2
unfolding opens
to-led_2 = gets 2 refl (vote_answer 3 2 2 1) (Memᴰ.head refl) box_2_leads (appends box_2_leads) refl (omega arith) refl

-- Its first append brings its blank to box 3,
abbrev first_append : Message
first_append = append 2 3 2 2 1 0 (blank_of 2 ∷ [])

abbrev joins_3 : State
joins_3 = joining votes_3 2 0 (blank_of 2 ∷ [])

abbrev answered : Park
answered = after led_2 3 joins_3 (append_answer 3 2 2 1 3 ∷ [])

to-answered : Move 7 led_2 answered
unfolding opens
to-answered = gets 3 refl first_append (Memᴰ.tail (Memᴰ.head refl)) joins_3 (append_answer 3 2 2 1 3 ∷ []) refl (omega arith) refl

-- which says yes.
abbrev hears_3 : State
hears_3 = settle (heard box_2_leads 3 1 3)

abbrev gone_on : Park
gone_on = after answered 2 hears_3 []

to-gone_on : Move 7 answered gone_on
unfolding opens
to-gone_on = gets 2 refl (append_answer 3 2 2 1 3) (Memᴰ.head refl) hears_3 [] refl (omega arith) refl

older_run : Run 7 third gone_on
older_run = moves (moves (moves (moves (moves (moves (moves (moves stays to_fourth) to_fifth) to-stored) to-stood) to-voted) to-led_2) to-answered) to-gone_on

-- **The order of term 1 is handed out,** by a leader of term 2 that took none.
pub commits_older : Reached 7 gone_on × (handed_out (answered.box 2) ≡ []) × (handed_out (gone_on.box 2) ≡ blank_of 1 ∷ entry ∷ blank_of 2 ∷ [])
unfolding opens
commits_older = (run_both third_reached older_run, refl, refl)

-- **Without its blank box 2 would stand still,** though both others have said yes to all that it has. (Of any record: `stands_still` of `raft/proofs/CommitLaws`.)
pub stood_still : (settle (heard (heard (leading (adding box_2_stands 3)) 3 1 2) 1 1 2)).commit ≡ 0
unfolding opens
stood_still = refl
