-- Why a box may come back only by its journal: one that came back fresh would vote twice in a term. Box 1 of Elects leads term 1 by box 2's vote; box
-- 2 comes back fresh, box 3 stands in term 1, and box 2 gives it the same vote again. Assumes nothing.
use Rattle.std.specs.Prelude.{ℕ, ◌≡◌, refl, true, [], ◌∷◌}
use Rattle.std.proofs.Common.{arith}
use mathlib.Core.List.Memᴰ
use Rattle.frames.specs.Message.{vote_request, vote_answer}
use Rattle.raft.specs.Record.{State, fresh, is_membership}
use Rattle.raft.specs.Commit.{settle}
use Rattle.raft.specs.Sends.{vote_requests, appends}
use Rattle.raft.specs.Timeout.{standing}
use Rattle.raft.specs.Winning.{winner}
use Rattle.raft.specs.AnyMessage.{taking}
use Rattle.raft.specs.VoteRequest.{voting}
use Rattle.raft.specs.VoteAnswer.{adding}
use Rattle.raft.specs.Event.{times_out}
use Rattle.safety.specs.Park.{Park, after, steps, Run, stays, moves, Reached, Leads}
use Rattle.safety.proofs.Elects.{opens as opens-votes, gets, third, third_reached}

-- To open this is to open every step.
opens : Unit {0}
unfolding opens-votes settle
opens = tt

-- Box 2 is fresh again,
abbrev forgotten : Park
forgotten = after third 2 (fresh 2 7) []

-- box 3 stands,
abbrev box_3_stands : State
box_3_stands = standing (fresh 3 7)

abbrev three_asks : Park
three_asks = after forgotten 3 box_3_stands (vote_requests box_3_stands)

-- box 2 votes for it,
abbrev box_2_again : State
box_2_again = voting (taking 1 (fresh 2 7)) 3

abbrev votes_again : Park
votes_again = after three_asks 2 box_2_again (vote_answer 2 3 1 1 ∷ [])

-- and it leads term 1, as box 1 does.
abbrev box_3_leads : State
box_3_leads = settle (winner (adding box_3_stands 2))

abbrev both_lead : Park
both_lead = after votes_again 3 box_3_leads (appends box_3_leads)

-- the run in which it comes to lead
forget_run : Run 7 forgotten both_lead
unfolding opens
forget_run =
    moves
    (moves (moves stays (steps 3 refl times_out tt box_3_stands (vote_requests box_3_stands) refl))
    (gets 2 refl (vote_request 3 2 1 0 0) (Memᴰ.tail (Memᴰ.head refl)) box_2_again (vote_answer 2 3 1 1 ∷ []) refl (omega arith) refl))
    (gets 3 refl (vote_answer 2 3 1 1) (Memᴰ.head refl) box_3_leads (appends box_3_leads) refl (omega arith) refl)

-- **Where a box comes back fresh, "no term has two leaders" is false.**
pub forgets : ((p q : Park) → Reached 7 p → (k : ℕ) → is_membership k 7 ≡ true → Run 7 (after p k (fresh k 7) []) q
    → (i j term : ℕ) → Leads (q.box i) term → Leads (q.box j) term → i ≡ j) → ⊥
unfolding opens
forgets claim =
    let same : ◌≡◌ {A = ℕ} 1 3 =
    claim third both_lead third_reached 2 refl forget_run 1 3 1 (record { role = refl; in_term = refl }) (record { role = refl; in_term = refl }) in
    omega arith
