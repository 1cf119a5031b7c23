-- That demand 3's runs are not empty: three fresh boxes, a timeout, and one vote make a leader, which holds its blank. Assumes nothing.
use Rattle.std.specs.Prelude.{ℕ, ◌≡◌, refl, true}
use Rattle.std.proofs.Common.{arith}
use mathlib.Core.List.{List, [], ◌∷◌, Memᴰ}
use Rattle.std.specs.Int.Count.{ones}
use Rattle.frames.specs.declared.Entry.{Entry}
use Rattle.frames.specs.Message.{Message, vote_request, vote_answer, text, table, IsSized}
use Rattle.frames.specs.Rules.{obeys}
use Rattle.frames.proofs.OneSpelling.{frame-when}
use Rattle.raft.specs.Majority.{holds, majority}
use Rattle.raft.specs.Record.{State, fresh, is_membership, is_other, term_at}
use Rattle.raft.specs.Commit.{settle}
use Rattle.raft.specs.Sends.{to_others, vote_requests, appends}
use Rattle.raft.specs.Outcome.{done}
use Rattle.raft.specs.Timeout.{standing, timeout}
use Rattle.raft.specs.Order.{is_full, ordered, blank}
use Rattle.raft.specs.Winning.{leading, with_blank, winner, won}
use Rattle.raft.specs.AnyMessage.{taking, taken}
use Rattle.raft.specs.VoteRequest.{grants, voting, asked, on_vote_request}
use Rattle.raft.specs.VoteAnswer.{adding, counted, counts, on_vote_answer}
use Rattle.raft.specs.Receive.{sender, receiver, term_of, current, deliver, is_for, arrive, arrive_read, receive}
use Rattle.raft.specs.Event.{times_out, receives, step}
use Rattle.journal.specs.Opening.{restarted}
use Rattle.history.specs.Put.{put}
use Rattle.safety.specs.Park.{Park, start, frames, after, Move, steps, restarts, stays, moves, Reached, Leads}

-- To open this is to open every step of an election.
unfoldable pub opens : Unit {0}
unfolding start step fresh after put frames is_membership is_other holds majority ones term_at timeout standing vote_requests to_others table IsSized
    arrive is_for sender receiver term_of deliver current taken taking on_vote_request asked grants voting on_vote_answer counts counted adding won
    winner with_blank is_full ordered leading
opens = tt

-- Box 1 of three stands,
abbrev pub box_1_stands : State
box_1_stands = standing (fresh 1 7)

abbrev pub first : Park
first = after (start 7) 1 box_1_stands (vote_requests box_1_stands)

unfoldable pub first_reached : Reached 7 first
unfolding opens
first_reached = moves stays (steps 1 refl times_out tt box_1_stands (vote_requests box_1_stands) refl)

-- a frame as it was written is the message that arrives
pub arrives : (s t : State) (m : Message) (ms : List Message) → obeys m ≡ true → IsSized (table m) → arrive m s ≡ done t ms
    → step (receives (text m)) s ≡ done t ms
unfolding step receive arrive_read
arrives s t m ms o z e = rw (frame-when (text m) m o z refl) e

-- so a box may get one that was sent:
unfoldable pub gets : {p : Park} (i : ℕ) → is_membership i 7 ≡ true → (m : Message) → Memᴰ (text m) p.sent → (t : State) (ms : List Message)
    → obeys m ≡ true → IsSized (table m) → arrive m (p.box i) ≡ done t ms → Move 7 p (after p i t ms)
gets {p} i b m there t ms o z e = steps i b (receives (text m)) there t ms (arrives (p.box i) t m ms o z e)

-- box 2 gives it its vote,
abbrev pub request : Message
request = vote_request 1 2 1 0 0

abbrev pub box_2_votes : State
box_2_votes = voting (taking 1 (fresh 2 7)) 1

abbrev pub second : Park
second = after first 2 box_2_votes (vote_answer 2 1 1 1 ∷ [])

unfoldable pub second_reached : Reached 7 second
unfolding opens
second_reached =
    moves first_reached (gets 2 refl request (Memᴰ.head refl) box_2_votes (vote_answer 2 1 1 1 ∷ []) refl (omega arith) refl)

-- (which it still has when it comes back,)
pub comes_back-voted : (q : Park) × Move 7 second q × ((q.box 2).vote ≡ 1)
unfolding opens restarted
comes_back-voted = (_, restarts 2 refl, refl)

-- and box 1 leads.
abbrev pub box_1_leads : State
box_1_leads = settle (winner (adding box_1_stands 2))

abbrev pub third : Park
third = after second 1 box_1_leads (appends box_1_leads)

unfoldable pub third_reached : Reached 7 third
unfolding opens
third_reached =
    moves second_reached (gets 1 refl (vote_answer 2 1 1 1) (Memᴰ.head refl) box_1_leads (appends box_1_leads) refl (omega arith) refl)

-- The blank of a term.
abbrev pub blank_of : ℕ → Entry
blank_of t = record { term = t; order = blank }

-- **A run with a leader.**
pub elects : Reached 7 third × Leads (third.box 1) 1 × ((third.box 1).log ≡ blank_of 1 ∷ [])
unfolding opens settle
elects = (third_reached, record { role = refl; in_term = refl }, refl)
