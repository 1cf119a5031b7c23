-- Why no event may be taken before the head is whole: a box that is not yet started says yes to box 1, loses its power with nothing on its disk, is
-- started, and says yes to box 3: two leaders. Assumes nothing.
use Rattle.std.specs.Prelude.{ℕ, ◌≡◌, refl, true, List, [], ◌∷◌}
use Rattle.std.proofs.Common.{arith}
use mathlib.Core.List.Memᴰ
use Rattle.frames.specs.Message.{Message, vote_request, vote_answer, text}
use Rattle.raft.specs.Record.{State, fresh, is_membership}
use Rattle.raft.specs.Sends.{vote_requests, appends}
use Rattle.raft.specs.Outcome.{done}
use Rattle.raft.specs.Event.{Event, times_out, receives, step}
use Rattle.journal.proofs.LineSpelling.{head_nine}
use Rattle.safety.specs.Park.{Comes, frames, Leads}
use Rattle.safety.specs.Disks.{Site, built, seated, starts, steps, Goes, stays, goes}
use Rattle.safety.proofs.Elects.{arrives, request, box_1_stands, box_2_votes, box_1_leads}
use Rattle.safety.proofs.Leaks.{opens, stepped, up, box_3_stands, yea, asked_by_1, box_2_again, box_3_leads}

-- Boxes 1 and 3 are started, and stand.
abbrev two_up : Site
two_up = up (up (built 7) 1) 3

abbrev one_stands : Site
one_stands = stepped two_up 1 box_1_stands (vote_requests box_1_stands)

abbrev both_stand : Site
both_stand = stepped one_stands 3 box_3_stands (vote_requests box_3_stands)

both-stood : Goes 7 (built 7) both_stand
unfolding opens
both-stood =
    goes
    (goes (goes (goes stays (starts 1 refl refl)) (starts 3 refl refl))
    (steps 1 refl (omega (arith, head_nine 1 7)) times_out tt box_1_stands (vote_requests box_1_stands) refl))
    (steps 3 refl (omega (arith, head_nine 3 7)) times_out tt box_3_stands (vote_requests box_3_stands) refl)

-- Box 1's request has come to box 2, which says yes; nothing of that is on its disk.
comes-early : Comes both_stand.sent asked_by_1
unfolding opens
comes-early = Memᴰ.tail (Memᴰ.tail (Memᴰ.head refl))

says_yes : step asked_by_1 (both_stand.seat 2).now ≡ done box_2_votes (yea ∷ [])
unfolding opens
says_yes = arrives (fresh 2 7) box_2_votes request (yea ∷ []) refl (omega arith) refl

abbrev said : Site
said = seated both_stand 2 (both_stand.seat 2) (yea ∷ [])

-- It is started, votes for box 3, which leads, and so does box 1.
abbrev late : Site
late = up said 2

abbrev votes_late : Site
votes_late = stepped late 2 box_2_again (vote_answer 2 3 1 1 ∷ [])

abbrev one_more : Site
one_more = stepped votes_late 3 box_3_leads (appends box_3_leads)

abbrev two_leaders : Site
two_leaders = stepped one_more 1 box_1_leads (appends box_1_leads)

yea_came : Comes one_more.sent (receives (text yea))
unfolding opens
yea_came = Memᴰ.append_right (frames (appends box_3_leads)) (Memᴰ.tail (Memᴰ.head refl))

headless-run : Goes 7 said two_leaders
unfolding opens
headless-run =
    goes
    (goes
    (goes (goes stays (starts 2 refl refl))
    (steps 2 refl (omega (arith, head_nine 2 7)) (receives (text (vote_request 3 2 1 0 0))) (Memᴰ.tail (Memᴰ.tail (Memᴰ.head refl))) box_2_again
    (vote_answer 2 3 1 1 ∷ []) (arrives (fresh 2 7) box_2_again (vote_request 3 2 1 0 0) (vote_answer 2 3 1 1 ∷ []) refl (omega arith) refl)))
    (steps 3 refl (omega (arith, head_nine 3 7)) (receives (text (vote_answer 2 3 1 1))) (Memᴰ.head refl) box_3_leads (appends box_3_leads)
    (arrives box_3_stands box_3_leads (vote_answer 2 3 1 1) (appends box_3_leads) refl (omega arith) refl)))
    (steps 1 refl (omega (arith, head_nine 1 7)) (receives (text yea)) yea_came box_1_leads (appends box_1_leads)
    (arrives box_1_stands box_1_leads yea (appends box_1_leads) refl (omega arith) refl))

-- **Where a box that is not started takes an event, "no term has two leaders" is false.**
pub headless-leads : ((a b : Site) → Goes 7 (built 7) a → (i : ℕ) → is_membership i 7 ≡ true → (a.seat i).place ≡ 0 → (e : Event) → Comes a.sent e
    → (t : State) (messages : List Message) → step e (a.seat i).now ≡ done t messages → Goes 7 (seated a i (a.seat i) messages) b
    → (i j term : ℕ) → Leads (b.seat i).now term → Leads (b.seat j).now term → i ≡ j) → ⊥
unfolding opens
headless-leads claim =
    let same : ◌≡◌ {A = ℕ} 1 3 =
    claim both_stand two_leaders both-stood 2 refl refl asked_by_1 comes-early box_2_votes (yea ∷ []) says_yes headless-run 1 3 1
    (record { role = refl; in_term = refl }) (record { role = refl; in_term = refl }) in
    omega arith
