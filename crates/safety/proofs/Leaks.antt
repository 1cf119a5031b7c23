-- Why a step's messages may not leave before its line is whole: a yes that left, its vote forgotten, makes two leaders. Boxes 1 and 3 of three stand,
-- box 2 votes for box 1, power fails at the first byte of its line, and it then votes for box 3. Assumes nothing.
use Rattle.std.specs.Prelude.{ℕ, ◌+◌, ◌≡◌, refl, true, List, [], ◌∷◌, length, take}
use Rattle.std.proofs.Common.{arith, sym, ◌∙◌, ap}
use mathlib.Core.List.Memᴰ
use Rattle.digits.specs.Room.{over}
use Rattle.digits.specs.RoomLaws.{over_nothing}
use Rattle.frames.specs.Message.{Message, vote_request, vote_answer, text}
use Rattle.raft.specs.Record.{State, fresh, is_membership}
use Rattle.raft.specs.Journal.{head, journaled}
use Rattle.raft.specs.Commit.{settle}
use Rattle.raft.specs.Sends.{vote_requests, appends}
use Rattle.raft.specs.Outcome.{done}
use Rattle.raft.specs.Timeout.{standing}
use Rattle.raft.specs.Winning.{winner}
use Rattle.raft.specs.AnyMessage.{taking}
use Rattle.raft.specs.VoteRequest.{voting}
use Rattle.raft.specs.VoteAnswer.{adding}
use Rattle.raft.specs.Event.{Event, times_out, receives, step}
use Rattle.journal.specs.Opening.{restarted, opened, opening}
use Rattle.journal.proofs.LineSpelling.{head_nine}
use Rattle.journal.proofs.LifeLaws.{life_opens}
use Rattle.safety.specs.Park.{Comes, frames, Leads}
use Rattle.safety.specs.Disks.{Site, built, Started, written, seated, Happens, starts, steps, fails, Goes, stays, goes}
use Rattle.safety.proofs.DisksLaws.{none-awaits, starts-lives, built-mirrors}
use Rattle.safety.proofs.Elects.{opens as opens-votes, arrives, request, box_1_stands, box_2_votes, box_1_leads}

-- To open this is to open every step.
unfoldable pub opens : Unit {0}
unfolding opens-votes built seated settle restarted
opens = tt

-- A box's step, its line whole.
abbrev pub stepped : Site → ℕ → State → List Message → Site
stepped a i t ms =
    seated a i (record {
      now = t;
      disk = written (a.seat i) (journaled (a.seat i).now t);
      place = (a.seat i).place + length (journaled (a.seat i).now t);
    }) ms

-- The three boxes are started.
abbrev pub up : Site → ℕ → Site
up a i = seated a i (record { now = fresh i 7; disk = over (a.seat i).disk 0 (head i 7); place = length (head i 7) }) []

abbrev all_up : Site
all_up = up (up (up (built 7) 1) 2) 3

up-reached : Goes 7 (built 7) all_up
unfolding opens
up-reached = goes (goes (goes stays (starts 1 refl refl)) (starts 2 refl refl)) (starts 3 refl refl)

-- Boxes 1 and 3 stand.
abbrev pub box_3_stands : State
box_3_stands = standing (fresh 3 7)

abbrev one_asks : Site
one_asks = stepped all_up 1 box_1_stands (vote_requests box_1_stands)

abbrev both_ask : Site
both_ask = stepped one_asks 3 box_3_stands (vote_requests box_3_stands)

both-reached : Goes 7 (built 7) both_ask
unfolding opens
both-reached =
    goes (goes up-reached (steps 1 refl (omega (arith, head_nine 1 7)) times_out tt box_1_stands (vote_requests box_1_stands) refl))
    (steps 3 refl (omega (arith, head_nine 3 7)) times_out tt box_3_stands (vote_requests box_3_stands) refl)

-- box 2's yes to box 1
abbrev pub yea : Message
yea = vote_answer 2 1 1 1

-- box 1's request has come to it
abbrev pub asked_by_1 : Event
asked_by_1 = receives (text request)

comes_to_2 : Comes both_ask.sent asked_by_1
unfolding opens
comes_to_2 = Memᴰ.tail (Memᴰ.tail (Memᴰ.head refl))

-- which was started
is-up_2 : Started (both_ask.seat 2)
unfolding opens
is-up_2 = omega (arith, head_nine 2 7)

says_yes_to_1 : step asked_by_1 (both_ask.seat 2).now ≡ done box_2_votes (yea ∷ [])
unfolding opens
says_yes_to_1 = arrives (fresh 2 7) box_2_votes request (yea ∷ []) refl (omega arith) refl

-- ---- power fails

-- nothing of its line is on the disk,
abbrev torn : List ℕ
torn = written (both_ask.seat 2) (take 0 (journaled (both_ask.seat 2).now box_2_votes))

-- so box 2 comes back fresh,
comes_back : opening 2 torn ≡ opened (fresh 2 7) (both_ask.seat 2).place
unfolding opens
comes_back =
    let life = starts-lives {b = (built 7).seat 2} refl (none-awaits ((built-mirrors 7).stored 2 refl) refl) in
    ap (opening 2) (sym (over_nothing (both_ask.seat 2).disk (both_ask.seat 2).place)) ∙ life_opens 2 7 _ _ _ life

-- with these messages behind it
abbrev back : List Message → Site
back ms = seated both_ask 2 (record { now = fresh 2 7; disk = torn; place = (both_ask.seat 2).place }) ms

-- **and its yes has not left:** what was sent is what was sent before.
pub torn_silent : (b : Site) × Happens 7 both_ask b × (b.sent ≡ both_ask.sent)
unfolding opens
torn_silent = (back [], fails 2 refl is-up_2 asked_by_1 comes_to_2 box_2_votes (yea ∷ []) says_yes_to_1 0 (fresh 2 7) (both_ask.seat 2).place comes_back, refl)

-- ---- had it left

-- box 2 votes for box 3,
abbrev pub box_2_again : State
box_2_again = voting (taking 1 (fresh 2 7)) 3

abbrev votes_again : Site
votes_again = stepped (back (yea ∷ [])) 2 box_2_again (vote_answer 2 3 1 1 ∷ [])

-- which leads,
abbrev pub box_3_leads : State
box_3_leads = settle (winner (adding box_3_stands 2))

abbrev three_leads : Site
three_leads = stepped votes_again 3 box_3_leads (appends box_3_leads)

-- and so does box 1, by the yes that had left.
abbrev both_lead : Site
both_lead = stepped three_leads 1 box_1_leads (appends box_1_leads)

yea-comes : Comes three_leads.sent (receives (text yea))
unfolding opens
yea-comes = Memᴰ.append_right (frames (appends box_3_leads)) (Memᴰ.tail (Memᴰ.head refl))

leak_run : Goes 7 (back (yea ∷ [])) both_lead
unfolding opens
leak_run =
    goes
    (goes
    (goes stays
    (steps 2 refl (omega (arith, head_nine 2 7)) (receives (text (vote_request 3 2 1 0 0))) (Memᴰ.tail (Memᴰ.tail (Memᴰ.head refl))) box_2_again (vote_answer 2 3 1 1 ∷ [])
    (arrives (fresh 2 7) box_2_again (vote_request 3 2 1 0 0) (vote_answer 2 3 1 1 ∷ []) refl (omega arith) refl)))
    (steps 3 refl (omega (arith, head_nine 3 7)) (receives (text (vote_answer 2 3 1 1))) (Memᴰ.head refl) box_3_leads (appends box_3_leads)
    (arrives box_3_stands box_3_leads (vote_answer 2 3 1 1) (appends box_3_leads) refl (omega arith) refl)))
    (steps 1 refl (omega (arith, head_nine 1 7)) (receives (text yea)) yea-comes box_1_leads (appends box_1_leads)
    (arrives box_1_stands box_1_leads yea (appends box_1_leads) refl (omega arith) refl))

-- **Where messages of a torn step leave, "no term has two leaders" is false.**
pub leaks : ((a b : Site) → Goes 7 (built 7) a → (i : ℕ) → is_membership i 7 ≡ true → Started (a.seat i) → (e : Event)
    → Comes a.sent e → (t : State) (messages : List Message) → step e (a.seat i).now ≡ done t messages → (k : ℕ) (u : State) (n : ℕ)
    → opening i (written (a.seat i) (take k (journaled (a.seat i).now t))) ≡ opened u n
    → Goes 7 (seated a i (record { now = u; disk = written (a.seat i) (take k (journaled (a.seat i).now t)); place = n }) messages) b
    → (i j term : ℕ) → Leads (b.seat i).now term → Leads (b.seat j).now term → i ≡ j) → ⊥
unfolding opens
leaks claim =
    let same : ◌≡◌ {A = ℕ} 1 3 =
    claim both_ask both_lead both-reached 2 refl is-up_2 asked_by_1 comes_to_2
    box_2_votes (yea ∷ []) says_yes_to_1 0 (fresh 2 7) (both_ask.seat 2).place comes_back
    leak_run 1 3 1
    (record { role = refl; in_term = refl }) (record { role = refl; in_term = refl }) in
    omega arith
