-- That demand 3's book is not always empty: the leader of Elects takes an order behind its blank, box 2 takes both up, the leader commits them, and box 2
-- hands them out. Assumes nothing.
use Rattle.std.specs.Prelude.{ℕ, ◌≤◌, ◌≡◌, refl, List, [], ◌∷◌}
use Rattle.std.proofs.Common.{arith}
use mathlib.Core.List.Memᴰ
use Rattle.frames.specs.declared.Entry.{Entry}
use Rattle.frames.specs.Message.{Message, append, append_answer, entry_fields}
use Rattle.frames.specs.Rules.{in_order}
use Rattle.raft.specs.Record.{State, handed_out}
use Rattle.raft.specs.Commit.{matches, matching, is_matched, highest, settled, settle}
use Rattle.raft.specs.Sends.{appends}
use Rattle.raft.specs.Order.{ordered, order}
use Rattle.raft.specs.Prompt.{prompt}
use Rattle.raft.specs.Append.{lacks, agreed, stop, passes, joined, cuts_committed, joining, on_append}
use Rattle.raft.specs.AppendAnswer.{match_after, next_heard, heard, sends_again, answered, hear, on_append_answer}
use Rattle.raft.specs.Event.{takes_order, is_prompted}
use Rattle.history.specs.Begins.{Begins}
use Rattle.history.specs.BeginsLaws.{begins-long}
use Rattle.safety.specs.Park.{Park, after, Move, steps, Run, stays, moves, run_both, Reached, Leads}
use Rattle.safety.specs.Runs.{parks}
use Rattle.safety.specs.Demand3.{Demand3}
use Rattle.safety.proofs.Elects.{opens as opens-votes, gets, blank_of, box_1_leads, box_2_votes, third, third_reached}

-- To open this is to open every step.
unfoldable pub opens : Unit {0}
unfolding opens-votes order prompt settle settled highest is_matched matching matches entry_fields in_order on_append lacks agreed
    stop passes joined cuts_committed joining on_append_answer hear heard match_after next_heard answered sends_again appends handed_out
opens = tt

-- The order, in term 1, and what the leader of term 1 then holds.
abbrev pub entry : Entry
entry = record { term = 1; order = 50 }

abbrev pub page : List Entry
page = blank_of 1 ∷ entry ∷ []

-- Box 1 takes the order,
abbrev pub added : State
added = settle (ordered box_1_leads 50)

abbrev pub fourth : Park
fourth = after third 1 added (appends added)

unfoldable pub to_fourth : Move 7 third fourth
unfolding opens
to_fourth = steps 1 refl (takes_order 50) (omega arith) added (appends added) refl

-- box 2 takes it up with the blank,
abbrev pub offer : Message
offer = append 1 2 1 0 0 0 page

abbrev pub joined_up : State
joined_up = joining box_2_votes 0 0 page

abbrev pub fifth : Park
fifth = after fourth 2 joined_up (append_answer 2 1 1 1 2 ∷ [])

unfoldable pub to_fifth : Move 7 fourth fifth
unfolding opens
to_fifth = gets 2 refl offer (Memᴰ.head refl) joined_up (append_answer 2 1 1 1 2 ∷ []) refl (omega arith) refl

-- box 1 commits both,
abbrev pub committed : State
committed = settle (heard added 2 1 2)

abbrev pub sixth : Park
sixth = after fifth 1 committed []

unfoldable pub to_sixth : Move 7 fifth sixth
unfolding opens
to_sixth = gets 1 refl (append_answer 2 1 1 1 2) (Memᴰ.head refl) committed [] refl (omega arith) refl

-- the run in which the leader commits
unfoldable pub commit_run : Run 7 third sixth
commit_run = moves (moves (moves stays to_fourth) to_fifth) to_sixth

-- tells so,
abbrev pub seventh : Park
seventh = after sixth 1 committed (appends committed)

to-seventh : Move 7 sixth seventh
unfolding opens
to-seventh = steps 1 refl is_prompted tt committed (appends committed) refl

-- and box 2 hands them out.
abbrev pub news : Message
news = append 1 2 1 2 1 2 []

abbrev pub handing : State
handing = joining joined_up 2 2 []

abbrev pub eighth : Park
eighth = after seventh 2 handing (append_answer 2 1 1 1 2 ∷ [])

to-eighth : Move 7 seventh eighth
unfolding opens
to-eighth = gets 2 refl news (Memᴰ.head refl) handing (append_answer 2 1 1 1 2 ∷ []) refl (omega arith) refl

-- **A run in which a follower hands out an order.**
pub commits : Reached 7 eighth × (handed_out (eighth.box 2) ≡ page)
unfolding opens
commits = (moves (moves (run_both third_reached commit_run) to-seventh) to-eighth, refl)

-- ---- what is not claimed

-- **A leader does not hold, before, what it commits later in its own term:** Demand3's `holds_after` with ≤ for < is false.
pub own-term-not-held : ((p q : Park) → Reached 7 p → Run 7 p q → (i j t u : ℕ) → Leads (p.box i) t → Leads (q.box j) u → u ≤ t
    → Begins (handed_out (q.box j)) (p.box i).log) → ⊥
unfolding opens
own-term-not-held claim =
    let b : Begins page (blank_of 1 ∷ []) =
    claim third sixth third_reached commit_run 1 1 1 1 (record { role = refl; in_term = refl }) (record { role = refl; in_term = refl }) (omega arith) in
    omega (arith, begins-long b)

-- what a function asks for
abbrev pub Premise : {A B : Type 0} → (A → B) → Type 0
Premise {A = A} f = A

-- And at those moments Demand3 asks for what there is not.
pub own-term-not-asked : (d : Demand3 (parks 7)) (a : Leads (third.box 1) 1) (b : Leads (sixth.box 1) 1)
    → Premise (d.holds_after third sixth third_reached commit_run 1 1 1 1 a b) → ⊥
own-term-not-asked d a b premise = omega arith
