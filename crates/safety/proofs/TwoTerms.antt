-- That the book grows over two terms: the second leader of Succeeds takes an order, brings box 3 up to date and commits blank and order behind the first
-- leader's, while box 1 leads term 1 still and does not hold them. The book of that run, and what is not claimed of it. Assumes nothing.
use Rattle.std.specs.Prelude.{ℕ, suc, ◌≡◌, refl, List, [], ◌∷◌}
use Rattle.std.proofs.Common.{arith}
use mathlib.Core.List.Memᴰ
use Rattle.frames.specs.declared.Entry.{Entry}
use Rattle.frames.specs.Message.{Message, append, append_answer}
use Rattle.raft.specs.Record.{State, handed_out}
use Rattle.raft.specs.Commit.{settle}
use Rattle.raft.specs.Sends.{append_to, appends}
use Rattle.raft.specs.Order.{ordered}
use Rattle.raft.specs.Append.{following, joining}
use Rattle.raft.specs.AppendAnswer.{heard}
use Rattle.raft.specs.Event.{takes_order}
use Rattle.history.specs.Begins.{Begins}
use Rattle.history.specs.BeginsLaws.{begins-long}
use Rattle.safety.specs.Park.{Park, after, Move, steps, Run, stays, moves, run_both, Reached, Leads}
use Rattle.safety.specs.Book.{by_leader, writes, longer, book, below}
use Rattle.safety.specs.Runs.{moved, moves_of}
use Rattle.safety.proofs.Elects.{gets, blank_of, first_reached, second_reached, third, third_reached}
use Rattle.safety.proofs.Commits.{opens, entry, page, sixth, to_fourth, to_fifth, to_sixth, commit_run}
use Rattle.safety.proofs.Succeeds.{box_2_leads, box_3_votes, two_leads, to_two_asks, to_three_votes, to_two_leads, succeed_run}

-- The order, in term 2, and what the leader of term 2 then holds.
abbrev pub later_entry : Entry
later_entry = record { term = 2; order = 60 }

abbrev pub pages : List Entry
pages = blank_of 1 ∷ entry ∷ blank_of 2 ∷ later_entry ∷ []

-- Box 2 takes it,
abbrev holds_both : State
holds_both = settle (ordered box_2_leads 60)

abbrev offered : Park
offered = after two_leads 2 holds_both (appends holds_both)

to-offered : Move 7 two_leads offered
unfolding opens
to-offered = steps 2 refl (takes_order 60) (omega arith) holds_both (appends holds_both) refl

-- box 3, which lacks the entries before them, says no,
abbrev own_entries : Message
own_entries = append 2 3 2 2 1 0 (blank_of 2 ∷ later_entry ∷ [])

abbrev lacking : State
lacking = following box_3_votes

abbrev declined : Park
declined = after offered 3 lacking (append_answer 3 2 2 0 0 ∷ [])

to-declined : Move 7 offered declined
unfolding opens following
to-declined =
    gets 3 refl own_entries (Memᴰ.tail (Memᴰ.head refl)) lacking (append_answer 3 2 2 0 0 ∷ []) refl (omega arith) refl

-- which box 2 hears twice, so that it sends all,
abbrev steps_back : State
steps_back = settle (heard holds_both 3 0 0)

abbrev at_start : State
at_start = settle (heard steps_back 3 0 0)

abbrev resent : Park
resent = after declined 2 steps_back (append_to steps_back 3 ∷ [])

to-resent : Move 7 declined resent
unfolding opens
to-resent = gets 2 refl (append_answer 3 2 2 0 0) (Memᴰ.head refl) steps_back (append_to steps_back 3 ∷ []) refl (omega arith) refl

abbrev all_entries : Message
all_entries = append 2 3 2 0 0 0 pages

abbrev all_sent : Park
all_sent = after resent 2 at_start (all_entries ∷ [])

to-all_sent : Move 7 resent all_sent
unfolding opens
to-all_sent = gets 2 refl (append_answer 3 2 2 0 0) (Memᴰ.tail (Memᴰ.head refl)) at_start (all_entries ∷ []) refl (omega arith) refl

-- box 3 takes them up,
abbrev holding : State
holding = joining lacking 0 0 pages

abbrev accepted : Park
accepted = after all_sent 3 holding (append_answer 3 2 2 1 4 ∷ [])

to-accepted : Move 7 all_sent accepted
unfolding opens following
to-accepted = gets 3 refl all_entries (Memᴰ.head refl) holding (append_answer 3 2 2 1 4 ∷ []) refl (omega arith) refl

-- and box 2 commits them.
abbrev commits_both : State
commits_both = settle (heard at_start 3 1 4)

abbrev pub written : Park
written = after accepted 2 commits_both []

to-written : Move 7 accepted written
unfolding opens
to-written = gets 2 refl (append_answer 3 2 2 1 4) (Memᴰ.head refl) commits_both [] refl (omega arith) refl

-- the run in which it does
pub two-terms-run : Run 7 two_leads written
two-terms-run = moves (moves (moves (moves (moves (moves stays to-offered) to-declined) to-resent) to-all_sent) to-accepted) to-written

-- **Two leaders' commits, one behind the other,** and box 1 leads term 1 with the first alone.
pub two-terms : (handed_out (written.box 2) ≡ pages) × Leads (written.box 1) 1 × ((written.box 1).log ≡ page)
unfolding opens
two-terms = (refl, record { role = refl; in_term = refl }, refl)

-- ---- the book

-- To open this is to open every run and its book.
opens-book : Unit {0}
unfolding opens gets first_reached second_reached third_reached to_fourth to_fifth to_sixth commit_run to_two_asks to_three_votes to_two_leads
    succeed_run to-offered to-declined to-resent to-all_sent to-accepted to-written two-terms-run run_both moves_of moved book below writes by_leader
    longer
opens-book = tt

-- The runs: a leader, it commits, another commits.
abbrev pub once : Reached 7 sixth
once = run_both third_reached commit_run

abbrev pub twice : Reached 7 written
twice = run_both (run_both once succeed_run) two-terms-run

-- **The book grows:** it is empty, then the first leader's blank and order, then the second's behind them.
pub book-shown : (book (moves_of third_reached) ≡ []) × (book (moves_of once) ≡ page) × (book (moves_of twice) ≡ pages)
unfolding opens-book
book-shown = (refl, refl, refl)

-- ---- what is not claimed

-- **A leader does not hold, before, what is written into the book later, in its own term:** Demand3's `held_book` with `suc t` for t is false.
pub own-term-book-not-held : ((p q : Park) (r : Reached 7 p) (u : Run 7 p q) (i t : ℕ) → Leads (p.box i) t
    → Begins (book (below (suc t) (moves_of (run_both r u)))) (p.box i).log) → ⊥
unfolding opens-book
own-term-book-not-held claim =
    let b : Begins page (blank_of 1 ∷ []) = claim third sixth third_reached commit_run 1 1 (record { role = refl; in_term = refl }) in
    omega (arith, begins-long b)

-- **Nor does it hold what leaders of higher terms wrote:** Demand3's `holds_book` of the whole book is false.
pub whole-book-not-held : ((p q : Park) (r : Reached 7 p) → Run 7 p q → (j t : ℕ) → Leads (q.box j) t → Begins (book (moves_of r)) (q.box j).log) → ⊥
unfolding opens-book
whole-book-not-held claim =
    let b : Begins pages page = claim written written twice stays 1 1 (record { role = refl; in_term = refl }) in
    omega (arith, begins-long b)
