-- 01, 'Readings from the bench': those marked P, one list and a single claim. Assumes nothing.
use Rattle.std.specs.Prelude.{ℕ, suc, ◌+◌, ◌≡◌, refl, Bool, true, false, not, ◌&&◌, List, [], ◌∷◌, eqb}
use Rattle.std.specs.Int.Count.{ones}
use Rattle.frames.specs.declared.Entry.{Entry}
use Rattle.frames.specs.Message.{Message, vote_request, vote_answer, append, append_answer}
use Rattle.frames.specs.Rules.{in_order, obeys}
use Rattle.raft.specs.Majority.{holds, majority}
use Rattle.raft.specs.Newer.{as_new}
use Rattle.raft.specs.Record.{State, fresh, with_term, with_vote, with_log, with_commit, as_leader, term_at, is_other, good, is_membership, is_vote, is_role, are_votes, is_progress, sends_to}
use Rattle.raft.specs.Commit.{matches, matching, is_matched, highest, settled}
use Rattle.raft.specs.Journal.{same_entry}
use Rattle.raft.specs.Outcome.{Outcome, done, refuse}
use Rattle.raft.specs.AnyMessage.{taken}
use Rattle.raft.specs.Append.{lacks, agreed, stop, passes, joined, cuts_committed, joining, on_append}
use Rattle.raft.specs.Receive.{term_of, current, deliver}

-- An entry of a term, and the log of these terms. No two orders are alike: those of a log are 1, 2, 3, .. from the front, and an entry that is offered has
-- one of its own. So an entry in another's place is seen, also where their terms are the same.
abbrev pub entry : (term order : ℕ) → Entry
entry term order = record { term = term; order = order }

abbrev pub log_from : ℕ → List ℕ → List Entry
log_from order [] = []
log_from order (term ∷ terms) = entry term order ∷ log_from (suc order) terms

abbrev pub log_of : List ℕ → List Entry
log_of terms = log_from 1 terms

abbrev pub offered : ℕ → Entry
offered term = entry term 99

-- "mask 1f, leader in term 4, .. commit 1", the log's terms, and the index that "two others match".
unfoldable pub leads : List ℕ → ℕ → State
leads terms n =
    as_leader (record { next = 0 ∷ (n + 1) ∷ (n + 1) ∷ 1 ∷ 1 ∷ 0 ∷ 0 ∷ []; matched = 0 ∷ n ∷ n ∷ 0 ∷ 0 ∷ 0 ∷ 0 ∷ [] })
    (with_commit 1 (with_log (log_of terms) (with_vote 1 (with_term 4 (fresh 1 0x1f)))))

-- A good record settles its commit at an index.
unfoldable pub settles_at : State → ℕ → Bool
settles_at s n = good s && eqb (settled s) n

-- "follower in term 4, its commit .., log terms 1,1,2": box 2 of mask 07.
unfoldable pub follows_at : ℕ → State
follows_at commit = with_commit commit (with_log (log_of (1 ∷ 1 ∷ 2 ∷ [])) (with_term 4 (fresh 2 0x07)))

-- "append of term 4, previous index 1 and term 1, one entry of term .., leader's commit ..", from box 1.
unfoldable pub offer : (term commit : ℕ) → Message
offer term commit = append 1 2 4 1 1 commit (offered term ∷ [])

-- Two logs have the same entries, terms and orders.
abbrev pub same_log : List Entry → List Entry → Bool
same_log [] [] = true
same_log [] (y ∷ ys) = false
same_log (x ∷ xs) [] = false
same_log (x ∷ xs) (y ∷ ys) = same_entry x y && same_log xs ys

-- A message says yes to an append, and names an index.
abbrev pub says_index : Message → ℕ → Bool
says_index (vote_request from to term index prior) n = false
says_index (vote_answer from to term reply) n = false
says_index (append from to term index prior commit es) n = false
says_index (append_answer from to term reply index) n = eqb reply 1 && eqb index n

-- It is the only one.
abbrev pub answers : List Message → ℕ → Bool
answers [] n = false
answers (m ∷ []) n = says_index m n
answers (m ∷ k ∷ ms) n = false

-- An append comes to a log, a commit, and the answer's index,
abbrev pub comes_to : Outcome → List Entry → (commit index : ℕ) → Bool
comes_to (done t ms) log commit index = same_log t.log log && eqb t.commit commit && answers ms index
comes_to (refuse n) log commit index = false

-- or to an alarm.
abbrev pub alarms : Outcome → ℕ → Bool
alarms (done t ms) number = false
alarms (refuse n) number = eqb n number

-- A good record takes an append that is a frame so,
unfoldable pub joins_to : State → Message → List Entry → (commit index : ℕ) → Bool
joins_to s m log commit index = good s && obeys m && comes_to (deliver m s) log commit index

-- and so it alarms.
unfoldable pub alarms_at : State → Message → ℕ → Bool
alarms_at s m number = good s && obeys m && alarms (deliver m s) number

-- Every test of a list passes.
abbrev pub every : List Bool → Bool
every [] = true
every (t ∷ ts) = t && every ts

-- The readings, each a test.
unfoldable pub readings : List Bool
readings =
    -- "majority: of 07, 03 yes, 01 no"
    majority 0x07 0x03
    ∷ not (majority 0x07 0x01)
    -- "of 0f, 03 no, 07 yes"
    ∷ not (majority 0x0f 0x03)
    ∷ majority 0x0f 0x07
    -- "of 7f, 0f yes, 07 no"
    ∷ majority 0x7f 0x0f
    ∷ not (majority 0x7f 0x07)
    -- "newer log (index, term): 3,2 against 5,1 yes; 4,2 against 5,2 no; 5,2 against 5,2 yes; 9,1 against 1,2 no"
    ∷ as_new 3 2 5 1
    ∷ not (as_new 4 2 5 2)
    ∷ as_new 5 2 5 2
    ∷ not (as_new 9 1 1 2)
    -- "follower in term 4, its commit 1, log terms 1,1,2; append of term 4, previous index 1 and term 1, one entry of term 1, leader's
    -- commit 0: log unchanged, answer 2"
    ∷ joins_to (follows_at 1) (offer 1 0) (follows_at 1).log 1 2
    -- "With the entry of term 3: log 1,3."
    ∷ joins_to (follows_at 1) (offer 3 0) (entry 1 1 ∷ offered 3 ∷ []) 1 2
    -- "The same with its own commit 2: alarm 7."
    ∷ alarms_at (follows_at 2) (offer 3 0) 7
    -- "that first append with leader's commit 9: commit 2, though the log is 3 long"
    ∷ joins_to (follows_at 1) (offer 1 9) (follows_at 1).log 2 2
    -- "mask 1f, leader in term 4, log terms 1,2, commit 1, two others match 2: commit 1"
    ∷ settles_at (leads (1 ∷ 2 ∷ []) 2) 1
    -- "Log 1,2,4 and two others match 3: commit 3"
    ∷ settles_at (leads (1 ∷ 2 ∷ 4 ∷ []) 3) 3
    ∷ []

-- each reading holds, by computation
pub readings_hold : every readings ≡ true
unfolding readings fresh leads settles_at majority ones good is_membership is_vote is_role are_votes is_progress sends_to is_other holds in_order
    settled highest is_matched matching matches term_at follows_at offer joins_to alarms_at deliver term_of current on_append taken lacks agreed stop passes
    cuts_committed joined joining
readings_hold = refl
