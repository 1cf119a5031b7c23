-- 01, 'Journal', from 'On opening' on, and rows 10 and 11 of the refusals: from a journal's bytes to the record. Assumes nothing.
use Rattle.std.specs.Prelude.{ℕ, suc, ◌+◌, Bool, cond, ◌&&◌, ◌||◌, List, [], ◌∷◌, ◌++◌, eqb, ltb, leb, length, take}
use Rattle.frames.specs.Limits.{log_limit, entry_limit}
use Rattle.frames.specs.Rules.{in_order}
use Rattle.raft.specs.Record.{State, last_index, term_at, fresh, with_term, with_vote, with_log, with_commit, as_follower, is_membership, is_vote}
use Rattle.raft.specs.Journal.{Line}
use Rattle.journal.specs.Lines.{lines, whole_bytes, box_in, mask_in, head_shaped, line_shaped, line_in}

-- ---- the record that is opened

-- "A restart keeps the stored part, is a follower, commit 0."
unfoldable pub restarted : State → State
restarted s = as_follower (with_commit 0 s)

-- ---- the rules of a line behind the record so far, in 01's order

-- "the head's box is .. every line's"
abbrev pub is_of_box : State → Line → Bool
is_of_box s l = eqb l.box s.me

-- "terms are at least 1 and do not fall"
abbrev pub term_holds : State → Line → Bool
term_holds s l = leb 1 l.term && leb s.term l.term

-- "a vote is 0 or a member"
abbrev pub vote_is : State → Line → Bool
vote_is s l = is_vote s.members l.vote

-- "within a term a vote that is set stays"
abbrev pub vote_stays : State → Line → Bool
vote_stays s l = ltb s.term l.term || eqb s.vote 0 || eqb l.vote s.vote

-- "kept is at most the length"
abbrev pub kept_holds : State → Line → Bool
kept_holds s l = leb l.kept (last_index s)

-- "kept + count at most 256, count at most 4"
abbrev pub count_holds : Line → Bool
count_holds l = leb (l.kept + length l.entries) log_limit && leb (length l.entries) entry_limit

-- "entry terms obey the frame rule": the entry at kept is the previous one, and none is at kept 0.
abbrev pub entries_hold : State → Line → Bool
entries_hold s l = in_order (term_at s.log l.kept) l.term l.entries

-- Every rule of a line.
unfoldable pub allows : State → Line → Bool
allows s l =
    is_of_box s l && term_holds s l && vote_is s l && vote_stays s l && kept_holds s l && count_holds l && entries_hold s l

-- ---- one line

-- The record with a line replayed: the line's term and vote, "kept" entries of the log and the line's behind them.
unfoldable pub after : State → Line → State
after s l = restarted (with_log (take l.kept s.log ++ l.entries) (with_vote l.vote (with_term l.term s)))

-- What one line comes to.
pub data Replayed : Type 0 where
  next : State → Replayed
  breaks : Replayed

-- Bytes that do not have a line's form break a rule as well.
unfoldable pub replayed : State → List ℕ → Replayed
replayed s bytes = cond (line_shaped bytes && allows s (line_in bytes)) (next (after s (line_in bytes))) breaks

-- ---- all lines

-- What opening comes to: "Opening returns the record and the number of bytes"; 11, "no whole line, or the first is no proper head";
-- 10, "a whole line after the head breaks a rule; the first such line's number, the head being 1".
pub data Opened : Type 0 where
  opened : (record_of : State) (bytes : ℕ) → Opened
  headless : Opened
  broken : (line : ℕ) → Opened

-- 01's number of each.
unfoldable pub refusal : Opened → ℕ
refusal (opened s bytes) = 0
refusal headless = 11
refusal (broken line) = 10

-- A line replayed, then those behind it; or the number of the line that breaks a rule.
unfoldable pub go_on : Replayed → (State → Opened) → ℕ → Opened
go_on (next s) rest number = rest s
go_on breaks rest number = broken number

-- The lines behind the head, the first of them with a number, and the bytes that are all whole lines.
unfoldable pub replay : (bytes : ℕ) → State → (number : ℕ) → List (List ℕ) → Opened
replay bytes s number [] = opened s bytes
replay bytes s number (line ∷ behind) = go_on (replayed s line) (λ t. replay bytes t (suc number) behind) number

-- "the head's box is the one asked for", and its mask a membership that holds it.
unfoldable pub is_head : ℕ → List ℕ → Bool
is_head box line = head_shaped line && eqb (box_in line) box && is_membership box (mask_in line)

-- The head, then the lines behind it.
unfoldable pub open_lines : (box bytes : ℕ) → List (List ℕ) → Opened
open_lines box bytes [] = headless
open_lines box bytes (line ∷ behind) = cond (is_head box line) (replay bytes (fresh box (mask_in line)) 2 behind) headless

-- Opening: the box asked for, and the journal's bytes.
unfoldable pub opening : ℕ → List ℕ → Opened
opening box bytes = open_lines box (whole_bytes bytes) (lines bytes)
