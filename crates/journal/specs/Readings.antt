-- Journals and what they open as, by computation; among them 01's own of 'Readings from the bench'. Assumes nothing.
use Rattle.std.specs.Prelude.{ℕ, ◌≡◌, refl, Bool, true, false, ◌&&◌, List, [], ◌∷◌, ◌++◌, eqb, take}
use Rattle.digits.specs.Digits.{digit, place, is_digit, worth, hex, big_endian, spelt, numeral, field, run}
use Rattle.frames.specs.declared.Entry.{Entry}
use Rattle.frames.specs.Message.{entry_fields, spell}
use Rattle.frames.specs.Reading.{is_line, version, kind, entry_at, entries_at}
use Rattle.frames.specs.Rules.{in_order}
use Rattle.raft.specs.Majority.{holds}
use Rattle.raft.specs.Record.{term_at, fresh, is_membership, is_vote}
use Rattle.raft.specs.Journal.{head, line_text}
use Rattle.journal.specs.Lines.{lines_behind, lines, whole_bytes, box_in, mask_in, head_shaped, count_in, line_shaped, line_in}
use Rattle.journal.specs.Opening.{restarted, allows, after, replayed, Opened, opened, headless, broken, go_on, replay, is_head, open_lines, opening}

-- A log in numbers: the term and the order of each entry.
abbrev pub told : List Entry → List ℕ
told [] = []
told (e ∷ es) = e.term ∷ e.order ∷ told es

-- What opening comes to, in numbers: 0, the count of bytes, term, vote and the log; or 11; or 10 and the line's number.
unfoldable pub answer : Opened → List ℕ
answer (opened s bytes) = 0 ∷ bytes ∷ s.term ∷ s.vote ∷ told s.log
answer headless = 11 ∷ []
answer (broken line) = 10 ∷ line ∷ []

-- The same numbers.
abbrev same : List ℕ → List ℕ → Bool
same [] [] = true
same [] (y ∷ ys) = false
same (x ∷ xs) [] = false
same (x ∷ xs) (y ∷ ys) = eqb x y && same xs ys

-- Bytes open as these numbers for box 1.
abbrev opens : List ℕ → List ℕ → Bool
opens bytes numbers = same (answer (opening 1 bytes)) numbers

-- `01110107` and a line feed; `0110010000000101000000` and a line feed.
abbrev pub the_head : List ℕ
the_head = 48 ∷ 49 ∷ 49 ∷ 49 ∷ 48 ∷ 49 ∷ 48 ∷ 55 ∷ 10 ∷ []

abbrev pub the_line : List ℕ
the_line =
    48 ∷ 49 ∷ 49 ∷ 48 ∷ 48 ∷ 49 ∷ 48 ∷ 48 ∷ 48 ∷ 48 ∷ 48 ∷ 48 ∷ 48 ∷ 49 ∷ 48 ∷ 49 ∷ 48 ∷ 48 ∷ 48 ∷ 48 ∷ 48 ∷ 48 ∷ 10 ∷ []

-- A line of box, term, vote and kept, with these entries. Entries that are not meant to be the same have different orders.
abbrev pub of : (box term vote kept : ℕ) → List Entry → List ℕ
of box term vote kept es = line_text (record { box = box; term = term; vote = vote; kept = kept; entries = es })

abbrev pub entry : (term order : ℕ) → Entry
entry term order = record { term = term; order = order }

-- Three entries that a line adds to an empty log.
abbrev pub three : List Entry
three = entry 1 11 ∷ entry 1 12 ∷ entry 2 13 ∷ []

unfoldable pub readings : Bool
readings =
    -- 01's journal: a head and the line of a timeout
    opens (the_head ++ the_line) (0 ∷ 32 ∷ 1 ∷ 1 ∷ [])
    -- its writer writes it
    && same (head 1 7 ++ of 1 1 1 0 []) (the_head ++ the_line)
    -- "Journal cut inside its head: 11"; nothing at all; the head without its line feed
    && opens (take 5 the_head) (11 ∷ [])
    && opens [] (11 ∷ [])
    && opens (take 8 the_head) (11 ∷ [])
    -- the head alone, and a last line that lacks only its line feed
    && opens the_head (0 ∷ 9 ∷ 0 ∷ 0 ∷ [])
    && opens (the_head ++ take 22 the_line) (0 ∷ 9 ∷ 0 ∷ 0 ∷ [])
    -- another box asked for, a mask without the box, a number that is no box, a digit `A`
    && same (answer (opening 2 (the_head ++ the_line))) (11 ∷ [])
    && opens (head 1 6) (11 ∷ [])
    && same (answer (opening 8 (head 8 128))) (11 ∷ [])
    && opens (48 ∷ 49 ∷ 49 ∷ 49 ∷ 48 ∷ 49 ∷ 48 ∷ 65 ∷ 10 ∷ []) (11 ∷ [])
    -- an empty line, a second head, a line of another box
    && opens (the_head ++ (10 ∷ [])) (10 ∷ 2 ∷ [])
    && opens (the_head ++ the_line ++ the_head) (10 ∷ 3 ∷ [])
    && opens (the_head ++ the_line ++ of 2 1 1 0 []) (10 ∷ 3 ∷ [])
    -- term 0; a term that falls; a term that rises
    && opens (the_head ++ of 1 0 0 0 []) (10 ∷ 2 ∷ [])
    && opens (the_head ++ of 1 2 1 0 [] ++ the_line) (10 ∷ 3 ∷ [])
    && opens (the_head ++ the_line ++ of 1 2 0 0 []) (0 ∷ 55 ∷ 2 ∷ 0 ∷ [])
    -- a vote for no member; one that changes, or goes back to 0, within the term; one that is set
    && opens (the_head ++ of 1 1 4 0 []) (10 ∷ 2 ∷ [])
    && opens (the_head ++ the_line ++ of 1 1 2 0 []) (10 ∷ 3 ∷ [])
    && opens (the_head ++ the_line ++ of 1 1 0 0 []) (10 ∷ 3 ∷ [])
    && opens (the_head ++ of 1 1 0 0 [] ++ of 1 1 2 0 []) (0 ∷ 55 ∷ 1 ∷ 2 ∷ [])
    -- kept past the log; five entries
    && opens (the_head ++ of 1 1 1 1 []) (10 ∷ 2 ∷ [])
    && opens (the_head ++ of 1 1 1 0 (entry 1 11 ∷ entry 1 12 ∷ entry 1 13 ∷ entry 1 14 ∷ entry 1 15 ∷ [])) (10 ∷ 2 ∷ [])
    -- entries; some kept and one added; cut with nothing added
    && opens (the_head ++ of 1 2 1 0 three) (0 ∷ 104 ∷ 2 ∷ 1 ∷ 1 ∷ 11 ∷ 1 ∷ 12 ∷ 2 ∷ 13 ∷ [])
    && opens (the_head ++ of 1 2 1 0 three ++ of 1 3 0 1 (entry 3 21 ∷ [])) (0 ∷ 151 ∷ 3 ∷ 0 ∷ 1 ∷ 11 ∷ 3 ∷ 21 ∷ [])
    && opens (the_head ++ of 1 2 1 0 three ++ of 1 2 1 1 []) (0 ∷ 127 ∷ 2 ∷ 1 ∷ 1 ∷ 11 ∷ [])
    -- an entry's term of 0, above the term, falling, or below the entry at kept
    && opens (the_head ++ of 1 1 1 0 (entry 0 11 ∷ [])) (10 ∷ 2 ∷ [])
    && opens (the_head ++ of 1 1 1 0 (entry 2 11 ∷ [])) (10 ∷ 2 ∷ [])
    && opens (the_head ++ of 1 2 1 0 (entry 2 11 ∷ entry 1 12 ∷ [])) (10 ∷ 2 ∷ [])
    && opens (the_head ++ of 1 2 1 0 (entry 2 11 ∷ []) ++ of 1 2 1 1 (entry 1 12 ∷ [])) (10 ∷ 3 ∷ [])
    -- a line that changes nothing, and one that adds equal entries again
    && opens (the_head ++ the_line ++ the_line) (0 ∷ 55 ∷ 1 ∷ 1 ∷ [])
    && opens (the_head ++ of 1 1 1 0 (entry 1 11 ∷ []) ++ of 1 1 1 0 (entry 1 11 ∷ [])) (0 ∷ 103 ∷ 1 ∷ 1 ∷ 1 ∷ 11 ∷ [])
    -- one that puts another order in an entry's place, its term the same
    && opens (the_head ++ of 1 2 1 0 three ++ of 1 2 1 1 (entry 1 21 ∷ [])) (0 ∷ 151 ∷ 2 ∷ 1 ∷ 1 ∷ 11 ∷ 1 ∷ 21 ∷ [])

-- Each holds.
pub readings_hold : readings ≡ true
unfolding readings answer digit place is_digit worth hex big_endian spelt numeral field run entry_fields spell is_line version kind entry_at
    entries_at in_order holds term_at fresh is_membership is_vote head line_text lines_behind lines whole_bytes box_in mask_in head_shaped
    count_in line_shaped line_in restarted allows after replayed go_on replay is_head open_lines opening
readings_hold = refl
