-- 01, 'Journal': the head, and the line of a step. Assumes nothing.
use Rattle.std.specs.Prelude.{ℕ, suc, Bool, cond, ◌&&◌, List, [], ◌∷◌, ◌++◌, eqb, length, drop}
use Rattle.frames.specs.declared.Entry.{Entry}
use Rattle.frames.specs.Message.{number, entry_fields, spell, line_feed}
use Rattle.raft.specs.Record.{State}

-- "head 01, 11, box, mask"
unfoldable pub head : ℕ → ℕ → List ℕ
head box mask = spell (number 1 1 ∷ number 1 17 ∷ number 1 box ∷ number 1 mask ∷ []) ++ (line_feed ∷ [])

-- "01, 10, box, term 4, vote 1, kept 2, count 1, entries"
pub record Line : Type 0 where
  pub box : ℕ
  pub term : ℕ
  pub vote : ℕ
  pub kept : ℕ
  pub entries : List Entry

unfoldable pub line_text : Line → List ℕ
line_text l =
    spell (number 1 1 ∷ number 1 16 ∷ number 1 l.box ∷ number 4 l.term ∷ number 1 l.vote ∷ number 2 l.kept
    ∷ number 1 (length l.entries) ∷ entry_fields l.entries)
    ++ (line_feed ∷ [])

-- "Kept = entries before the first cut or added one, or all": the entries with which both logs begin.
abbrev pub same_entry : Entry → Entry → Bool
same_entry a b = eqb a.term b.term && eqb a.order b.order

unfoldable pub kept : List Entry → List Entry → ℕ
kept [] b = 0
kept (x ∷ a) [] = 0
kept (x ∷ a) (y ∷ b) = cond (same_entry x y) (suc (kept a b)) 0

-- The stored part is the same.
unfoldable pub same_stored : State → State → Bool
same_stored s t =
    eqb s.term t.term && eqb s.vote t.vote && eqb (kept s.log t.log) (length s.log) && eqb (kept s.log t.log) (length t.log)

-- "for each step that changes the stored part and no other", a line; its bytes, or none.
unfoldable pub line_of : State → State → Line
line_of s t =
    record { box = t.me; term = t.term; vote = t.vote; kept = kept s.log t.log; entries = drop (kept s.log t.log) t.log }

unfoldable pub journaled : State → State → List ℕ
journaled s t = cond (same_stored s t) [] (line_text (line_of s t))
