-- A head that power cut short: its file opens with 11, and a start over it leaves the head whole. Assumes nothing.
use Rattle.std.specs.Prelude.{ℕ, ◌+◌, ◌≤◌, ◌<◌, ◌≡◌, true, List, ◌++◌, ◌⊎◌, length, take, drop}
use Rattle.std.proofs.Math.Decide.{dec_le}
use Rattle.std.proofs.Common.{arith, sym, ap, ◌∙◌, append-nil, inl, inr, length-take, drop_of_length-le, take-append-drop, take-take}
use Rattle.digits.specs.Room.{over}
use Rattle.raft.specs.Record.{fresh, is_membership}
use Rattle.raft.specs.Journal.{head}
use Rattle.journal.proofs.LinesLaws.{lines_none}
use Rattle.journal.proofs.LineSpelling.{head_nine, head-whole}
use Rattle.journal.specs.Opening.{opened, headless, open_lines, opening}
use Rattle.journal.proofs.OpeningLaws.{fresh-restarted}
use Rattle.journal.proofs.LifeLaws.{Life, life_opens}
use Rattle.journal.proofs.TornLaws.{cut-whole}

-- The first bytes of a text over the first bytes of the same text: the more of the two.
pub laid_over : (text : List ℕ) (j k : ℕ)
    → (over (take j text) 0 (take k text) ≡ take k text) ⊎ (over (take j text) 0 (take k text) ≡ take j text)
unfolding over
laid_over text j k = go (dec_le (length (take j text)) (length (take k text)))
  where
    go : Dec (length (take j text) ≤ length (take k text))
        → (over (take j text) 0 (take k text) ≡ take k text) ⊎ (over (take j text) 0 (take k text) ≡ take j text)
    go (yes h) =
        inl (ap (λ (l : List ℕ). take k text ++ l) (let few : length (take j text) ≤ 0 + length (take k text) = omega arith in drop_of_length-le (take j text) few) ∙ append-nil (take k text))
    go (no h) =
        let short : 0 + length (take k text) ≡ k = omega (arith, length-take k text, length-take j text) in
        let front : take k text ≡ take k (take j text) = sym (take-take k j text (omega (arith, length-take k text, length-take j text))) in
        inr (ap (λ (n : ℕ). take k text ++ drop n (take j text)) short ∙ ap (λ (l : List ℕ). l ++ drop k (take j text)) front ∙ take-append-drop k (take j text))

-- A whole text over some of its first bytes is the text.
pub laid_whole : (text : List ℕ) (j : ℕ) → over (take j text) 0 text ≡ text
unfolding over
laid_whole text j =
    ap (λ (l : List ℕ). text ++ l) (let few : length (take j text) ≤ 0 + length text = omega (arith, length-take j text) in drop_of_length-le (take j text) few) ∙ append-nil text

-- A head that is cut short opens with 11,
pub torn-headless : (i mask k : ℕ) → k < length (head i mask) → opening i (take k (head i mask)) ≡ headless
unfolding opening open_lines
torn-headless i mask k l = rw (lines_none (take k (head i mask)) (cut-whole (head i mask) (head-whole i mask) k l))

-- and a whole one with the fresh box.
pub head-opens : (i mask : ℕ) → is_membership i mask ≡ true → opening i (head i mask) ≡ opened (fresh i mask) (length (head i mask))
head-opens i mask m =
    life_opens i mask (fresh i mask) 9 (head i mask) (Life.starts m) ∙ rw (fresh-restarted i mask, head_nine i mask)
