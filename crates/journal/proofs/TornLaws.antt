-- A torn journal: cut anywhere, it opens with the stored part after its last whole line, and the run goes on from there. Assumes nothing.
use Rattle.std.specs.Prelude.{ℕ, ◌+◌, ◌-◌, ◌≤◌, ◌<◌, ◌≡◌, refl, Bool, true, false, List, [], ◌∷◌, ◌++◌, length, take}
use Rattle.std.proofs.Math.Decide.{dec_le, dec_lt}
use Rattle.std.proofs.Common.{arith, sym, ap, ◌∙◌, append_assoc, append-nil, length-append, length-take, drop_of_length-le, take_all}
use Rattle.std.proofs.Math.Seq.{take-nil, take-append-add}
use Rattle.std.proofs.lemmas.List.{take-append-le}
use Rattle.digits.specs.Room.{over}
use Rattle.frames.specs.Message.{line_feed}
use Rattle.raft.specs.Record.{State, fresh, is_membership}
use Rattle.raft.specs.Journal.{head, same_stored, line_of, journaled}
use Rattle.raft.proofs.SendLaws.{All}
use Rattle.raft.proofs.FitLaws.{all_take}
use Rattle.journal.proofs.LinesLaws.{Feedless, Whole, lines_none}
use Rattle.journal.proofs.LineSpelling.{line-whole, head_nine, head-whole}
use Rattle.journal.specs.Opening.{restarted, opened, headless, open_lines, opening}
use Rattle.journal.specs.Runs.{Run, stays, steps, restarts}
use Rattle.journal.proofs.StepLine.{journaled-none, journaled-line}
use Rattle.journal.proofs.ReplayLaws.{replay_law, journal_opens}

-- ---- a cut

-- A whole line that is cut has no line feed.
pub cut-whole : (line : List ℕ) → Whole line → (k : ℕ) → k < length line → Feedless (take k line)
cut-whole line w k l =
    let short : k ≤ length w.front = omega (arith, ap length w.ended, length-append w.front (line_feed ∷ [])) in
    rw (w.ended, take-append-le k w.front (line_feed ∷ []) short) (all_take _ k w.front w.free)

-- Nor have the bytes of a step that are cut.
pub cut_step : (t u : State) (k : ℕ) → k < length (journaled t u) → Feedless (take k (journaled t u))
cut_step t u k l = go (same_stored t u) refl
  where
    go : (b : Bool) → same_stored t u ≡ b → Feedless (take k (journaled t u))
    go true e = absurd (omega (arith, ap length (journaled-none t u e)))
    go false e = cut-whole (journaled t u) (rw (journaled-line t u e) (line-whole (line_of t u))) k l

-- What a cut leaves of a run's bytes: those up to some record that the run came through, and an end with no line feed.
pub record Torn (s u : State) (journal cut : List ℕ) : Type 0 where
  pub state : State
  pub front : List ℕ
  pub rest : List ℕ
  pub tail : List ℕ
  pub past : Run s state front
  pub later : Run state u rest
  pub is : journal ≡ front ++ rest
  pub left : cut ≡ front ++ tail
  pub free : Feedless tail

-- The bytes of a run, cut anywhere, are so.
pub torn : (s u : State) (journal : List ℕ) → Run s u journal → (n : ℕ) → Torn s u journal (take n journal)
unfolding All
torn s u journal stays n =
    record { state = s; front = []; rest = []; tail = []; past = stays; later = stays; is = refl; left = take-nil n; free = tt }
torn s u journal (restarts {t = t} r) n =
    let c = torn s t journal r n in
    record {
      state = c.state;
      front = c.front;
      rest = c.rest;
      tail = c.tail;
      past = c.past;
      later = restarts c.later;
      is = c.is;
      left = c.left;
      free = c.free;
    }
torn s u journal (steps {t = t} {bytes = b} r st) n = go (dec_le n (length b)) (dec_lt (n - length b) (length j)) (torn s t b r n)
  where
    j : List ℕ
    j = journaled t u

    past_it : (n ≤ length b → ⊥) → take n (b ++ j) ≡ b ++ take (n - length b) j
    past_it h = ap (λ (k : ℕ). take k (b ++ j)) (let e : n ≡ length b + (n - length b) = omega arith in e) ∙ take-append-add b j (n - length b)

    go : Dec (n ≤ length b) → Dec (n - length b < length j) → Torn s t b (take n b) → Torn s u (b ++ j) (take n (b ++ j))
    go (yes h) p c =
        record {
          state = c.state;
          front = c.front;
          rest = c.rest ++ j;
          tail = c.tail;
          past = c.past;
          later = steps c.later st;
          is = ap (λ (l : List ℕ). l ++ j) c.is ∙ append_assoc c.front c.rest j;
          left = take-append-le n b j h ∙ c.left;
          free = c.free;
        }
    go (no h) (yes p) c =
        record {
          state = t;
          front = b;
          rest = j;
          tail = take (n - length b) j;
          past = r;
          later = steps stays st;
          is = refl;
          left = past_it h;
          free = cut_step t u (n - length b) p;
        }
    go (no h) (no p) c =
        record {
          state = u;
          front = b ++ j;
          rest = [];
          tail = [];
          past = steps r st;
          later = stays;
          is = sym (append-nil (b ++ j));
          left = past_it h ∙ ap (λ (l : List ℕ). b ++ l) (take_all (n - length b) j (omega arith)) ∙ sym (append-nil (b ++ j));
          free = tt;
        }

-- ---- opening what a cut leaves

-- Cut behind what was opened before: opening gives the stored part after the last whole line, and the count to its end.
pub cut-opens : (me : ℕ) (bytes : List ℕ) (s : State) (n : ℕ) → opening me bytes ≡ opened s n → (u : State) (journal cut : List ℕ)
    → (c : Torn s u journal cut) → opening me (take n bytes ++ cut) ≡ opened (restarted c.state) (n + length c.front)
cut-opens me bytes s n h u journal cut c =
    ap (λ (l : List ℕ). opening me (take n bytes ++ l)) c.left ∙ ap (opening me) (sym (append_assoc (take n bytes) c.front c.tail))
    ∙ replay_law me bytes s n h c.state c.front c.past c.tail c.free

-- Cut inside the head: 11.
pub cut_in_head : (me box mask : ℕ) (rest : List ℕ) (k : ℕ) → k < 9 → opening me (take k (head box mask ++ rest)) ≡ headless
unfolding opening open_lines
cut_in_head me box mask rest k l =
    let nine = head_nine box mask in
    rw (take-append-le k (head box mask) rest (omega arith), lines_none (take k (head box mask)) (cut-whole _ (head-whole box mask) k (omega arith)))

-- "a box whose head was torn is started again": a head written over one that was torn is a head alone.
pub head-again : (box mask : ℕ) (rest : List ℕ) (k : ℕ) → k < 9 → (me own : ℕ)
    → over (take k (head box mask ++ rest)) 0 (head me own) ≡ head me own
unfolding over
head-again box mask rest k l me own =
    let short : length (take k (head box mask ++ rest)) ≤ 0 + length (head me own) = rw length-take (omega (arith, head_nine me own)) in
    rw (drop_of_length-le (take k (head box mask ++ rest)) short) (append-nil (head me own))

-- **Torn.** The journal of a run from a start, cut anywhere behind its head.
pub torn_law : (me mask : ℕ) → is_membership me mask ≡ true → (u : State) (journal : List ℕ) → Run (fresh me mask) u journal
    → (k : ℕ) → 9 ≤ k
    → (c : Torn (fresh me mask) u journal (take (k - 9) journal))
    × (opening me (take k (head me mask ++ journal)) ≡ opened (restarted c.state) (9 + length c.front))
torn_law me mask m u journal r k l = (torn (fresh me mask) u journal r (k - 9), opens (torn (fresh me mask) u journal r (k - 9)))
  where
    opens : (c : Torn (fresh me mask) u journal (take (k - 9) journal))
        → opening me (take k (head me mask ++ journal)) ≡ opened (restarted c.state) (9 + length c.front)
    opens c =
        let at : k ≡ length (head me mask) + (k - 9) = omega (arith, head_nine me mask) in
        ap (λ (i : ℕ). opening me (take i (head me mask ++ journal))) at
        ∙ ap (opening me) (take-append-add (head me mask) journal (k - 9) ∙ ap (λ (x : List ℕ). head me mask ++ x) c.left
        ∙ sym (append_assoc (head me mask) c.front c.tail))
        ∙ journal_opens me mask m c.state c.front c.past c.tail c.free
