-- The signer's reading of opening: what a line and a head are, by their text, and when each of the three answers is given, exactly.
-- Assumes nothing.
use Rattle.std.specs.Prelude.{ℕ, suc, ◌+◌, ◌≡◌, refl, Bool, true, false, cond, List, [], ◌∷◌, ◌++◌, ◌⊎◌, length}
use Rattle.std.proofs.Common.{add-zero, arith, sym, ap, ◌∙◌, append_assoc, inl, inr}
use Rattle.frames.specs.Message.{IsSized}
use Rattle.raft.specs.Record.{State, fresh, is_membership}
use Rattle.raft.specs.Journal.{head, Line, line_text}
use Rattle.raft.specs.Exactly.{Exactly}
use Rattle.journal.specs.Lines.{lines, whole_bytes, mask_in, line_in}
use Rattle.journal.proofs.LinesLaws.{strung, lines-first, split, split_lines}
use Rattle.journal.proofs.LineSpelling.{line_fields, line_reads, line_exactly, line-sized, head-whole}
use Rattle.journal.specs.Opening.{after, Replayed, next, breaks, replayed, opened, headless, broken, go_on, replay, is_head, open_lines, opening}
use Rattle.journal.proofs.OpeningLaws.{Allowed, facts-allowed, replayed-goes, is_head_exactly, opened-bytes}
use Rattle.journal.proofs.ReplayLaws.{Replays, replays-none, replays-again, head-is}

-- ---- one line

-- A line is replayed only where the bytes spell a line that the rules allow, and then to the record after that line.
pub record Spells (s : State) (bytes : List ℕ) (t : State) : Type 0 where
  pub line : Line
  pub allowed : Allowed s line
  pub fits : IsSized (line_fields line)
  pub text : bytes ≡ line_text line
  pub is : after s line ≡ t

-- Replayed, so it is such a line,
pub next_exactly : (s : State) (bytes : List ℕ) (t : State) → replayed s bytes ≡ next t → Spells s bytes t
next_exactly s bytes t h =
    let g = replayed-goes s bytes t h in
    record {
      line = line_in bytes;
      allowed = g.allowed;
      fits = line-sized bytes g.shaped;
      text = sym (line_exactly bytes g.shaped);
      is = g.is;
    }

-- and such a line is replayed.
pub next-when : (s : State) (bytes : List ℕ) (t : State) → Spells s bytes t → replayed s bytes ≡ next t
unfolding replayed
next-when s bytes t p =
    let r = line_reads p.line p.fits in
    rw (p.text, r.0, r.1, facts-allowed s p.line p.allowed, p.is)

-- What breaks a rule is the spelling of no such line,
pub breaks_exactly : (s : State) (bytes : List ℕ) → replayed s bytes ≡ breaks → (t : State) → Spells s bytes t → ⊥
breaks_exactly s bytes h t p = let never : ◌≡◌ {A = ℕ} 0 1 = cc (next-when s bytes t p) in omega arith

-- and what is the spelling of none breaks a rule.
pub breaks-when : (s : State) (bytes : List ℕ) → ((t : State) → Spells s bytes t → ⊥) → replayed s bytes ≡ breaks
breaks-when s bytes none = go (replayed s bytes) refl
  where
    go : (r : Replayed) → replayed s bytes ≡ r → replayed s bytes ≡ breaks
    go (next t) e = absurd (none t (next_exactly s bytes t e))
    go breaks e = e

-- ---- 11, for the head alone

-- the lines behind a head are never answered 11
replay_headed : (bytes : ℕ) (s : State) (number : ℕ) (ls : List (List ℕ)) → replay bytes s number ls ≡ headless → ⊥
unfolding replay go_on
replay_headed bytes s number [] h = let never : ◌≡◌ {A = ℕ} 0 1 = cc in omega arith
replay_headed bytes s number (l ∷ ls) h = go (replayed s l) h (λ t. replay_headed bytes t (suc number) ls)
  where
    go : (r : Replayed) → go_on r (λ t. replay bytes t (suc number) ls) number ≡ headless
        → ((t : State) → replay bytes t (suc number) ls ≡ headless → ⊥) → ⊥
    go (next t) q rest = rest t q
    go breaks q rest = let never : ◌≡◌ {A = ℕ} 0 1 = cc in omega arith

-- bytes that begin with a proper head go on behind it
opening_headed : (me mask : ℕ) (rest : List ℕ) → is_membership me mask ≡ true
    → opening me (head me mask ++ rest) ≡ replay (whole_bytes (head me mask ++ rest)) (fresh me mask) 2 (lines rest)
unfolding opening open_lines
opening_headed me mask rest m =
    let h = head-is me mask m in
    rw (lines-first (head me mask) rest (head-whole me mask), h.0, h.1)

-- Bytes that begin with the head of a membership, for the box asked for.
pub record Headed (me : ℕ) (bytes : List ℕ) : Type 0 where
  pub mask : ℕ
  pub rest : List ℕ
  pub member : is_membership me mask ≡ true
  pub is : bytes ≡ head me mask ++ rest

-- then opening goes on behind it
headed_on : (me : ℕ) (bytes : List ℕ) (h : Headed me bytes)
    → opening me bytes ≡ replay (whole_bytes bytes) (fresh me h.mask) 2 (lines h.rest)
headed_on me bytes h =
    ap (opening me) h.is ∙ opening_headed me h.mask h.rest h.member
    ∙ ap (λ (l : List ℕ). replay (whole_bytes l) (fresh me h.mask) 2 (lines h.rest)) (sym h.is)

-- Bytes begin so, or they are answered 11.
headed_or : (me : ℕ) (bytes : List ℕ) → Headed me bytes ⊎ (opening me bytes ≡ headless)
unfolding opening open_lines strung
headed_or me bytes = rw (split_lines bytes (split bytes)) (go (split bytes).whole (split bytes).is)
  where
    headed : (line : List ℕ) (ls : List (List ℕ)) → bytes ≡ strung (line ∷ ls) ++ (split bytes).tail → (b : Bool) → is_head me line ≡ b
        → Headed me bytes ⊎ (cond b (replay (whole_bytes bytes) (fresh me (mask_in line)) 2 ls) headless ≡ headless)
    headed line ls e true p =
        let h = is_head_exactly me line p in
        inl (record {
          mask = mask_in line;
          rest = strung ls ++ (split bytes).tail;
          member = h.1;
          is = e ∙ append_assoc line (strung ls) (split bytes).tail ∙ ap (λ (l : List ℕ). l ++ (strung ls ++ (split bytes).tail)) (sym h.0);
        })
    headed line ls e false p = inr refl

    go : (ls : List (List ℕ)) → bytes ≡ strung ls ++ (split bytes).tail
        → Headed me bytes ⊎ (open_lines me (whole_bytes bytes) ls ≡ headless)
    go [] e = inr refl
    go (line ∷ ls) e = headed line ls e (is_head me line) refl

-- What is answered 11 does not begin so,
pub headless_exactly : (me : ℕ) (bytes : List ℕ) → opening me bytes ≡ headless → Headed me bytes → ⊥
headless_exactly me bytes h b = replay_headed _ (fresh me b.mask) 2 (lines b.rest) (sym (headed_on me bytes b) ∙ h)

-- and what does not begin so is answered 11.
pub headless-when : (me : ℕ) (bytes : List ℕ) → (Headed me bytes → ⊥) → opening me bytes ≡ headless
headless-when me bytes none = go (headed_or me bytes)
  where
    go : Headed me bytes ⊎ (opening me bytes ≡ headless) → opening me bytes ≡ headless
    go (inl h) = absurd (none h)
    go (inr e) = e

-- ---- opened

-- What is opened begins so, and its lines behind the head are replayed to the record; the bytes are those of the whole lines,
pub opened_exactly : (me : ℕ) (bytes : List ℕ) (s : State) (n : ℕ) → opening me bytes ≡ opened s n
    → (h : Headed me bytes) × Replays (fresh me h.mask) (lines h.rest) s × (n ≡ whole_bytes bytes)
opened_exactly me bytes s n e = go (headed_or me bytes)
  where
    go : Headed me bytes ⊎ (opening me bytes ≡ headless)
        → (h : Headed me bytes) × Replays (fresh me h.mask) (lines h.rest) s × (n ≡ whole_bytes bytes)
    go (inl h) =
        let r = replays-again (whole_bytes bytes) (fresh me h.mask) 2 (lines h.rest) s n (sym (headed_on me bytes h) ∙ e) in
        (h, r, opened-bytes me bytes s n e)
    go (inr q) = absurd (let never : ◌≡◌ {A = ℕ} 0 1 = cc in omega arith)

-- and where that is so it is opened.
pub opened-when : (me : ℕ) (bytes : List ℕ) (s : State) (h : Headed me bytes) → Replays (fresh me h.mask) (lines h.rest) s
    → opening me bytes ≡ opened s (whole_bytes bytes)
opened-when me bytes s h r = headed_on me bytes h ∙ r (whole_bytes bytes) 2

-- ---- 10, and the first such line's number

-- Lines that are replayed, then one that breaks a rule, the first of them having a number.
pub record Breaks (s : State) (number : ℕ) (ls : List (List ℕ)) (n : ℕ) : Type 0 where
  pub front : List (List ℕ)
  pub line : List ℕ
  pub behind : List (List ℕ)
  pub state : State
  pub is : ls ≡ front ++ (line ∷ behind)
  pub replays : Replays s front state
  pub bad : replayed state line ≡ breaks
  pub at : n ≡ number + length front

-- What is answered 10 with a line's number is so from the head's fresh box on,
replay-breaks : (bytes : ℕ) (s : State) (number : ℕ) (ls : List (List ℕ)) (n : ℕ) → replay bytes s number ls ≡ broken n → Breaks s number ls n
unfolding replay go_on
replay-breaks bytes s number [] n h = absurd (let never : ◌≡◌ {A = ℕ} 0 1 = cc in omega arith)
replay-breaks bytes s number (l ∷ ls) n h = go (replayed s l) refl h (λ t. replay-breaks bytes t (suc number) ls n)
  where
    go : (r : Replayed) → replayed s l ≡ r → go_on r (λ t. replay bytes t (suc number) ls) number ≡ broken n
        → ((t : State) → replay bytes t (suc number) ls ≡ broken n → Breaks t (suc number) ls n) → Breaks s number (l ∷ ls) n
    go (next t) e q rest =
        let b = rest t q in
        record {
          front = l ∷ b.front;
          line = b.line;
          behind = b.behind;
          state = b.state;
          is = ap (λ (x : List (List ℕ)). l ∷ x) b.is;
          replays = λ c k. rw e (b.replays c (suc k));
          bad = b.bad;
          at = omega (arith, b.at);
        }
    go breaks e q rest =
        record {
          front = [];
          line = l;
          behind = ls;
          state = s;
          is = refl;
          replays = replays-none s;
          bad = e;
          at = (let same : n ≡ number = cc in omega arith);
        }

-- and what is so is answered so.
breaks-replay : (bytes : ℕ) (s t : State) (number : ℕ) (xs : List (List ℕ)) (line : List ℕ) (ys : List (List ℕ)) (c : ℕ)
    → replay bytes s number xs ≡ opened t c → replayed t line ≡ breaks
    → replay bytes s number (xs ++ (line ∷ ys)) ≡ broken (number + length xs)
unfolding replay go_on
breaks-replay bytes s t number [] line ys c h b =
    let same : s ≡ t = cc in
    rw (same, b, add-zero)
breaks-replay bytes s t number (x ∷ xs) line ys c h b = go (replayed s x) h (λ u q. breaks-replay bytes u t (suc number) xs line ys c q b)
  where
    go : (r : Replayed) → go_on r (λ u. replay bytes u (suc number) xs) number ≡ opened t c
        → ((u : State) → replay bytes u (suc number) xs ≡ opened t c
        → replay bytes u (suc number) (xs ++ (line ∷ ys)) ≡ broken (suc number + length xs))
        → go_on r (λ u. replay bytes u (suc number) (xs ++ (line ∷ ys))) number ≡ broken (number + suc (length xs))
    go (next u) q rest = rest u q ∙ ap broken (omega arith)
    go breaks q rest = absurd (let never : ◌≡◌ {A = ℕ} 0 1 = cc in omega arith)

-- What is answered 10 begins with a proper head, and the line with that number is the first behind it that breaks a rule,
pub broken_exactly : (me : ℕ) (bytes : List ℕ) (n : ℕ) → opening me bytes ≡ broken n
    → (h : Headed me bytes) × Breaks (fresh me h.mask) 2 (lines h.rest) n
broken_exactly me bytes n e = go (headed_or me bytes)
  where
    go : Headed me bytes ⊎ (opening me bytes ≡ headless) → (h : Headed me bytes) × Breaks (fresh me h.mask) 2 (lines h.rest) n
    go (inl h) = (h, replay-breaks (whole_bytes bytes) (fresh me h.mask) 2 (lines h.rest) n (sym (headed_on me bytes h) ∙ e))
    go (inr q) = absurd (let never : ◌≡◌ {A = ℕ} 0 1 = cc in omega arith)

-- and where that is so it is answered 10 with that number.
pub broken-when : (me : ℕ) (bytes : List ℕ) (n : ℕ) (h : Headed me bytes) → Breaks (fresh me h.mask) 2 (lines h.rest) n
    → opening me bytes ≡ broken n
broken-when me bytes n h b =
    headed_on me bytes h
    ∙ rw (b.is, b.at) (breaks-replay _ (fresh me h.mask) b.state 2 b.front b.line b.behind _ (b.replays _ 2) b.bad)

-- ---- the rows of 01's table that are opening's ("on opening 11, 10"); the others stand in `record/specs/ExactlyWhen`

-- 11: "no whole line, or the first is no proper head"
pub row_11 : (me : ℕ) (bytes : List ℕ) → Exactly (opening me bytes ≡ headless) (Headed me bytes → ⊥)
row_11 me bytes = record { only = headless_exactly me bytes; when = headless-when me bytes }

-- 10: "a whole line after the head breaks a rule; the first such line's number, the head being 1", behind a proper head
pub row_10 : (me : ℕ) (bytes : List ℕ) (n : ℕ)
    → Exactly (opening me bytes ≡ broken n) ((h : Headed me bytes) × Breaks (fresh me h.mask) 2 (lines h.rest) n)
row_10 me bytes n = record { only = broken_exactly me bytes n; when = λ p. broken-when me bytes n p.0 p.1 }
