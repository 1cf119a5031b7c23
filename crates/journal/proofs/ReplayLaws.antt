-- Replay: opening the journal of a run gives the stored part after its last step, and the length of the whole. Assumes nothing.
use Rattle.std.specs.Prelude.{ℕ, suc, ◌+◌, ◌≡◌, refl, Bool, true, false, List, [], ◌∷◌, ◌++◌, length, take}
use Rattle.std.proofs.Common.{arith, sym, ap, ◌∙◌, append-nil, length-append, take_all, length-take-le, eq-eqb}
use Rattle.raft.specs.Record.{State, fresh, is_membership, good}
use Rattle.raft.specs.Journal.{head, line_text, same_stored, line_of, journaled}
use Rattle.raft.proofs.RecordLaws.{good-facts, facts-good, member-facts}
use Rattle.raft.proofs.SendLaws.{All}
use Rattle.raft.proofs.FitLaws.{Fits}
use Rattle.raft.proofs.ReceiveSends.{all_both}
use Rattle.raft.proofs.EventLaws.{step-good, step_fits}
use Rattle.journal.specs.Lines.{whole_bytes, mask_in}
use Rattle.journal.proofs.LinesLaws.{Feedless, Whole, strung, strung-append, lines-strung, counted-strung, lines-whole, whole-lines, whole-most}
use Rattle.journal.proofs.LineSpelling.{line-whole, head_nine, head-whole, head-reads}
use Rattle.journal.specs.Opening.{restarted, Replayed, next, breaks, replayed, opened, go_on, replay, is_head, open_lines, opening}
use Rattle.journal.proofs.OpeningLaws.{restarted-good, restarted-fits, restarted-twice, Begins, opening-begins, opened-sound, opened-good, opened-bytes}
use Rattle.journal.specs.Runs.{Step, by_event, Run, stays, steps, restarts}
use Rattle.journal.specs.StepMoves.{Moved, step-moves}
use Rattle.journal.proofs.StepLine.{step-replayed, step_same, journaled-none, journaled-line}

-- ---- lines behind lines

-- The lines are replayed from one record to another, whatever their numbers and the bytes before them.
abbrev pub Replays : State → List (List ℕ) → State → Type 0
Replays a ls b = (bytes number : ℕ) → replay bytes a number ls ≡ opened b bytes

-- Lines that are replayed, and lines that are replayed from there, are replayed one after the other.
pub replays-on : (bytes : ℕ) (a : State) (number : ℕ) (xs ys : List (List ℕ)) (b c : State) (n : ℕ) → replay bytes a number xs ≡ opened b n
    → Replays b ys c → replay bytes a number (xs ++ ys) ≡ opened c bytes
unfolding replay go_on
replays-on bytes a number [] ys b c n h r = let same : a ≡ b = cc in rw same (r bytes number)
replays-on bytes a number (x ∷ xs) ys b c n h r = go (replayed a x) h (λ u q. replays-on bytes u (suc number) xs ys b c n q r)
  where
    go : (p : Replayed) → go_on p (λ u. replay bytes u (suc number) xs) number ≡ opened b n
        → ((u : State) → replay bytes u (suc number) xs ≡ opened b n → replay bytes u (suc number) (xs ++ ys) ≡ opened c bytes)
        → go_on p (λ u. replay bytes u (suc number) (xs ++ ys)) number ≡ opened c bytes
    go (next u) q rest = rest u q
    go breaks q rest = absurd (let never : ◌≡◌ {A = ℕ} 0 1 = cc in omega arith)

-- What is replayed once is replayed whatever the numbers.
pub replays-again : (bytes : ℕ) (a : State) (number : ℕ) (ls : List (List ℕ)) (b : State) (n : ℕ) → replay bytes a number ls ≡ opened b n
    → Replays a ls b
unfolding replay go_on
replays-again bytes a number [] b n h c k = let same : a ≡ b = cc in rw same
replays-again bytes a number (x ∷ xs) b n h c k = go (replayed a x) h (λ u q. replays-again bytes u (suc number) xs b n q c (suc k))
  where
    go : (p : Replayed) → go_on p (λ u. replay bytes u (suc number) xs) number ≡ opened b n
        → ((u : State) → replay bytes u (suc number) xs ≡ opened b n → replay c u (suc k) xs ≡ opened b c)
        → go_on p (λ u. replay c u (suc k) xs) k ≡ opened b c
    go (next u) q rest = rest u q
    go breaks q rest = absurd (let never : ◌≡◌ {A = ℕ} 0 1 = cc in omega arith)

-- no line
pub replays-none : (a : State) → Replays a [] a
unfolding replay
replays-none a bytes number = refl

-- one line
pub replays-one : (a : State) (line : List ℕ) (b : State) → replayed a line ≡ next b → Replays a (line ∷ []) b
unfolding replay go_on
replays-one a line b h bytes number = rw h

-- ---- the journal of a run

-- The bytes that a run adds: whole lines, replayed from the stored part before it to the one after it.
pub record Written (s t : State) (bytes : List ℕ) : Type 0 where
  pub its_lines : List (List ℕ)
  pub is : bytes ≡ strung its_lines
  pub each : All Whole its_lines
  pub replays : Replays (restarted s) its_lines (restarted t)
  pub holds : good t ≡ true
  pub fits : Fits t

-- one step more
written_more : (s t u : State) (bytes : List ℕ) → Written s t bytes → Step t u → Written s u (bytes ++ journaled t u)
unfolding All strung
written_more s t u bytes w (by_event e ms y o) = go (same_stored t u) refl
  where
    k : good u ≡ true
    k = step-good e t w.holds u ms o

    f : Fits u
    f = (step_fits e t w.holds w.fits y u ms o).0

    m : Moved t u
    m = step-moves e t (good-facts t w.holds) u ms o

    go : (b : Bool) → same_stored t u ≡ b → Written s u (bytes ++ journaled t u)
    go true e =
        record {
          its_lines = w.its_lines;
          is = rw (journaled-none t u e, append-nil) w.is;
          each = w.each;
          replays = rw (← step_same t u (good-facts u k) f m e) w.replays;
          holds = k;
          fits = f;
        }
    go false e =
        let line = line_text (line_of t u) in
        let one = step-replayed t u (good-facts u k) f m e in
        record {
          its_lines = w.its_lines ++ (line ∷ []);
          is = rw (journaled-line t u e, strung-append w.its_lines (line ∷ []), w.is, append-nil);
          each = all_both Whole w.its_lines (line ∷ []) w.each (line-whole (line_of t u), tt);
          replays = λ bytes number. replays-on bytes (restarted s) number w.its_lines (line ∷ []) (restarted t) (restarted u) bytes
              (w.replays bytes number) (replays-one (restarted t) line (restarted u) one);
          holds = k;
          fits = f;
        }

-- From a good record within its types, a run writes such bytes.
pub run-written : (s t : State) (bytes : List ℕ) → good s ≡ true → Fits s → Run s t bytes → Written s t bytes
unfolding All strung
run-written s t bytes h f stays =
    record { its_lines = []; is = refl; each = tt; replays = replays-none (restarted s); holds = h; fits = f }
run-written s u bytes h f (steps {t = t} {bytes = before} r st) = written_more s t u before (run-written s t before h f r) st
run-written s u bytes h f (restarts {t = t} r) =
    let w = run-written s t bytes h f r in
    record {
      its_lines = w.its_lines;
      is = w.is;
      each = w.each;
      replays = rw (restarted-twice t) w.replays;
      holds = facts-good (restarted t) (restarted-good t (good-facts t w.holds));
      fits = restarted-fits t w.fits;
    }

-- ---- opening it

-- A head that is written for a membership is the head of its box, with its mask.
pub head-is : (me mask : ℕ) → is_membership me mask ≡ true → (is_head me (head me mask) ≡ true) × (mask_in (head me mask) ≡ mask)
unfolding is_head
head-is me mask m =
    let f = member-facts me mask m in
    let h = head-reads me mask (omega arith) (omega arith) in
    (rw (h.0, h.1, h.2, eq-eqb me me refl) m, h.2)

-- A head, lines that are replayed from its fresh box, and any end with no line feed: opening gives the last record and the lines' length.
pub opening-strung : (me mask : ℕ) (ls : List (List ℕ)) (t : State) (tail : List ℕ) → is_membership me mask ≡ true → All Whole ls
    → Replays (fresh me mask) ls t → Feedless tail
    → opening me (strung (head me mask ∷ ls) ++ tail) ≡ opened t (length (strung (head me mask ∷ ls)))
unfolding opening open_lines All
opening-strung me mask ls t tail m a r f =
    let whole : All Whole (head me mask ∷ ls) = (head-whole me mask, a) in
    let h = head-is me mask m in
    rw (lines-strung (head me mask ∷ ls) tail whole f, counted-strung (head me mask ∷ ls) tail whole f, h.0, h.1)
    (r (length (strung (head me mask ∷ ls))) 2)

-- What was opened: a head and whole lines that are replayed from its fresh box, as many bytes as were counted.
pub record Opens (me : ℕ) (bytes : List ℕ) (s : State) (n : ℕ) : Type 0 where
  pub mask : ℕ
  pub behind : List (List ℕ)
  pub member : is_membership me mask ≡ true
  pub each : All Whole behind
  pub front : take n bytes ≡ strung (head me mask ∷ behind)
  pub long : length (take n bytes) ≡ n
  pub replays : Replays (fresh me mask) behind s

-- Opening says this.
pub opened-opens : (me : ℕ) (bytes : List ℕ) (s : State) (n : ℕ) → opening me bytes ≡ opened s n → Opens me bytes s n
unfolding All
opened-opens me bytes s n h = go (opening-begins me bytes s n h) (opened-bytes me bytes s n h)
  where
    go : Begins me bytes s n → n ≡ whole_bytes bytes → Opens me bytes s n
    go b e =
        let whole : All Whole (head me b.mask ∷ b.behind) = rw b.is at (lines-whole bytes) in
        record {
          mask = b.mask;
          behind = b.behind;
          member = b.member;
          each = whole.1;
          front = ap (λ (k : ℕ). take k bytes) e ∙ whole-lines bytes ∙ ap strung b.is;
          long = ap (λ (k : ℕ). length (take k bytes)) e ∙ length-take-le (whole_bytes bytes) bytes (whole-most bytes) ∙ sym e;
          replays = replays-again (whole_bytes bytes) (fresh me b.mask) 2 b.behind s n b.rest;
        }

-- **Replay.** A journal was opened; a run goes on from the record that it gave and writes its lines at the count that it gave. Opening the
-- journal again, whatever end with no line feed it has, gives the stored part after the run's last step, and the count to its end.
pub replay_law : (me : ℕ) (bytes : List ℕ) (s : State) (n : ℕ) → opening me bytes ≡ opened s n → (t : State) (journal : List ℕ)
    → Run s t journal → (tail : List ℕ) → Feedless tail
    → opening me ((take n bytes ++ journal) ++ tail) ≡ opened (restarted t) (n + length journal)
replay_law me bytes s n h t journal r tail f =
    go (opened-opens me bytes s n h) (opened-sound me bytes s n h).bare
    (run-written s t journal (opened-good me bytes s n h) (opened-sound me bytes s n h).fits r)
  where
    go : Opens me bytes s n → restarted s ≡ s → Written s t journal
        → opening me ((take n bytes ++ journal) ++ tail) ≡ opened (restarted t) (n + length journal)
    go o bare w =
        let all : take n bytes ++ journal ≡ strung (head me o.mask ∷ (o.behind ++ w.its_lines)) =
        rw (o.front, w.is) (sym (strung-append (head me o.mask ∷ o.behind) w.its_lines)) in
        let there : Replays s w.its_lines (restarted t) = rw bare at w.replays in
        ap (λ (l : List ℕ). opening me (l ++ tail)) all
        ∙ opening-strung me o.mask (o.behind ++ w.its_lines) (restarted t) tail o.member
        (all_both Whole o.behind w.its_lines o.each w.each)
        (λ c k. replays-on c (fresh me o.mask) k o.behind w.its_lines s (restarted t) c (o.replays c k) there) f
        ∙ ap (opened (restarted t)) (ap length (sym all) ∙ length-append (take n bytes) journal ∙ rw o.long)

-- A head alone opens as the fresh box, whatever end with no line feed it has.
pub head-opens : (me mask : ℕ) → is_membership me mask ≡ true → (tail : List ℕ) → Feedless tail
    → opening me (head me mask ++ tail) ≡ opened (fresh me mask) 9
unfolding All strung
head-opens me mask m tail f =
    ap (λ (l : List ℕ). opening me (l ++ tail)) (sym (append-nil (head me mask)))
    ∙ opening-strung me mask [] (fresh me mask) tail m tt (replays-none (fresh me mask)) f
    ∙ ap (opened (fresh me mask)) (ap length (append-nil (head me mask)) ∙ head_nine me mask)

-- So from a start: the head, and what the fresh box's run writes behind it.
pub journal_opens : (me mask : ℕ) → is_membership me mask ≡ true → (t : State) (journal : List ℕ) → Run (fresh me mask) t journal
    → (tail : List ℕ) → Feedless tail → opening me ((head me mask ++ journal) ++ tail) ≡ opened (restarted t) (9 + length journal)
unfolding All
journal_opens me mask m t journal r tail f =
    let whole : take 9 (head me mask) ≡ head me mask = take_all 9 (head me mask) (omega (arith, head_nine me mask)) in
    let alone : opening me (head me mask) ≡ opened (fresh me mask) 9 =
    ap (opening me) (sym (append-nil (head me mask))) ∙ head-opens me mask m [] tt in
    rw whole at (replay_law me (head me mask) (fresh me mask) 9 alone t journal r tail f)
