-- A run of the program, call by call and read by read: what it prints is the session of all that it reads. Assumes nothing.
use Rattle.std.specs.Prelude.{ℕ, zero, suc, ◌≤◌, ◌<◌, ◌≡◌, refl, Bool, true, false, cond, List, [], ◌∷◌, ◌++◌, eqb, length, take, drop}
use Rattle.std.proofs.Common.{arith, sym, ap, ◌∙◌, append_assoc, append-nil, length-append, length-take, length-drop, eqb-true}
use Rattle.std.proofs.lemmas.Bool.{eqb-false}
use Rattle.frames.specs.Limits.{log_limit, longest_message}
use Rattle.frames.specs.Message.{line_feed}
use Rattle.raft.specs.Record.{State}
use Rattle.raft.proofs.SendLaws.{All}
use Rattle.journal.specs.Lines.{lines}
use Rattle.journal.proofs.LinesLaws.{Feedless, Whole, strung, Split, split, split_lines, lines_none, lines-first}
use Rattle.record.specs.declared.Record.{Record}
use Rattle.record.specs.Calls.{state_of}
use Rattle.console.specs.Session.{answers, talk, session}
use Rattle.console.specs.Calls.{longest, Beginning, beginning, AfterLines, lines_answer}
use Rattle.console.proofs.SessionLaws.{text_of, LinesAnswered, lines_print, all-answered, shortened_same, too_long-start, session-none, session-begins}

-- ---- a line of which only a part is kept

-- Bytes with no whole line have no line feed.
feedless : (bytes : List ℕ) → lines bytes ≡ [] → Feedless bytes
unfolding strung
feedless bytes e =
    let s = split bytes in
    let none : s.whole ≡ [] = sym (split_lines bytes s) ∙ e in
    let same : bytes ≡ s.tail = s.is ∙ ap (λ (ls : List (List ℕ)). strung ls ++ s.tail) none in
    rw same s.free

-- What has none keeps none, with more such bytes behind it,
feedless_both : (a b : List ℕ) → Feedless a → Feedless b → Feedless (a ++ b)
unfolding All
feedless_both [] b f g = g
feedless_both (c ∷ a) b f g = (f.0, feedless_both a b f.1 g)

-- or cut off.
feedless_take : (n : ℕ) (a : List ℕ) → Feedless a → Feedless (take n a)
unfolding All
feedless_take zero a f = tt
feedless_take (suc n) [] f = tt
feedless_take (suc n) (c ∷ a) f = (f.0, feedless_take n a f.1)

-- Bytes with no line feed before a whole line are that line's beginning.
whole-begun : (a line : List ℕ) → Feedless a → Whole line → Whole (a ++ line)
whole-begun a line f w =
    record {
      front = a ++ w.front;
      free = feedless_both a w.front f w.free;
      ended = ap (λ (l : List ℕ). a ++ l) w.ended ∙ sym (append_assoc a w.front (line_feed ∷ []));
    }

-- Any bytes have no line feed, or begin with a whole line.
by_first : (P : List ℕ → Type 0) → ((tail : List ℕ) → Feedless tail → P tail) → ((line rest : List ℕ) → Whole line → P (line ++ rest))
    → (bytes : List ℕ) → P bytes
unfolding All strung
by_first P none some bytes = go s.whole s.each s.is
  where
    s : Split bytes
    s = split bytes

    go : (ls : List (List ℕ)) → All Whole ls → bytes ≡ strung ls ++ s.tail → P bytes
    go [] a i = rw i (none s.tail s.free)
    go (l ∷ ls) a i = rw (i, append_assoc l (strung ls) s.tail) (some l (strung ls ++ s.tail) a.0)

module _ (a b : List ℕ) (f : Feedless a) (g : Feedless b) (h : longest_message < length a) (k : longest_message < length b) where
  -- Two lines begun that are too long already, and the same input behind them: whatever makes no difference between two first lines that are too long
  -- makes none here.
  shortened-lines : (F : List (List ℕ) → List ℕ)
      → ((x y : List ℕ) (rest : List (List ℕ)) → longest_message < length x → longest_message < length y → F (x ∷ rest) ≡ F (y ∷ rest))
      → (more : List ℕ) → F (lines (a ++ more)) ≡ F (lines (b ++ more))
  shortened-lines F same =
      by_first (λ more. F (lines (a ++ more)) ≡ F (lines (b ++ more)))
      (λ tail n. rw (lines_none (a ++ tail) (feedless_both a tail f n), lines_none (b ++ tail) (feedless_both b tail g n)))
      (λ line rest w.
      rw (
        ← append_assoc a line rest,
        ← append_assoc b line rest,
        lines-first (a ++ line) rest (whole-begun a line f w),
        lines-first (b ++ line) rest (whole-begun b line g w),
      )
      (same (a ++ line) (b ++ line) (lines rest) (simp length-append (omega arith)) (simp length-append (omega arith))))

  -- So it is with what a box answers,
  pub shortened-answers : (s : State) (more : List ℕ) → answers s (lines (a ++ more)) ≡ answers s (lines (b ++ more))
  unfolding answers
  shortened-answers s = shortened-lines (answers s) (λ x y rest p q. rw (shortened_same x y s p q))

  -- and with what a session prints.
  pub shortened-session : (more : List ℕ) → session (a ++ more) ≡ session (b ++ more)
  unfolding session talk
  shortened-session =
      shortened-lines talk (λ x y rest p q. rw (too_long-start x (omega arith), too_long-start y (omega arith)))

-- ---- the lines behind the first

-- A box, its lent log, the bytes that the block holds, those that are to be read yet, and what is printed from here on.
pub data Run : Record → List ℕ → List ℕ → List ℕ → List ℕ → List ℕ → Type 0 where
  -- a call answers lines of the block and prints their answers
  answers_block : {b : Record} {held terms orders input printed : List ℕ} (room : List ℕ) (y : AfterLines) → y ≡ lines_answer b held terms orders room
      → Run y.answer.state y.terms y.orders (drop y.answer.consumed held) input printed
      → Run b terms orders held input (text_of y ++ printed)
  -- more is read behind what the block holds
  reads : {b : Record} {held terms orders input printed : List ℕ} (block : List ℕ) → Run b terms orders (held ++ block) input printed
      → Run b terms orders held (block ++ input) printed
  -- a call took nothing, and of a line that is too long already only a part is kept, that is too long too
  shortens : {b : Record} {held terms orders input printed : List ℕ} (room : List ℕ) → longest ≤ length room
      → (lines_answer b held terms orders room).answer.consumed ≡ 0 → (n : ℕ) → longest_message < length (take n held)
      → Run b terms orders (take n held) input printed → Run b terms orders held input printed
  -- a call took nothing, and the input has ended
  ends : {b : Record} {held terms orders : List ℕ} (room : List ℕ) → longest ≤ length room → (lines_answer b held terms orders room).answer.consumed ≡ 0
      → Run b terms orders held [] []

-- **However the input is cut, what is printed is what the box has to print of all its lines.**
pub run-prints : (b : Record) (terms orders held input printed : List ℕ) → Run b terms orders held input printed → length terms ≡ log_limit
    → length orders ≡ log_limit → printed ≡ answers (state_of b terms orders) (lines (held ++ input))
unfolding answers
run-prints b terms orders held input text (answers_block {printed = printed} room y e r) p q =
    let t : LinesAnswered b held terms orders y = rw e (lines_print b held terms orders room p q) in
    let rest = run-prints y.answer.state y.terms y.orders (drop y.answer.consumed held) input printed r t.terms_stay t.orders_stay in
    ap (λ (l : List ℕ). text_of y ++ l) rest ∙ sym (t.prints_on input)
run-prints b terms orders held _ printed (reads {input = input} block r) p q =
    rw (← append_assoc held block input) (run-prints b terms orders (held ++ block) input printed r p q)
run-prints b terms orders held input printed (shortens room wide none n long r) p q =
    let free = feedless held (all-answered b held terms orders room wide none).0 in
    run-prints b terms orders (take n held) input printed r p q
    ∙ shortened-answers (take n held) held (feedless_take n held free) free long (omega (arith, length-take n held)) (state_of b terms orders) input
run-prints b terms orders held input printed (ends room wide none) p q =
    rw (append-nil held, (all-answered b held terms orders room wide none).0) refl

-- ---- the whole program

-- What the answer to a first line prints.
abbrev pub begun_text : List ℕ → List ℕ → List ℕ
begun_text first room = take (beginning first room).answer.bytes (beginning first room).room

-- The bytes that the block holds before the first line is answered, those that are to be read yet, and what is printed.
pub data Program : List ℕ → List ℕ → List ℕ → Type 0 where
  -- more is read behind what the block holds
  waits : {held input printed : List ℕ} (block : List ℕ) → Program (held ++ block) input printed → Program held (block ++ input) printed
  -- of a first line that is too long already only a part is kept, that is too long too
  cuts : {held input printed : List ℕ} → lines held ≡ [] → (n : ℕ) → longest_message < length (take n held) → Program (take n held) input printed
      → Program held input printed
  -- the input has ended before the first line was whole
  stops : {held : List ℕ} → lines held ≡ [] → Program held [] []
  -- the first line starts no box: its answer is all that is printed
  refuses : {input : List ℕ} (first rest room : List ℕ) → Whole first → longest ≤ length room → (beginning first room).answer.started ≡ false
      → Program (first ++ rest) input (begun_text first room)
  -- it starts one: its answer is printed, and then what that box prints, whatever log is lent
  starts : {input printed : List ℕ} (first rest room terms orders : List ℕ) → Whole first → longest ≤ length room
      → (beginning first room).answer.started ≡ true → length terms ≡ log_limit → length orders ≡ log_limit
      → Run (beginning first room).answer.state terms orders rest input printed → Program (first ++ rest) input (begun_text first room ++ printed)

-- The session of a first line and what is behind it.
begun-session : (first rest input room terms orders : List ℕ) → Whole first → longest ≤ length room
    → session (first ++ rest ++ input)
    ≡ begun_text first room
    ++ cond (beginning first room).answer.started (answers (state_of (beginning first room).answer.state terms orders) (lines (rest ++ input))) []
begun-session first rest input room terms orders w wide =
    rw (append_assoc first rest input)
    (session-begins (first ++ (rest ++ input)) first (lines (rest ++ input)) room (lines-first first (rest ++ input) w) wide terms orders)

-- **Whatever the program reads, and however it is cut, what it prints is the session of it.**
pub program_prints : (held input printed : List ℕ) → Program held input printed → printed ≡ session (held ++ input)
program_prints held _ printed (waits {input = input} block r) =
    rw (← append_assoc held block input) (program_prints (held ++ block) input printed r)
program_prints held input printed (cuts none n long r) =
    let free = feedless held none in
    program_prints (take n held) input printed r
    ∙ shortened-session (take n held) held (feedless_take n held free) free long (omega (arith, length-take n held)) input
program_prints held input printed (stops none) = sym (session-none (held ++ []) (rw (append-nil held) none))
program_prints _ input printed (refuses first rest room w wide not) =
    sym (begun-session first rest input room [] [] w wide ∙ rw (not, append-nil (begun_text first room)))
program_prints _ input _ (starts {printed = printed} first rest room terms orders w wide is p q r) =
    let behind = run-prints (beginning first room).answer.state terms orders rest input printed r p q in
    ap (λ (l : List ℕ). begun_text first room ++ l) behind ∙ sym (begun-session first rest input room terms orders w wide ∙ rw is)

-- From nothing held: the whole input.
pub program_session : (input printed : List ℕ) → Program [] input printed → printed ≡ session input
program_session input printed r = program_prints [] input printed r

-- ---- and there is such a run

-- Called again and again, the program comes to where nothing is consumed, since each call before consumes something.
calls_end : (n : ℕ) (b : Record) (terms orders held room : List ℕ) → length held ≤ n → longest ≤ length room → length terms ≡ log_limit
    → length orders ≡ log_limit → (printed : List ℕ) × Run b terms orders held [] printed
calls_end zero b terms orders held room l wide p q =
    let none : (lines_answer b held terms orders room).answer.consumed ≡ 0 = omega (arith, (lines_print b held terms orders room p q).consumed) in
    ([], ends room wide none)
calls_end (suc n) b terms orders held room l wide p q =
    let t = lines_print b held terms orders room p q in
    go (eqb y.answer.consumed 0) refl
    (λ some.
    let less : length (drop y.answer.consumed held) ≤ n = omega (arith, some, length-drop y.answer.consumed held) in
    calls_end n y.answer.state y.terms y.orders (drop y.answer.consumed held) room less wide t.terms_stay t.orders_stay)
  where
    y : AfterLines
    y = lines_answer b held terms orders room

    go : (e : Bool) → eqb y.answer.consumed 0 ≡ e
        → (1 ≤ y.answer.consumed
        → (printed : List ℕ) × Run y.answer.state y.terms y.orders (drop y.answer.consumed held) [] printed)
        → (printed : List ℕ) × Run b terms orders held [] printed
    go true e more = ([], ends room wide (eqb-true y.answer.consumed 0 e))
    go false e more =
        let some : (y.answer.consumed ≡ 0 → ⊥) = eqb-false y.answer.consumed 0 e in
        let rest = more (omega arith) in
        (text_of y ++ rest.0, answers_block room y refl rest.1)

module _ (room terms orders : List ℕ) (wide : longest ≤ length room) (p : length terms ≡ log_limit) (q : length orders ≡ log_limit) where
  -- So whatever a box holds and reads, there is a run of it,
  pub run-there : (b : Record) (held input : List ℕ) → Run b terms orders held input (answers (state_of b terms orders) (lines (held ++ input)))
  run-there b held input =
      let all = calls_end (length (held ++ input)) b terms orders (held ++ input) room (omega arith) wide p q in
      let same : all.0 ≡ answers (state_of b terms orders) (lines (held ++ input)) =
      rw (append-nil (held ++ input)) at (run-prints b terms orders (held ++ input) [] all.0 all.1 p q) in
      let whole : Run b terms orders held (input ++ []) all.0 = reads input all.1 in
      rw (append-nil input, same) at whole

  -- a first line is answered, and the box that it starts goes on
  program_first : (first rest : List ℕ) → Whole first → (printed : List ℕ) × Program (first ++ rest) [] printed
  program_first first rest w = go x.answer.started refl
    where
      x : Beginning
      x = beginning first room

      go : (b : Bool) → x.answer.started ≡ b → (printed : List ℕ) × Program (first ++ rest) [] printed
      go true e =
          (begun_text first room ++ _, starts first rest room terms orders w wide e p q (run-there x.answer.state rest []))
      go false e = (begun_text first room, refuses first rest room w wide e)

  -- and whatever the program reads, there is one of it.
  pub program_there : (input : List ℕ) → Program [] input (session input)
  program_there input =
      let all =
      by_first (λ bytes. (printed : List ℕ) × Program bytes [] printed) (λ tail f. ([], stops (lines_none tail f)))
      (λ first rest w. program_first first rest w) input in
      let same : all.0 ≡ session input = rw (append-nil input) at (program_prints input [] all.0 all.1) in
      let whole : Program [] (input ++ []) all.0 = waits input all.1 in
      rw (append-nil input, same) at whole
