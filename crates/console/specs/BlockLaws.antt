-- A block of lines: what was answered up to a place and what is left make the whole (`Reached`). Assumes nothing.
use Rattle.std.specs.Prelude.{ℕ, ◌+◌, ◌-◌, ◌≤◌, ◌<◌, ◌≡◌, Bool, true, false, ◌||◌, eqb, ltb, leb, take, drop}
use Rattle.std.proofs.Common.{arith, ap, ◌∙◌, true≢false, length-append}
use Rattle.std.proofs.Math.Path.{refl, sym}
use mathlib.Core.List.{List, [], ◌∷◌, ◌++◌, append-nil}
use Rattle.std.proofs.Math.ListN.{length, length-take, length-drop, drop_of_length-le}
use borrow.Author.Tests.{eqb-true, eqb-false, ltb-true, ltb-false, leb-true, le-leb, lt-leb}
use Rattle.raft.specs.Record.{State}
use Rattle.raft.specs.Sends.{texts}
use Rattle.raft.specs.Journal.{journaled}
use Rattle.raft.specs.Outcome.{Outcome, done, refuse}
use Rattle.journal.specs.Lines.{lines}
use Rattle.record.specs.declared.Record.{Record}
use Rattle.record.specs.Calls.{state_of}
use Rattle.text.specs.Lines.{first_line}
use Rattle.text.specs.LinesLaws.{first-most}
use Rattle.opening.specs.ReplayCode.{lines_end, lines_next}
use Rattle.console.specs.Session.{outcome_of, printed}
use Rattle.console.specs.Calls.{Answered, longest, AfterLine, outcome_answer, line_answer, AnswersLine, answer_next, answer_rest, reached, lines_answer, AnswersLines, Known}
use Rattle.printing.specs.TextLaws.{rest-whole, refusal-most}
use Rattle.console.specs.AnswerLaws.{outcome-short}

-- an answer never passes the room
line_answer-most : (b : Record) (line terms orders room : List ℕ) → (line_answer b line terms orders room).answer.bytes ≤ length room
unfolding line_answer outcome_answer printed
line_answer-most b line terms orders room = by-room (leb longest (length room)) refl
  where
    s : State
    s = state_of b terms orders

    by-outcome : (o : Outcome) → outcome_of line s ≡ o → longest ≤ length room → (outcome_answer o b terms orders room).answer.bytes ≤ length room
    by-outcome (done t ms) e h =
        let short = outcome-short line s t ms e in
        rw (length-append (journaled s t) (texts ms)) (omega (arith, short.line, short.sent))
    by-outcome (refuse n) e h = omega (arith, refusal-most n)

    by-room : (f : Bool) → leb longest (length room) ≡ f → (line_answer b line terms orders room).answer.bytes ≤ length room
    by-room true e = rw e (by-outcome (outcome_of line s) refl (leb-true longest (length room) e))
    by-room false e = rw e (omega arith)

-- Where the loop is: the places lie within, what was answered up to here and what is left make the whole, and of the record is known what was at first.
pub record Reached (known : Bool) (n : Record) (bytes terms₀ orders₀ room₀ : List ℕ) (b : Record) (at to : ℕ) (terms orders room : List ℕ) : Type 0 where
  pub inside : at ≤ length bytes
  pub within : to ≤ length room
  pub long : length room ≡ length room₀
  pub whole : lines_answer n bytes terms₀ orders₀ room₀ ≡ answer_rest (reached b at to terms orders room) (lines (drop at bytes))
  pub knows : Known known b terms orders

-- at first nothing is answered
pub reached-first : {known : Bool} {n : Record} {bytes terms orders room : List ℕ} → Known known n terms orders
    → Reached known n bytes terms orders room n 0 0 terms orders room
unfolding lines_answer
reached-first k = record { inside = omega arith; within = omega arith; long = refl; whole = refl; knows = k }

module _ {known : Bool} {n : Record} {bytes terms₀ orders₀ room₀ : List ℕ} {b : Record} {at to : ℕ} {terms orders room : List ℕ}
    (k : Reached known n bytes terms₀ orders₀ room₀ b at to terms orders room) {end : ℕ} (e : end ≡ at + first_line (drop at bytes)) where
  -- the line's end lies within the bytes
  pub end_inside : end ≤ length bytes
  end_inside = omega (arith, e, first-most (drop at bytes), length-drop at bytes, k.inside)

  -- no whole line is left, or no room for one more answer
  pub block_stops : (eqb end at || ltb (length room - to) longest) ≡ true
      → AnswersLines n bytes terms₀ orders₀ room₀ (record { state = b; consumed = at; bytes = to }) terms orders room
  unfolding answer_rest
  block_stops q = sym (k.whole ∙ go (eqb end at) refl)
    where
      short : (ls : List (List ℕ)) → length room - to < longest → answer_rest (reached b at to terms orders room) ls ≡ reached b at to terms orders room
      short [] h = refl
      short (l ∷ ls) h = rw (lt-leb longest (length room - to) h)

      go : (x : Bool) → eqb end at ≡ x
          → answer_rest (reached b at to terms orders room) (lines (drop at bytes)) ≡ reached b at to terms orders room
      go true p = rw (lines_end bytes at k.inside (omega (arith, e, eqb-true end at p))).0
      go false p = short (lines (drop at bytes)) (ltb-true (length room - to) longest (rw p at q))

  -- otherwise both are there
  pub record Goes : Type 0 where
    pub further : at < end
    pub wide : longest ≤ length room - to

  module _ (q : (eqb end at || ltb (length room - to) longest) ≡ false) where
    pub block_goes : Goes
    block_goes = go (eqb end at) refl (ltb (length room - to) longest) refl
      where
        go : (x : Bool) → eqb end at ≡ x → (y : Bool) → ltb (length room - to) longest ≡ y → Goes
        go true p y r = absurd (true≢false (sym (rw p) ∙ q))
        go false p true r = absurd (true≢false (sym (rw (p, r)) ∙ q))
        go false p false r =
            let other : end ≡ at → ⊥ = eqb-false end at p in
            record { further = omega (arith, e, other); wide = ltb-false (length room - to) longest r }

    -- the room that is left
    abbrev rest : List ℕ
    rest = take (length room - to) (drop to room)

    rest-long : length rest ≡ length room - to
    rest-long = omega (arith, length-take (length room - to) (drop to room), length-drop to room)

    pub rest-wide : longest ≤ length rest
    rest-wide = omega (arith, block_goes.wide, rest-long)

    module _ {one : Answered} {terms' orders' part : List ℕ} (a : AnswersLine b (take (end - at) (drop at bytes)) terms orders rest one terms' orders' part) where
      -- the answer stays within it
      pub one-within : to + one.bytes ≤ length room
      one-within =
          let most = line_answer-most b (take (end - at) (drop at bytes)) terms orders rest in
          omega (arith, ap (λ (x : AfterLine). x.answer.bytes) a, most, rest-long, k.within)

      -- one line more
      one-answered : answer_rest (reached b at to terms orders room) (lines (drop at bytes))
          ≡ answer_rest (reached one.state end (to + one.bytes) terms' orders' (take to room ++ (part ++ drop (length room - to) (drop to room))))
          (lines (drop end bytes))
      unfolding answer_rest answer_next
      one-answered =
          let goes = block_goes in
          let some : first_line (drop at bytes) ≡ 0 → ⊥ = λ z. omega (arith, e, z, goes.further) in
          let gone : end - at ≡ first_line (drop at bytes) = omega (arith, e) in
          let long : at + length (take (end - at) (drop at bytes)) ≡ end =
          omega (arith, e, gone, first-most (drop at bytes), length-take (end - at) (drop at bytes)) in
          rw (
            (lines_next bytes at k.inside some).0,
            ← e,
            ← gone,
            le-leb longest (length room - to) goes.wide,
            drop_of_length-le (drop to room) {i = length room - to} (simp length-drop (omega arith)),
            append-nil part,
            ← rest-whole room to,
            ← a,
            long,
          )

      pub block_next : Known known one.state terms' orders' → length part ≡ length rest
          → Reached known n bytes terms₀ orders₀ room₀ one.state end (to + one.bytes) terms' orders'
          (take to room ++ (part ++ drop (length room - to) (drop to room)))
      block_next knows same =
          record {
            inside = end_inside;
            within = omega (arith, one-within, long);
            long = long ∙ k.long;
            whole = k.whole ∙ one-answered;
            knows = knows;
          }
        where
          long : length (take to room ++ (part ++ drop (length room - to) (drop to room))) ≡ length room
          long = simp (length-append, length-take, length-drop, same) (omega (arith, k.within))
