-- What the replay of some lines, one after the other, says of opening (`replay`): where all were good, the lines behind them follow; where one breaks a rule, opening
-- names it. Assumes nothing.
use Rattle.std.specs.Prelude.{ℕ, suc, ◌+◌, ◌≤◌, ◌≡◌, Bool, eqb}
use Rattle.std.proofs.Common.{add-zero, arith, ◌∙◌, length-append, eqb-true}
use Rattle.std.proofs.Math.Path.{refl, sym, ap}
use Rattle.std.proofs.Math.Bool.{true, false, cond}
use mathlib.Core.List.{List, [], ◌∷◌, ◌++◌}
use Rattle.std.proofs.Math.ListN.{length}
use Rattle.std.proofs.lemmas.Bool.{eqb-false}
use Rattle.frames.specs.Message.{line_feed}
use Rattle.raft.specs.Record.{State}
use Rattle.raft.proofs.SendLaws.{All}
use Rattle.record.specs.Calls.{state_of}
use Rattle.journal.proofs.LinesLaws.{Whole, strung}
use Rattle.journal.specs.Opening.{next, breaks, replayed, broken, go_on, replay}
use Rattle.opening.specs.Calls.{Replaying, replaying, Blocks, counted, stopped, replay_each}
use Rattle.opening.specs.ReplayCode.{line-breaks, line-goes}

-- One line replayed, those behind it follow;
pub goes-line : (whole n : ℕ) (s t : State) (line : List ℕ) (ls : List (List ℕ)) → replayed s line ≡ next t
    → replay whole s n (line ∷ ls) ≡ replay whole t (suc n) ls
unfolding replay go_on
goes-line whole n s t line ls e = rw e

-- and one that breaks a rule is named.
pub breaks-line : (whole n : ℕ) (s : State) (line : List ℕ) (ls : List (List ℕ)) → replayed s line ≡ breaks → replay whole s n (line ∷ ls) ≡ broken n
unfolding replay go_on
breaks-line whole n s line ls e = rw e

-- ---- some lines

abbrev pub state_in : Blocks → State
state_in x = state_of x.answer.state x.terms x.orders

-- Lines that were all replayed.
pub record AllPassed (x y : Blocks) (ls : List (List ℕ)) : Type 0 where
  pub bytes : y.answer.bytes ≡ x.answer.bytes + length (strung ls)
  pub number : y.answer.lines ≡ x.answer.lines + length ls
  pub on : (whole n : ℕ) (more : List (List ℕ)) → replay whole (state_in x) n (ls ++ more) ≡ replay whole (state_in y) (n + length ls) more

pub all_passed : (x : Blocks) (ls : List (List ℕ)) → (replay_each x ls).answer.refusal ≡ 0 → AllPassed x (replay_each x ls) ls
unfolding replay_each strung
all_passed x [] z =
    record { bytes = omega arith; number = omega arith; on = λ whole n more. ap (λ (k : ℕ). replay whole (state_in x) k more) (sym (add-zero n)) }
all_passed x (line ∷ ls) z = go (all_passed (counted x line one) ls) (eqb one.answer.refusal 0) refl z
  where
    one : Replaying
    one = replaying x.answer.state line x.terms x.orders

    passed : one.answer.refusal ≡ 0 → AllPassed (counted x line one) (replay_each (counted x line one) ls) ls
        → AllPassed x (replay_each (counted x line one) ls) (line ∷ ls)
    passed r rest =
        let goes = line-goes x.answer.state line x.terms x.orders refl r in
        record {
          bytes = rest.bytes ∙ omega (arith, length-append line (strung ls));
          number = rest.number ∙ omega arith;
          on = λ whole n more.
              goes-line whole n (state_in x) goes.to line (ls ++ more) goes.is ∙ ap (λ (s : State). replay whole s (suc n) (ls ++ more)) (sym goes.same)
              ∙ rest.on whole (suc n) more
              ∙ ap (λ (k : ℕ). replay whole (state_in (replay_each (counted x line one) ls)) k more) (let e : suc n + length ls ≡ n + suc (length ls) = omega arith in e);
        }

    go : ((replay_each (counted x line one) ls).answer.refusal ≡ 0 → AllPassed (counted x line one) (replay_each (counted x line one) ls) ls)
        → (c : Bool) → eqb one.answer.refusal 0 ≡ c → (cond c (replay_each (counted x line one) ls) (stopped x)).answer.refusal ≡ 0
        → AllPassed x (cond c (replay_each (counted x line one) ls) (stopped x)) (line ∷ ls)
    go f true e p = passed (eqb-true one.answer.refusal 0 e) (f p)
    go f false e p = absurd (omega (arith, p))

-- Lines of which one breaks a rule: those before it were counted.
pub record OneBreaks (x y : Blocks) (ls : List (List ℕ)) : Type 0 where
  pub before : ℕ
  pub number : y.answer.lines ≡ x.answer.lines + before
  pub on : (whole n : ℕ) (more : List (List ℕ)) → replay whole (state_in x) n (ls ++ more) ≡ broken (n + before)

pub one-breaks : (x : Blocks) (ls : List (List ℕ)) → x.answer.refusal ≡ 0 → ((replay_each x ls).answer.refusal ≡ 0 → ⊥) → OneBreaks x (replay_each x ls) ls
unfolding replay_each
one-breaks x [] s z = absurd (z s)
one-breaks x (line ∷ ls) s z = go (one-breaks (counted x line one) ls refl) (eqb one.answer.refusal 0) refl z
  where
    one : Replaying
    one = replaying x.answer.state line x.terms x.orders

    passed : one.answer.refusal ≡ 0 → OneBreaks (counted x line one) (replay_each (counted x line one) ls) ls
        → OneBreaks x (replay_each (counted x line one) ls) (line ∷ ls)
    passed r rest =
        let goes = line-goes x.answer.state line x.terms x.orders refl r in
        record {
          before = suc rest.before;
          number = rest.number ∙ omega arith;
          on = λ whole n more.
              goes-line whole n (state_in x) goes.to line (ls ++ more) goes.is ∙ ap (λ (s : State). replay whole s (suc n) (ls ++ more)) (sym goes.same)
              ∙ rest.on whole (suc n) more ∙ ap broken (let e : suc n + rest.before ≡ n + suc rest.before = omega arith in e);
        }

    go : (((replay_each (counted x line one) ls).answer.refusal ≡ 0 → ⊥) → OneBreaks (counted x line one) (replay_each (counted x line one) ls) ls)
        → (c : Bool) → eqb one.answer.refusal 0 ≡ c → ((cond c (replay_each (counted x line one) ls) (stopped x)).answer.refusal ≡ 0 → ⊥)
        → OneBreaks x (cond c (replay_each (counted x line one) ls) (stopped x)) (line ∷ ls)
    go f true e p = passed (eqb-true one.answer.refusal 0 e) (f p)
    go f false e p =
        let bad = line-breaks x.answer.state line x.terms x.orders refl (eqb-false one.answer.refusal 0 e) in
        record { before = 0; number = omega arith; on = λ whole n more. breaks-line whole n (state_in x) line (ls ++ more) bad ∙ ap broken (sym (add-zero n)) }

-- Whole lines are no more than their bytes.
pub lines_few : (x : Blocks) (ls : List (List ℕ)) → All Whole ls
    → (replay_each x ls).answer.lines + x.answer.bytes ≤ (replay_each x ls).answer.bytes + x.answer.lines
unfolding replay_each All
lines_few x [] a = omega arith
lines_few x (line ∷ ls) a = go (lines_few (counted x line one) ls a.1) (eqb one.answer.refusal 0)
  where
    one : Replaying
    one = replaying x.answer.state line x.terms x.orders

    some : 1 ≤ length line
    some = omega (arith, ap length a.0.ended, length-append a.0.front (line_feed ∷ []))

    go : (replay_each (counted x line one) ls).answer.lines + (x.answer.bytes + length line)
        ≤ (replay_each (counted x line one) ls).answer.bytes + (x.answer.lines + 1)
        → (c : Bool) → (cond c (replay_each (counted x line one) ls) (stopped x)).answer.lines + x.answer.bytes
        ≤ (cond c (replay_each (counted x line one) ls) (stopped x)).answer.bytes + x.answer.lines
    go f true = omega (arith, f, some)
    go f false = omega arith
