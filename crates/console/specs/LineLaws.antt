-- What the code's proofs use of a line: its form test by test, and the event that it asks for. Assumes nothing.
use Rattle.std.specs.Prelude.{ℕ, ◌≡◌, true, false, ◌&&◌, List, eqb, length, get_or, drop}
use Rattle.std.proofs.Common.{arith, length-drop, eqb-true, eq-eqb, ne_eqb}
use Rattle.digits.specs.Digits.{run}
use Rattle.digits.specs.Tests.{and_left, and_right}
use Rattle.frames.specs.Message.{line_feed}
use Rattle.frames.specs.Reading.{is_line}
use Rattle.frames.proofs.ReadingLaws.{line-run}
use Rattle.raft.specs.Record.{State, good}
use Rattle.raft.specs.Outcome.{refuse}
use Rattle.raft.specs.Event.{times_out, takes_order, is_prompted, receives, step}
use Rattle.console.specs.Session.{letter_t, letter_p, letter_o, is_letter, is_order, order_in, event_of, outcome_of}

-- ---- the form of a line

pub letter_long : (letter : ℕ) (s : List ℕ) → (length s ≡ 2 → ⊥) → is_letter letter s ≡ false
unfolding is_letter
letter_long letter s h = rw (ne_eqb (length s) 2 h)

pub letter_by : (letter : ℕ) (s : List ℕ) → length s ≡ 2 → is_letter letter s ≡ (eqb (get_or s 0 0) letter && eqb (get_or s 1 0) line_feed)
unfolding is_letter
letter_by letter s h = rw (eq-eqb (length s) 2 h)

pub order-long : (s : List ℕ) → (length s ≡ 18 → ⊥) → is_order s ≡ false
unfolding is_order
order-long s h = rw (ne_eqb (length s) 18 h)

pub order_other : (s : List ℕ) → length s ≡ 18 → (get_or s 0 0 ≡ letter_o → ⊥) → is_order s ≡ false
unfolding is_order
order_other s h e = rw (eq-eqb (length s) 18 h, ne_eqb (get_or s 0 0) letter_o e)

pub order-by : (s : List ℕ) → length s ≡ 18 → get_or s 0 0 ≡ letter_o → is_order s ≡ is_line (drop 1 s)
unfolding is_order
order-by s h e = rw (eq-eqb (length s) 18 h, eq-eqb (get_or s 0 0) letter_o e)

-- an order's line has 16 digits behind its letter
pub record Ordering (s : List ℕ) : Type 0 where
  pub long : length s ≡ 18
  pub digits : run (drop 1 s) ≡ 16

pub order-facts : (s : List ℕ) → is_order s ≡ true → Ordering s
unfolding is_order
order-facts s h =
    let eighteen : length s ≡ 18 = eqb-true (length s) 18 (and_left (eqb (length s) 18) _ h) in
    let line : is_line (drop 1 s) ≡ true = and_right (eqb (get_or s 0 0) letter_o) _ (and_right (eqb (length s) 18) _ h) in
    record { long = eighteen; digits = omega (arith, line-run (drop 1 s) line, length-drop 1 s, eighteen) }

-- ---- the event

pub asks-timeout : (s : List ℕ) → is_letter letter_t s ≡ true → event_of s ≡ times_out
unfolding event_of
asks-timeout s t = rw t

pub asks-prompt : (s : List ℕ) → is_letter letter_t s ≡ false → is_letter letter_p s ≡ true → event_of s ≡ is_prompted
unfolding event_of
asks-prompt s t p = rw (t, p)

pub asks-order : (s : List ℕ) → is_letter letter_t s ≡ false → is_letter letter_p s ≡ false → is_order s ≡ true → event_of s ≡ takes_order (order_in s)
unfolding event_of
asks-order s t p o = rw (t, p, o)

pub asks-receive : (s : List ℕ) → is_letter letter_t s ≡ false → is_letter letter_p s ≡ false → is_order s ≡ false → event_of s ≡ receives s
unfolding event_of
asks-receive s t p o = rw (t, p, o)

-- ---- what it comes to

-- the event's step, at a good record
pub outcome-step : (line : List ℕ) (s : State) → good s ≡ true → outcome_of line s ≡ step (event_of line) s
unfolding outcome_of
outcome-step line s g = rw g

-- any line is answered 12 at a record that is not good
pub not_good : (line : List ℕ) (s : State) → good s ≡ false → outcome_of line s ≡ refuse 12
unfolding outcome_of
not_good line s g = rw g
