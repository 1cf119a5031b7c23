-- Block by block: a head alone, and the lines of a block one after the other. Assumes nothing.
use Rattle.std.specs.Prelude.{ℕ, ◌+◌, ◌-◌, ◌≤◌, Bool, cond, List, take, drop, Ok, Err}
use Rattle.std.proofs.Common.{arith, ◌∙◌}
use Rattle.std.proofs.Math.Path.{◌≡◌, refl, sym, ap}
use Rattle.std.proofs.Math.Bool.{true, false}
use Rattle.std.proofs.Math.ListN.{length, length-take}
use Rattle.frames.specs.Limits.{log_limit}
use Rattle.frames.specs.declared.refusal.Refusal.{Refusal}
use Rattle.frames.specs.RefusalLaws.{refused}
use Rattle.text.specs.Lines.{first_line}
use Rattle.text.specs.LinesLaws.{first-most, end_inside}
use Rattle.raft.specs.Record.{fresh}
use Rattle.record.specs.declared.Record.{Record}
use Rattle.record.specs.Calls.{record_of}
use Rattle.journal.specs.Lines.{lines, mask_in}
use Rattle.journal.specs.Opening.{is_head}
use Rattle.opening.specs.Calls.{ReplayedTold, Replays, heading, Heads, Blocks, stopped, replay_each, replaying_lines, ReplaysLines}
use Rattle.frames.specs.RefusalLaws.{not_0}
use Rattle.opening.specs.ReplayCode.{line-goes, broken-number, broken-leaves, lines_end, lines_next}
use Rattle.opening.specs.OpenCode.{head-mask}

-- ---- the head

-- None, or one: its mask is told by a number, 0 where there is none.
module _ (me : ℕ) (line : List ℕ) {mask : ℕ} (f : mask ≡ cond (is_head me line) (mask_in line) 0) where
  pub no_head : mask ≡ 0 → {n : Record} → n ≡ record_of (fresh 0 0)
      → ◌≡◌ {A = ReplayedTold} (record { refusal = 11; state = n }) (heading me line)
  unfolding heading
  no_head z {n} e = go (is_head me line) refl
    where
      go : (b : Bool) → is_head me line ≡ b → ◌≡◌ {A = ReplayedTold} (record { refusal = 11; state = n }) (heading me line)
      go true q = absurd (head-mask me line q (sym (f ∙ rw q) ∙ z))
      go false q = rw (q, e)

  pub a-head : (mask ≡ 0 → ⊥) → {n : Record} → n ≡ record_of (fresh me mask)
      → ◌≡◌ {A = ReplayedTold} (record { refusal = 0; state = n }) (heading me line)
  unfolding heading
  a-head z {n} e = go (is_head me line) refl
    where
      go : (b : Bool) → is_head me line ≡ b → ◌≡◌ {A = ReplayedTold} (record { refusal = 0; state = n }) (heading me line)
      go true q =
          let m : mask ≡ mask_in line = f ∙ rw q in
          rw (q, e, m)
      go false q = absurd (z (f ∙ rw q))

-- Its record's log fits,
pub heading-fits : (me : ℕ) (line : List ℕ) → (heading me line).state.last ≤ log_limit
unfolding heading fresh
heading-fits me line = go (is_head me line) refl
  where
    go : (b : Bool) → is_head me line ≡ b → (heading me line).state.last ≤ log_limit
    go true e = rw e (omega arith)
    go false e = rw e (omega arith)

-- and so does that of the answer.
pub head-fits : (me : ℕ) (line : List ℕ) (n : Record) → Heads me line (Ok n) → n.last ≤ log_limit
head-fits me line n e = let last = ap (λ (x : ReplayedTold). x.state.last) e in omega (arith, last, heading-fits me line)

-- ---- the lines

-- Where the loop stands: the record, the bytes and lines replayed, and the lent log.
abbrev pub reached : Record → ℕ → ℕ → List ℕ → List ℕ → Blocks
reached state at number terms orders =
    record { answer = record { refusal = 0; state = state; bytes = at; lines = number }; terms = terms; orders = orders }

-- What was replayed up to there and what is left make the whole.
pub record Counted (start : Record) (bytes terms₀ orders₀ : List ℕ) (state : Record) (terms orders : List ℕ) (at number : ℕ) : Type 0 where
  pub inside : at ≤ length bytes
  pub few : number ≤ at
  pub room : start.last ≤ log_limit → state.last ≤ log_limit
  pub same : replaying_lines start bytes terms₀ orders₀ ≡ replay_each (reached state at number terms orders) (lines (drop at bytes))

pub counted-first : (start : Record) (bytes terms orders : List ℕ) → Counted start bytes terms orders start terms orders 0 0
unfolding replaying_lines
counted-first start bytes terms orders = record { inside = omega arith; few = omega arith; room = λ h. h; same = refl }

module _ {start : Record} {bytes terms₀ orders₀ : List ℕ} {state : Record} {terms orders : List ℕ} {at number : ℕ}
    (s : Counted start bytes terms₀ orders₀ state terms orders at number) {end : ℕ} (e : end ≡ at + first_line (drop at bytes)) where
  -- no whole line is left
  pub counted_end : end ≡ at
      → ReplaysLines start bytes terms₀ orders₀ (record { end = Ok tt; state = state; bytes = at; lines = number }) terms orders
  unfolding replay_each
  counted_end z =
      record {
        leaves = sym (s.same ∙ rw (lines_end bytes at s.inside (omega (arith, e, z))).0);
        inside = s.inside;
        room = s.room;
      }

  module _ (z : end ≡ at → ⊥) where
    some : first_line (drop at bytes) ≡ 0 → ⊥
    some q = z (omega (arith, e, q))

    gone : end - at ≡ first_line (drop at bytes)
    gone = omega (arith, e)

    -- a line that breaks a rule
    pub counted_stop : (r : Refusal) {terms' orders' : List ℕ} → Replays state (take (end - at) (drop at bytes)) terms orders (Err r) terms' orders'
        → ReplaysLines start bytes terms₀ orders₀ (record { end = Err r; state = state; bytes = at; lines = number }) terms' orders'
    unfolding replay_each
    counted_stop r a =
        record {
          leaves = rw (broken-number _ _ _ _ a (not_0 r), (broken-leaves _ _ _ _ a (not_0 r)).0, (broken-leaves _ _ _ _ a (not_0 r)).1) (sym (s.same ∙ stops));
          inside = s.inside;
          room = s.room;
        }
      where
        stops : replay_each (reached state at number terms orders) (lines (drop at bytes)) ≡ stopped (reached state at number terms orders)
        stops = rw ((lines_next bytes at s.inside some).0, ← gone, ← a, refused r)

    -- one line more
    pub counted_next : {next : Record} {terms' orders' : List ℕ} → Replays state (take (end - at) (drop at bytes)) terms orders (Ok next) terms' orders'
        → Counted start bytes terms₀ orders₀ next terms' orders' end (number + 1)
    unfolding replay_each
    counted_next a =
        record {
          inside = end_inside bytes s.inside e;
          few = omega (arith, e, s.few, z);
          room = λ h. (line-goes _ _ _ _ a refl).room;
          same = s.same ∙ rw ((lines_next bytes at s.inside some).0, ← e, ← gone, ← a, long);
        }
      where
        long : at + length (take (end - at) (drop at bytes)) ≡ end
        long = omega (arith, e, gone, first-most (drop at bytes), length-take (end - at) (drop at bytes))
