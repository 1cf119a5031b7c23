-- The key to replay: the line that a step writes obeys the rules of opening, and replays the stored part to the one after the step.
-- Assumes nothing.
use Prim.Native.Nat.{ℕ, zero, suc, ◌≤◌}
use native.Mathlib.Omega.{arith}
use Rattle.std.specs.Prelude.{◌≡◌, Bool, ◌&&◌, ◌||◌, [], length, drop}
use Rattle.std.proofs.Math.Path.{refl}
use Rattle.std.proofs.Common.{sym, ap, ◌∙◌, true≢false}
use Rattle.std.proofs.Math.Bool.{true, false}
use Rattle.std.proofs.Math.Dec.{eqb, ltb}
use Rattle.std.proofs.Math.ListN.{length-drop}
use borrow.Author.Tests.{eqb-true, eqb-false, ltb-false, eq-eqb}
use Rattle.digits.specs.Tests.{and_left}
use Rattle.frames.specs.Clauses.{four}
use Rattle.frames.specs.Limits.{boxes, entry_limit}
use Rattle.frames.specs.Message.{entry_fields, IsSized}
use Rattle.frames.specs.Rules.{is_box}
use Rattle.raft.specs.Majority.{holds}
use Rattle.raft.specs.Record.{State, is_vote}
use Rattle.raft.specs.Journal.{line_text, kept, same_stored, line_of, journaled}
use Rattle.raft.proofs.RecordLaws.{box_range, Good, member-facts}
use Rattle.raft.proofs.SendLaws.{in_order-drop}
use Rattle.raft.proofs.FitLaws.{all_drop, OrderFits, Fits, entries-sized}
use Rattle.journal.proofs.LineSpelling.{line_fields, line_reads}
use Rattle.journal.specs.Opening.{restarted, vote_stays, after, next, replayed}
use Rattle.journal.proofs.OpeningLaws.{Allowed, facts-allowed}
use Rattle.raft.proofs.JoinLaws.{kept_self}
use Rattle.journal.specs.KeptLaws.{kept-most, kept_rebuilds, kept-all, kept-term}
use Rattle.journal.specs.StepMoves.{Moved}

-- a vote is at most 7
vote-low : (members vote : ℕ) → is_vote members vote ≡ true → vote ≤ boxes
unfolding is_vote
vote-low members vote h = go (eqb vote 0) refl h
  where
    go : (b : Bool) → eqb vote 0 ≡ b → (b || (is_box vote && holds members vote)) ≡ true → vote ≤ boxes
    go true e q = omega (arith, eqb-true vote 0 e)
    go false e q = (box_range vote (and_left (is_box vote) _ q)).most

-- Where the stored part is the same, the test for it passes.
pub same-when : (s t : State) → restarted s ≡ restarted t → same_stored s t ≡ true
unfolding same_stored restarted
same-when s t e =
    rw (
      ap (λ (u : State). u.term) e,
      ap (λ (u : State). u.vote) e,
      ap (λ (u : State). u.log) e,
      kept_self t.log,
      eq-eqb t.term t.term refl,
      eq-eqb t.vote t.vote refl,
      eq-eqb (length t.log) (length t.log) refl,
    )

module _ (s t : State) (k : Good t) (f : Fits t) (m : Moved s t) where
  -- the entries behind what is kept
  few-behind : length (drop (kept s.log t.log) t.log) ≤ entry_limit
  few-behind = rw length-drop (omega (arith, m.few))

  -- a vote that is set stays within a term
  stays-there : vote_stays (restarted s) (line_of s t) ≡ true
  unfolding restarted line_of
  stays-there = go (ltb s.term t.term) refl (eqb s.vote 0) refl
    where
      go : (a : Bool) → ltb s.term t.term ≡ a → (b : Bool) → eqb s.vote 0 ≡ b → (a || b || eqb t.vote s.vote) ≡ true
      go true p b q = refl
      go false p true q = refl
      go false p false q =
          let same : s.term ≡ t.term = omega (arith, m.rises, ltb-false s.term t.term p) in
          eq-eqb _ _ (m.stays same (eqb-false _ _ q))

  -- a step that changes it ends in a term of at least 1
  least-there : same_stored s t ≡ false → 1 ≤ t.term
  unfolding restarted
  least-there h = go t.term refl
    where
      go : (n : ℕ) → t.term ≡ n → 1 ≤ n
      go zero e =
          let o = m.least e in
          let low : s.term ≡ 0 = omega (arith, m.rises) in
          absurd (true≢false (sym (same-when s t (rw (m.mine, m.ours, e, low, o.0, o.1))) ∙ h))
      go (suc n) e = omega arith

  -- The step's line obeys every rule behind the stored part before it,
  pub step-allowed : same_stored s t ≡ false → Allowed (restarted s) (line_of s t)
  unfolding restarted line_of
  step-allowed h =
      let most = kept-most s.log t.log in
      record {
        box = m.mine;
        least = least-there h;
        rises = m.rises;
        vote = rw (← m.ours) k.vote;
        stays = stays-there;
        kept = most.0;
        room = rw length-drop (omega (arith, k.room));
        few = few-behind;
        order = rw (kept-term s.log t.log) (in_order-drop t.term t.log (kept s.log t.log) most.1 k.order);
      }

  -- its numbers fit their fields,
  pub step-sized : IsSized (line_fields (line_of s t))
  unfolding line_of IsSized
  step-sized =
      let most = kept-most s.log t.log in
      let box = member-facts t.me t.members k.membership in
      let vote = vote-low t.members t.vote k.vote in
      (omega arith, (omega arith, (omega arith, (f.term, (omega arith, (omega (arith, k.room), (omega (arith, few-behind), entries)))))))
    where
      entries : IsSized (entry_fields (drop (kept s.log t.log) t.log))
      entries =
          entries-sized _ t.term _ f.term (all_drop OrderFits (kept s.log t.log) t.log f.orders)
          (in_order-drop t.term t.log (kept s.log t.log) (kept-most s.log t.log).1 k.order)

  -- and what it replays to is the stored part after the step.
  pub step_after : after (restarted s) (line_of s t) ≡ restarted t
  unfolding after restarted line_of
  step_after = rw (← m.mine, ← m.ours, kept_rebuilds s.log t.log)

  -- So the bytes of the line are replayed to it.
  pub step-replayed : same_stored s t ≡ false → replayed (restarted s) (line_text (line_of s t)) ≡ next (restarted t)
  unfolding replayed
  step-replayed h =
      let r = line_reads (line_of s t) step-sized in
      rw (r.0, r.1, facts-allowed (restarted s) (line_of s t) (step-allowed h), step_after)

  -- A step that changes nothing of the stored part leaves it,
  pub step_same : same_stored s t ≡ true → restarted s ≡ restarted t
  unfolding same_stored restarted
  step_same h =
      let c = four (eqb s.term t.term) (eqb s.vote t.vote) _ _ h in
      let log = kept-all s.log t.log (eqb-true _ _ c.2) (eqb-true _ _ c.3) in
      rw (← m.mine, ← m.ours, eqb-true s.term t.term c.0, eqb-true s.vote t.vote c.1, log)

  -- and any other changes it: a line that is written never says nothing.
  pub step-changes : same_stored s t ≡ false → after (restarted s) (line_of s t) ≡ restarted s → ⊥
  step-changes h e = true≢false (sym (same-when s t (sym e ∙ step_after)) ∙ h)

-- "for each step that changes the stored part and no other": no line is written where it is the same,
pub journaled-none : (s t : State) → same_stored s t ≡ true → journaled s t ≡ []
unfolding journaled
journaled-none s t h = rw h

-- and the step's line where it is not.
pub journaled-line : (s t : State) → same_stored s t ≡ false → journaled s t ≡ line_text (line_of s t)
unfolding journaled
journaled-line s t h = rw h
