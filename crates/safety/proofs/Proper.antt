-- At every moment of a run each box has its number, the park's membership and a good record, and what a step sends is read as it was written.
-- Assumes nothing.
use Rattle.std.specs.Prelude.{ℕ, ◌≡◌, refl, true, List}
use Rattle.std.proofs.Common.{◌∙◌}
use Rattle.frames.specs.Message.{text}
use Rattle.frames.specs.Reading.{frame, reading}
use Rattle.raft.specs.Record.{State, fresh, is_membership, good}
use Rattle.raft.proofs.RecordLaws.{Good, good-facts, facts-good, fresh-good}
use Rattle.raft.proofs.SendLaws.{All}
use Rattle.raft.proofs.FitLaws.{Fits, sent-is-read}
use Rattle.raft.specs.Event.{Event, times_out, takes_order, is_prompted, receives, step, Typed}
use Rattle.raft.proofs.ReceiveLaws.{Ends}
use Rattle.raft.proofs.EventLaws.{step-good, step-obeys, step_fits}
use Rattle.journal.specs.Opening.{restarted}
use Rattle.journal.proofs.OpeningLaws.{fresh-fits, restarted-good, restarted-fits}
use Rattle.journal.specs.Runs.{Step, by_event}
use Rattle.journal.specs.StepMoves.{step-moves}
use Rattle.history.specs.PutLaws.{put_all}
use Rattle.safety.specs.Park.{Park, start, Comes, after, steps, restarts, stays, moves, Reached}

-- ---- an event

-- What may come in a run can be handed to a box,
comes_typed : (sent : List (List ℕ)) (e : Event) → Comes sent e → Typed e
comes_typed sent times_out c = tt
comes_typed sent (takes_order o) c = c
comes_typed sent is_prompted c = tt
comes_typed sent (receives bytes) c = tt

-- where it is not refused it is a step of the journal's runs,
pub event-steps : (sent : List (List ℕ)) (s : State) (e : Event) → Comes sent e → Ends (λ t ms. Step s t) (step e s)
event-steps sent s e c t ms d = by_event e ms (comes_typed sent e c) d

-- and its messages, which obey the rules of frames and fit their fields, are read as they were written.
pub event-reads : (sent : List (List ℕ)) (s : State) → Good s → Fits s → (e : Event) → Comes sent e
    → Ends (λ t ms. All (λ m. reading (text m) ≡ frame m) ms) (step e s)
event-reads sent s g f e c t ms d =
    let h = facts-good s g in
    sent-is-read ms (step-obeys e s h t ms d) (step_fits e s h f (comes_typed sent e c) t ms d).1

-- ---- the records of a run

-- A box has its number and the park's membership; a member's record keeps the rules, and every record fits its types.
pub record Proper (mask i : ℕ) (s : State) : Type 0 where
  pub mine : s.me ≡ i
  pub ours : s.members ≡ mask
  pub whole : is_membership i mask ≡ true → Good s
  pub fits : Fits s

-- So it is at the start,
fresh_proper : (mask i : ℕ) → Proper mask i (fresh i mask)
unfolding fresh
fresh_proper mask i =
    record { mine = refl; ours = refl; whole = λ m. good-facts (fresh i mask) (fresh-good i mask m); fits = fresh-fits i mask }

-- behind a member's step,
step_proper : (mask i : ℕ) (sent : List (List ℕ)) (s : State) → is_membership i mask ≡ true → Proper mask i s → (e : Event) → Comes sent e
    → Ends (λ t ms. Proper mask i t) (step e s)
step_proper mask i sent s m o e c t ms d =
    let moved = step-moves e s (o.whole m) t ms d in
    let h = facts-good s (o.whole m) in
    record {
      mine = moved.mine ∙ o.mine;
      ours = moved.ours ∙ o.ours;
      whole = λ m. good-facts t (step-good e s h t ms d);
      fits = (step_fits e s h o.fits (comes_typed sent e c) t ms d).0;
    }

-- behind a restart,
restart_proper : (mask i : ℕ) (s : State) → Proper mask i s → Proper mask i (restarted s)
unfolding restarted
restart_proper mask i s o =
    record { mine = o.mine; ours = o.ours; whole = λ m. restarted-good s (o.whole m); fits = restarted-fits s o.fits }

-- **and so at every moment.**
pub reached_proper : (mask : ℕ) (p : Park) → Reached mask p → (i : ℕ) → Proper mask i (p.box i)
unfolding start after
reached_proper mask p stays i = fresh_proper mask i
reached_proper mask p (moves {q = q} r (steps i m e c t ms o)) j =
    put_all (Proper mask) q.box i t (step_proper mask i q.sent (q.box i) m (reached_proper mask q r i) e c t ms o)
    (λ k n. reached_proper mask q r k) j
reached_proper mask p (moves {q = q} r (restarts i m)) j =
    put_all (Proper mask) q.box i (restarted (q.box i)) (restart_proper mask i (q.box i) (reached_proper mask q r i))
    (λ k n. reached_proper mask q r k) j

-- A member's record is good at every moment of a run: no event is answered 12, so the box's outside calls do exactly what the run's steps do.
pub reached-good : (mask : ℕ) (p : Park) → Reached mask p → (i : ℕ) → is_membership i mask ≡ true → good (p.box i) ≡ true
reached-good mask p r i m = facts-good (p.box i) ((reached_proper mask p r i).whole m)
