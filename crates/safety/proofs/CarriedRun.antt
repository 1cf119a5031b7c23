-- A history is carried along every run: from fresh boxes on, each move keeps the facts, the boxes and what the frames tell, and history only
-- grows. Assumes nothing.
use Rattle.std.specs.Prelude.{ℕ, ◌≡◌, refl, true, List, [], ◌⊎◌}
use Rattle.std.proofs.Common.{arith, sym, ◌∙◌, inl, inr}
use mathlib.Core.List.Memᴰ
use Rattle.frames.specs.Message.{Message, text}
use Rattle.frames.specs.Reading.{frame, reading}
use Rattle.raft.specs.Record.{State, fresh, is_membership}
use Rattle.raft.proofs.SendLaws.{All}
use Rattle.history.specs.InForce.{fixed}
use Rattle.history.specs.History.{History}
use Rattle.history.specs.PutLaws.{put_all}
use Rattle.history.proofs.Handed.{hands-nothing}
use Rattle.history.proofs.Steps.{fresh_park, fresh-facts}
use Rattle.history.proofs.Later.{Later, later_self, later_trans}
use Rattle.history.proofs.Told.{Tells, tells-later}
use Rattle.safety.specs.Park.{Park, start, after, Move, steps, restarts, Run, stays, moves, run_both, Reached}
use Rattle.safety.specs.Sent.{Sent, sent_cases}
use Rattle.safety.proofs.Proper.{event-reads, reached_proper}
use Rattle.safety.specs.Carried.{Kept, Carried}
use Rattle.safety.proofs.Endings.{event_ending}
use Rattle.safety.proofs.Grown.{kept-aside}
use Rattle.safety.proofs.Next.{Known, Next, restart_next}
use Rattle.safety.proofs.Carry.{ending_next}

-- Fresh boxes: nothing has happened.
pub start-carried : (mask : ℕ) → Carried mask fresh_park (start mask)
unfolding start fresh fresh_park
start-carried mask =
    record {
      facts = fresh-facts (fixed mask);
      kept = λ j. record {
        term = refl;
        log = refl;
        vote = λ d v. absurd v;
        hands = hands-nothing (fixed mask) fresh_park 0 [];
        stands = λ r. absurd (omega arith);
        leads = λ r. absurd (omega arith);
      };
      tells = λ m s. absurd (Memᴰ.not-nil s.there);
    }

-- A later park, with a later history that is carried to it.
pub record Onward (mask : ℕ) (h : History) (q : Park) : Type 1 where
  pub history : History
  pub later : Later h history
  pub carried : Carried mask history q

module _ (mask : ℕ) {h : History} {p : Park} (r : Reached mask p) (c : Carried mask h p) (i : ℕ) (m : is_membership i mask ≡ true) where
  -- What is known of the box that moves.
  pub known-box : Known h (p.box i)
  known-box =
      let own = reached_proper mask p r i in
      record { facts = rw own.ours c.facts; whole = own.whole m; kept = c.kept i }

  -- What it leaves behind is carried: the others are kept, and frames tell what they told.
  after-carried : (t : State) (ms : List Message) → All (λ m. reading (text m) ≡ frame m) ms → Next (p.box i).members (p.box i).me h t ms
      → Onward mask h (after p i t ms)
  unfolding after
  after-carried t ms reads n =
      let own = reached_proper mask p r i in
      go (rw (own.ours, own.mine) at n)
    where
      go : Next mask i h t ms → Onward mask h (after p i t ms)
      go x =
          record {
            history = x.history;
            later = x.grown.later;
            carried = record {
              facts = x.facts;
              kept = put_all (λ j s. Kept x.history s) p.box i t x.kept (λ j apart. other j apart);
              tells = λ n s. told n (sent_cases (Tells (fixed mask) x.history) ms p.sent reads x.tells n s);
            };
          }
        where
          other : (j : ℕ) → (j ≡ i → ⊥) → Kept x.history (p.box j)
          other j apart =
              let its = reached_proper mask p r j in
              kept-aside (p.box j) (rw its.ours c.facts) x.grown (λ e. apart (sym its.mine ∙ e)) (c.kept j)

          told : (n : Message) → Tells (fixed mask) x.history n ⊎ Sent p.sent n → Tells (fixed mask) x.history n
          told n (inl new) = new
          told n (inr old) = tells-later c.facts x.grown.later n (c.tells n old)

-- **A history is carried over each move,**
pub move_carried : (mask : ℕ) {h : History} {p q : Park} → Reached mask p → Carried mask h p → Move mask p q → Onward mask h q
unfolding All
move_carried mask {h = h} {p = p} r c (steps i m e y t ms o) =
    let own = reached_proper mask p r i in
    after-carried mask r c i m t ms (event-reads p.sent (p.box i) (own.whole m) own.fits e y t ms o)
    (ending_next (known-box mask r c i m) (λ n s. rw own.ours (c.tells n s)) (event_ending p.sent (p.box i) e y t ms o))
move_carried mask {p = p} r c (restarts i m) = after-carried mask r c i m _ [] tt (restart_next (known-box mask r c i m))

-- **and so along every run.**
pub run-carried : (mask : ℕ) {h : History} {p q : Park} → Reached mask p → Carried mask h p → Run mask p q → Onward mask h q
run-carried mask {h = h} r c stays = record { history = h; later = later_self h; carried = c }
run-carried mask {h = h} r c (moves {q = q} {r = e} u m) = go (run-carried mask r c u)
  where
    go : Onward mask h q → Onward mask h e
    go x =
        let y = move_carried mask (run_both r u) x.carried m in
        record { history = y.history; later = later_trans x.later y.later; carried = y.carried }

-- A reached park has a history.
pub reached-carried : (mask : ℕ) (p : Park) → Reached mask p → Onward mask fresh_park p
reached-carried mask p r = run-carried mask stays (start-carried mask) r
