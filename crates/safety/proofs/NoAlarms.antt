-- Demand 3: "Alarms 6, 7 and 8 never sound": 6, because no term has two leaders; 7, because a leader's log begins with what the box hands out; 8,
-- because what was acknowledged is in the leader's log. Assumes nothing.
use Rattle.std.specs.Prelude.{ℕ, ◌<◌, ◌≡◌, refl, false, List}
use Rattle.std.proofs.Common.{arith, sym, ◌∙◌, lt-ltb}
use Rattle.std.proofs.Math.Bool.{true≢false}
use Rattle.frames.specs.declared.Entry.{Entry}
use Rattle.frames.specs.Message.{append, append_answer}
use Rattle.raft.specs.Record.{leader, last_index}
use Rattle.raft.specs.Outcome.{refuse}
use Rattle.raft.specs.Event.{Event, step}
use Rattle.raft.specs.AnyMessage.{taking, taken}
use Rattle.raft.specs.Append.{lacks, cuts_committed}
use Rattle.raft.specs.Receive.{sender}
use Rattle.raft.proofs.ReceiveLaws.{taken-by, taken-term, Looks, other-held}
use Rattle.history.specs.InForce.{fixed}
use Rattle.history.specs.History.{History}
use Rattle.history.proofs.Handed.{Hands, hands-higher}
use Rattle.history.proofs.Told.{Tells}
use Rattle.history.proofs.Alarms.{no_rival, no_loss, no_excess}
use Rattle.safety.specs.Park.{Park, Comes, Reached}
use Rattle.safety.specs.Sent.{Sent}
use Rattle.safety.proofs.Alarms.{Alarm, two_lead, cuts, past, quiet, event-alarms}
use Rattle.safety.proofs.Proper.{reached_proper}
use Rattle.safety.specs.Carried.{Carried}
use Rattle.safety.proofs.CarriedRun.{reached-carried}

module _ (mask : ℕ) {h : History} {p : Park} (r : Reached mask p) (c : Carried mask h p) (i : ℕ) where
  -- what a box hands out, a message's term being taken
  taken-hands : (term : ℕ) → Hands (fixed mask) h (taken term (p.box i)).term (taken term (p.box i)).log (taken term (p.box i)).commit
  unfolding taking
  taken-hands term =
      let x = rw ((reached_proper mask p r i).ours, (c.kept i).log) at (c.kept i).hands in
      taken-by (λ t. Hands (fixed mask) h t.term t.log t.commit) term (p.box i) (λ l. hands-higher x term (omega arith)) (λ l. x)

  -- An append that was sent to a box of its term that leads would be the box's own,
  rivals_none : (from to index prior commit : ℕ) (es : List Entry) → Sent p.sent (append from to (p.box i).term index prior commit es)
      → (p.box i).role ≡ leader → from ≡ (p.box i).me
  unfolding Tells
  rivals_none from to index prior commit es s l =
      let x = (c.kept i).leads l in
      no_rival c.facts (c.tells _ s) (p.box i).me x.start x.won

  -- an append that was sent cuts nothing that is committed,
  cuts_nothing : (from to term index prior commit : ℕ) (es : List Entry) → Sent p.sent (append from to term index prior commit es)
      → Looks (p.box i) term → lacks (taken term (p.box i)).log index prior ≡ false → cuts_committed (taken term (p.box i)) index es ≡ false
  unfolding Tells
  cuts_nothing from to term index prior commit es s look has =
      no_loss c.facts (c.tells _ s) (taken term (p.box i)) (taken-hands term)
      (omega (arith, taken-term term (p.box i) look.current)) has

  -- and a yes that was sent names no index past the log of the leader of its term.
  names-none-past : (from to index : ℕ) → Sent p.sent (append_answer from to (p.box i).term 1 index) → (p.box i).role ≡ leader
      → last_index (p.box i) < index → ⊥
  unfolding Tells
  names-none-past from to index s l x =
      let none = no_excess c.facts (p.box i) from index (((c.kept i).leads l).log ∙ (c.kept i).log) (c.tells _ s refl) in
      true≢false (sym (lt-ltb _ _ x) ∙ none)

-- **Alarms 6, 7 and 8 never sound,** at any event of any box at any moment of a run.
pub no_alarm : (mask : ℕ) (p : Park) → Reached mask p → (i : ℕ) (e : Event) → Comes p.sent e → (n : ℕ) → step e (p.box i) ≡ refuse n
    → (n ≡ 6 → ⊥) × (n ≡ 7 → ⊥) × (n ≡ 8 → ⊥)
unfolding sender
no_alarm mask p r i e c n o = go (event-alarms p.sent (p.box i) e c n o)
  where
    go : Alarm p.sent (p.box i) n → (n ≡ 6 → ⊥) × (n ≡ 7 → ⊥) × (n ≡ 8 → ⊥)
    go (two_lead six from to term index prior commit es a s t l) =
        absurd ((other-held (p.box i).me (p.box i).members from a.other).0
        (rivals_none mask r (reached-carried mask p r).carried i from to index prior commit es (rw t s) l))
    go (cuts seven from to term index prior commit es a s look has y) =
        absurd (true≢false (sym y ∙ cuts_nothing mask r (reached-carried mask p r).carried i from to term index prior commit es s look has))
    go (past eight from to term index a s t l x) =
        absurd (names-none-past mask r (reached-carried mask p r).carried i from to index (rw t s) l x)
    go (quiet a b c) = (a, b, c)
