-- What boxes hand out, and what the appends that were sent carry, is in the book: over one move, whatever the telling of the run. Assumes nothing.
use Rattle.std.specs.Prelude.{ℕ, ◌≡◌, List, ◌++◌, ◌⊎◌, take}
use Rattle.std.proofs.Math.Decide.{ℕ_discrete}
use Rattle.std.proofs.Common.{inl, inr}
use Rattle.frames.specs.declared.Entry.{Entry}
use Rattle.frames.specs.Message.{Message, append, text}
use Rattle.frames.specs.Reading.{frame, reading}
use Rattle.raft.specs.Record.{State, leader, handed_out}
use Rattle.raft.proofs.SendLaws.{All}
use Rattle.history.specs.InForce.{fixed}
use Rattle.history.specs.Begins.{Begins}
use Rattle.history.specs.History.{History}
use Rattle.history.specs.Grow.{first-grows}
use Rattle.history.proofs.Later.{Later}
use Rattle.history.proofs.Told.{Tells, sending_won}
use Rattle.safety.specs.Park.{frames}
use Rattle.safety.specs.Sent.{Sent, sent_cases}
use Rattle.safety.specs.Carried.{Kept}
use Rattle.safety.proofs.Endings.{Ending}
use Rattle.safety.proofs.Next.{Known}
use Rattle.safety.proofs.HandsOut.{HandsOut, leads, same, carried, ending_hands, FromLeader, IfAppend, ending_appends}

-- Each append that was sent carries what is in a book.
abbrev pub Carrying : (List Entry → Type 0) → History → List (List ℕ) → Type 0
Carrying B h sent =
    (from to term index prior commit : ℕ) (es : List Entry) → Sent sent (append from to term index prior commit es)
    → B (take commit (h.leaders.log term))

-- So does each box hand out what is in it.
pub record Booked (B : List Entry → Type 0) (h : History) (box : ℕ → State) (sent : List (List ℕ)) : Type 0 where
  pub boxes : (j : ℕ) → B (handed_out (box j))
  pub appends : Carrying B h sent

module _ {B C : List Entry → Type 0} (more : (log : List Entry) → B log → C log) where
  -- What the box that has moved hands out, where it is in the book if the box leads.
  hands-booked : {sent : List (List ℕ)} {h : History} {s t : State} → ((a b : List Entry) → Begins a b → C b → C a) → B (handed_out s)
      → Carrying B h sent → (t.role ≡ leader → C (handed_out t)) → HandsOut sent h s t → C (handed_out t)
  hands-booked less had sent own (leads r) = own r
  hands-booked less had sent own (same e) = rw e (more _ had)
  hands-booked less had sent own (carried from to term index prior commit es s b) =
      less _ _ b (more _ (sent from to term index prior commit es s))

  -- What the appends carry that were sent before,
  old_booked : (mask : ℕ) {h later : History} {sent : List (List ℕ)} → Later h later
      → ((m : Message) → Sent sent m → Tells (fixed mask) h m) → Carrying B h sent → Carrying C later sent
  unfolding Tells
  old_booked mask l told had from to term index prior commit es s =
      let x = told _ s in
      rw (← first-grows l.leaders (record { won = sending_won x; within = x.hands.within }))
      (more _ (had from to term index prior commit es s))

  -- and those of the box that has moved: a leader's append carries what it hands out.
  sends-booked : (mask : ℕ) {h later : History} {t : State} {sent : List (List ℕ)} (ms : List Message) → Later h later
      → ((m : Message) → Sent sent m → Tells (fixed mask) h m) → Carrying B h sent → Kept later t
      → (t.role ≡ leader → C (handed_out t)) → All (λ m. reading (text m) ≡ frame m) ms → All (IfAppend t) ms
      → Carrying C later (frames ms ++ sent)
  unfolding IfAppend handed_out
  sends-booked mask {h} {later} {t} {sent} ms l told had k own reads offers from to term index prior commit es s =
      go (sent_cases (IfAppend t) ms sent reads offers (append from to term index prior commit es) s)
    where
      go : FromLeader t term commit ⊎ Sent sent (append from to term index prior commit es)
          → C (take commit (later.leaders.log term))
      go (inl o) = rw (o.now, o.known, (k.leads o.leads).log, k.log) (own o.leads)
      go (inr o) = old_booked mask l told had from to term index prior commit es o

  -- A box has moved, and the others have not.
  module _ (mask : ℕ) {h later : History} {box next : ℕ → State} {sent : List (List ℕ)} (i : ℕ) {t : State} (here : next i ≡ t)
      (others : (j : ℕ) → (j ≡ i → ⊥) → next j ≡ box j) (l : Later h later) (told : (m : Message) → Sent sent m → Tells (fixed mask) h m) (had : Booked B h box sent) where
    boxes-booked : C (handed_out t) → (j : ℕ) → C (handed_out (next j))
    boxes-booked new j = go (ℕ_discrete j i)
      where
        go : Dec (j ≡ i) → C (handed_out (next j))
        go (yes e) = rw (e, here) new
        go (no n) = rw (others j n) (more _ (had.boxes j))

    -- It has sent nothing.
    pub quiet-booked : C (handed_out t) → Booked C later next sent
    quiet-booked new = record { boxes = boxes-booked new; appends = old_booked mask l told had.appends }

    -- **It took a step:** who leads writes the book, and all others hand out what was in it.
    pub step-booked : {ms : List Message} → ((a b : List Entry) → Begins a b → C b → C a) → Known h (box i) → (box i).members ≡ mask → Kept later t
        → (t.role ≡ leader → C (handed_out t)) → All (λ m. reading (text m) ≡ frame m) ms → Ending sent (box i) t ms
        → Booked C later next (frames ms ++ sent)
    step-booked {ms} less k ours kept own reads end =
        record {
          boxes = boxes-booked (hands-booked less (had.boxes i) had.appends own (ending_hands k (λ m s. rw ours (told m s)) end));
          appends = sends-booked mask ms l told had.appends kept own reads (ending_appends end);
        }
