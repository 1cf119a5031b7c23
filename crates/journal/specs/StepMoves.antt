-- What every step does to the stored part: the term does not fall, a vote that is set stays within a term, and at most four entries are
-- added. Assumes nothing.
use Rattle.std.specs.Prelude.{ℕ, ◌+◌, ◌≤◌, ◌<◌, ◌≡◌, refl, Bool, true, false, ◌||◌, List, [], ◌∷◌, ◌++◌, eqb, length}
use Rattle.std.proofs.Common.{arith, sym, ◌∙◌, length-append, eqb-true}
use Rattle.frames.specs.declared.Entry.{Entry}
use Rattle.frames.specs.Limits.{entry_limit}
use Rattle.frames.specs.Message.{Message, vote_request, vote_answer, append, append_answer}
use Rattle.raft.specs.Record.{State}
use Rattle.raft.specs.Journal.{kept}
use Rattle.raft.specs.Commit.{settle}
use Rattle.raft.specs.Winning.{leading, winner}
use Rattle.raft.specs.Timeout.{standing, timeout}
use Rattle.raft.specs.Order.{ordered, order}
use Rattle.raft.specs.Prompt.{prompt}
use Rattle.raft.specs.AnyMessage.{taking, taken}
use Rattle.raft.specs.VoteRequest.{voting}
use Rattle.raft.specs.VoteAnswer.{adding}
use Rattle.raft.specs.Append.{lacks, following, joining}
use Rattle.raft.specs.AppendAnswer.{heard}
use Rattle.raft.specs.Receive.{sender, term_of, deliver, receive}
use Rattle.raft.specs.Event.{Event, times_out, takes_order, is_prompted, receives, step}
use Rattle.raft.proofs.RecordLaws.{Good, self_voted}
use Rattle.raft.proofs.StepLaws.{winner-ends, timeout-ends, order-ends, prompt-ends}
use Rattle.raft.proofs.JoinLaws.{kept_self, kept_more, lacks-not}
use Rattle.raft.proofs.ReceiveLaws.{taken-by, taken-least, taken-keeps, Ends, Arrives, receive-ends, sent-by, offer-facts}
use Rattle.raft.proofs.ReceiveLaws.{vote_request-ends, vote_answer-ends, append-ends, append_answer-ends}
use Rattle.journal.specs.KeptLaws.{joined-few}

-- What a step may make of a record's stored part: in term 0 nothing.
pub record Moves (s : State) (me members term vote : ℕ) (log : List Entry) : Type 0 where
  pub mine : me ≡ s.me
  pub ours : members ≡ s.members
  pub least : term ≡ 0 → (vote ≡ s.vote) × (log ≡ s.log)
  pub rises : s.term ≤ term
  pub stays : s.term ≡ term → (s.vote ≡ 0 → ⊥) → vote ≡ s.vote
  pub few : length log ≤ kept s.log log + entry_limit

abbrev pub Moved : State → State → Type 0
Moved s t = Moves s t.me t.members t.term t.vote t.log

-- Nothing,
moved-not : (s : State) → Moved s s
moved-not s =
    record { mine = refl; ours = refl; least = λ z. (refl, refl); rises = omega arith; stays = λ e n. refl; few = omega (arith, kept_self s.log) }

-- or a term that is higher, with whatever vote.
moved_up : (s : State) (term vote : ℕ) → s.term < term → Moves s s.me s.members term vote s.log
moved_up s term vote l =
    record {
      mine = refl;
      ours = refl;
      least = λ z. absurd (omega arith);
      rises = omega arith;
      stays = λ e n. absurd (omega arith);
      few = omega (arith, kept_self s.log);
    }

-- An entry behind the log is one more to write.
moved-adding : (s : State) (me members term vote : ℕ) (e : Entry) → 1 ≤ term → Moves s me members term vote s.log
    → Moves s me members term vote (s.log ++ (e ∷ []))
moved-adding s me members term vote e l m =
    record {
      mine = m.mine;
      ours = m.ours;
      least = λ z. absurd (omega arith);
      rises = m.rises;
      stays = m.stays;
      few = rw (kept_more s.log (e ∷ []), length-append) (omega arith);
    }

-- A box that wins adds the blank, or nothing, to what it has moved.
moved-winner : (s t : State) → t.log ≡ s.log → 1 ≤ t.term → Moved s t → Moved s (settle (winner t))
unfolding settle leading ordered
moved-winner s t same l m =
    winner-ends (λ w. Moved s (settle w)) t m
    (λ room. rw same (moved-adding s t.me t.members t.term t.vote _ l (rw same at m)))

-- ---- timeout, order, prompt

-- A timeout moves the stored part so,
timeout-moves : (s : State) → Good s → Ends (λ t ms. Moved s t) (timeout s)
unfolding standing
timeout-moves s g =
    let up = moved_up s (s.term + 1) s.me (omega arith) in
    timeout-ends (λ t ms. Moved s t) s (λ r. moved-not s) (λ c m. moved-winner s (standing s) refl (omega arith) up) (λ c m. up)

-- an order,
order-moves : (o : ℕ) (s : State) → Good s → Ends (λ t ms. Moved s t) (order o s)
unfolding settle ordered
order-moves o s g =
    order-ends (λ t ms. Moved s t) o s
    (λ r l. moved-adding s s.me s.members s.term s.vote _ (self_voted s g (omega arith)).1 (moved-not s))

-- a prompt,
prompt-moves : (s : State) → Good s → Ends (λ t ms. Moved s t) (prompt s)
prompt-moves s g = prompt-ends (λ t ms. Moved s t) s (λ r. moved-not s)

-- ---- a frame

-- a message's term taken
moved-taken : (s : State) (term : ℕ) → 1 ≤ term → Moved s (taken term s)
unfolding taking
moved-taken s term l = taken-by (Moved s) term s (λ h. moved_up s term 0 h) (λ h. moved-not s)

-- and then a vote, where it was free or is for the same
moved-voting : (s t : State) (from : ℕ) → Moved s t → 1 ≤ t.term → (eqb t.vote 0 || eqb t.vote from) ≡ true → Moved s (voting t from)
unfolding voting
moved-voting s t from m l free =
    record { mine = m.mine; ours = m.ours; least = λ z. absurd (omega arith); rises = m.rises; stays = λ e n. go e n (eqb t.vote 0) refl free; few = m.few }
  where
    go : s.term ≡ t.term → (s.vote ≡ 0 → ⊥) → (b : Bool) → eqb t.vote 0 ≡ b → (b || eqb t.vote from) ≡ true → from ≡ s.vote
    go e n true p f = absurd (n (sym (m.stays e n) ∙ eqb-true _ _ p))
    go e n false p f = sym (eqb-true _ _ f) ∙ m.stays e n

-- or entries joined to the log
moved-joining : (s : State) (term index prior commit : ℕ) (es : List Entry) → 1 ≤ term → lacks (taken term s).log index prior ≡ false
    → length es ≤ entry_limit → Moved s (joining (taken term s) index commit es)
unfolding joining
moved-joining s term index prior commit es l n f =
    let m = moved-taken s term l in
    let same = (taken-keeps term s).2 in
    let there : index ≤ length s.log = rw same at (lacks-not (taken term s).log index prior n).0 in
    record {
      mine = m.mine;
      ours = m.ours;
      least = λ z. absurd (omega (arith, taken-least term s));
      rises = m.rises;
      stays = m.stays;
      few = rw same (joined-few s.log index es there f);
    }

-- each message that arrives moves it so,
deliver-moves : (s : State) → Good s → (m : Message) → Arrives s m → Ends (λ t ms. Moved s t) (deliver m s)
unfolding sender term_of settle adding following heard
deliver-moves s g (vote_request from to term index prior) a =
    let d = sent-by s (vote_request from to term index prior) a in
    let m = moved-taken s term d.early in
    vote_request-ends (λ t ms. Moved s t) s from to term index prior
    (λ y. moved-voting s (taken term s) from m (omega (arith, d.early, taken-least term s)) y.free) m
deliver-moves s g (vote_answer from to term reply) a =
    let d = sent-by s (vote_answer from to term reply) a in
    vote_answer-ends (λ t ms. Moved s t) s from to term reply
    (λ c m. moved-winner s (adding s from) refl (omega (arith, c.same, d.early)) (moved-not s)) (λ c m. moved-not s)
    (moved-taken s term d.early)
deliver-moves s g (append from to term index prior commit es) a =
    let d = sent-by s (append from to term index prior commit es) a in
    let o = offer-facts from to term index prior commit es a.obeyed in
    append-ends (λ t ms. Moved s t) s from to term index prior commit es
    (λ l. moved-not s) (λ l n. moved-taken s term d.early)
    (λ l n c. moved-joining s term index prior commit es d.early n o.few)
deliver-moves s g (append_answer from to term reply index) a =
    let d = sent-by s (append_answer from to term reply index) a in
    append_answer-ends (λ t ms. Moved s t) s from to term reply index
    (λ h b. moved-not s) (λ h b. moved-not s)
    (moved-taken s term d.early)

-- and so do any bytes.
receive-moves : (bytes : List ℕ) (s : State) → Good s → Ends (λ t ms. Moved s t) (receive bytes s)
receive-moves bytes s g = receive-ends (λ t ms. Moved s t) s (deliver-moves s g) bytes

-- ---- any event

-- **Each moves the stored part so.**
pub step-moves : (e : Event) (s : State) → Good s → Ends (λ t ms. Moved s t) (step e s)
unfolding step
step-moves times_out s g = timeout-moves s g
step-moves (takes_order o) s g = order-moves o s g
step-moves is_prompted s g = prompt-moves s g
step-moves (receives bytes) s g = receive-moves bytes s g
