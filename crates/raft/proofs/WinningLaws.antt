-- What the blank does: it is behind the log where there is room, the first appends carry it and nothing else, and a park of one commits it at once; and what else
-- winning changes. Assumes nothing.
use Rattle.std.specs.Prelude.{ℕ, ◌+◌, ◌-◌, ◌≤◌, ◌<◌, ◌≡◌, refl, true, cond, List, [], ◌∷◌, ◌++◌, eqb, leb}
use Rattle.std.proofs.Common.{arith, sym, ◌∙◌, length-append, le-leb}
use Rattle.std.proofs.Math.Seq.{drop-append_seam, drop-length}
use Rattle.std.proofs.lemmas.Bool.{lt-leb}
use Rattle.frames.specs.Limits.{boxes, log_limit}
use Rattle.frames.specs.Message.{Message, append}
use Rattle.raft.specs.Majority.{bit, majority}
use Rattle.raft.specs.Record.{State, last_index, last_term, is_other, of_box, of_each, zeros, term_at}
use Rattle.raft.specs.Commit.{matches, matching, is_matched, settled, settle}
use Rattle.raft.specs.Sends.{append_to, appends}
use Rattle.raft.specs.Outcome.{done}
use Rattle.raft.specs.Order.{ordered, blank, order}
use Rattle.raft.specs.Winning.{next_after, leading, winner, won}
use Rattle.raft.proofs.RecordLaws.{at-box, Good, member-facts}
use Rattle.raft.proofs.CommitLaws.{settled-most, reaches, term-front, term-new}
use Rattle.raft.proofs.StepLaws.{winner_full, winner-room, winner-ends, led_carries, won-led, order-ends}

-- ---- what winning changes, and an order

-- The blank stands behind the log, of the new term,
pub blank-there : (s : State) → last_index s < log_limit → (winner s).log ≡ s.log ++ (record { term = s.term; order = 0 } ∷ [])
unfolding leading ordered
blank-there s l = rw (winner-room s l)

-- as an order that is taken does, with the client's bytes.
pub order-there : (o : ℕ) (s t : State) (ms : List Message) → order o s ≡ done t ms → t.log ≡ s.log ++ (record { term = s.term; order = o } ∷ [])
unfolding settle ordered
order-there o s t ms = order-ends (λ u ns. u.log ≡ s.log ++ (record { term = s.term; order = o } ∷ [])) o s (λ r l. refl) t ms

-- What was handed out stays so: commit is as it was until it is settled.
pub winner-commit : (s : State) → (winner s).commit ≡ s.commit
unfolding leading ordered
winner-commit s = winner-ends (λ t. t.commit ≡ s.commit) s refl (λ l. refl)

-- "match = 0"
pub winner_match : (s : State) → (winner s).lead.matched ≡ zeros
unfolding leading ordered
winner_match s = winner-ends (λ t. t.lead.matched ≡ zeros) s refl (λ l. refl)

-- ---- the first appends

-- They are those of the next record: "before its first appends".
pub won_carries : (s t : State) (ms : List Message) → won s ≡ done t ms → ms ≡ appends t
won_carries s t ms e = led_carries (winner s) t ms (sym (won-led s) ∙ e)

-- a new leader's next is the definition's
next-there : (s : State) (i : ℕ) → 1 ≤ i → i ≤ boxes → of_box (of_each (next_after s)) i ≡ next_after s i
next-there s = at-box (λ i. of_box (of_each (next_after s)) i ≡ next_after s i) refl refl refl refl refl refl refl

-- **"Next for the others is the blank's index, so the first appends carry it":** behind the last entry that the box had, the blank, of the new term, and nothing else.
pub first_append : (s : State) → last_index s < log_limit → (i : ℕ) → 1 ≤ i → i ≤ boxes → is_other s.me s.members i ≡ true
    → append_to (settle (winner s)) i
    ≡ append s.me i s.term (last_index s) (last_term s) (settled (winner s)) (record { term = s.term; order = 0 } ∷ [])
unfolding settle leading ordered
first_append s l i a b o =
    let back : last_index s + 1 - 1 ≡ last_index s = omega arith in
    rw (
      winner-room s l,
      next-there s i a b,
      o,
      back,
      term-front s.log (record { term = s.term; order = 0 }) (last_index s) (omega arith),
      drop-append_seam s.log (record { term = s.term; order = 0 } ∷ []),
    )

-- With a full log they carry nothing.
pub first_append_full : (s : State) → log_limit ≤ last_index s → (i : ℕ) → 1 ≤ i → i ≤ boxes → is_other s.me s.members i ≡ true
    → append_to (settle (winner s)) i ≡ append s.me i s.term (last_index s) (last_term s) (settled (winner s)) []
unfolding settle leading
first_append_full s l i a b o =
    let back : last_index s + 1 - 1 ≡ last_index s = omega arith in
    rw (winner_full s l, next-there s i a b, o, back, drop-length s.log)

-- ---- a park of one

-- Box i's bit, where it matches an index: the box itself its last index, nobody else anything.
abbrev if_alone : (me last n i : ℕ) → ℕ
if_alone me last n i = cond (leb n (cond (eqb i me) last 0)) (bit i) 0

-- The boxes that then match an index of the log are the box itself.
alone_sum : (last n : ℕ) → 1 ≤ n → n ≤ last → (me : ℕ) → 1 ≤ me → me ≤ boxes
    → if_alone me last n 1 + if_alone me last n 2 + if_alone me last n 3 + if_alone me last n 4 + if_alone me last n 5 + if_alone me last n 6 + if_alone me last n 7 ≡ bit me
alone_sum last n l m =
    let own = le-leb n last m in
    let none = lt-leb n 0 (omega arith) in
    at-box
    (λ me. if_alone me last n 1 + if_alone me last n 2 + if_alone me last n 3 + if_alone me last n 4 + if_alone me last n 5 + if_alone me last n 6 + if_alone me last n 7 ≡ bit me)
    (rw (own, none)) (rw (own, none)) (rw (own, none)) (rw (own, none)) (rw (own, none)) (rw (own, none)) (rw (own, none))

alone_matches : (s : State) → s.lead.matched ≡ zeros → (n : ℕ) → 1 ≤ n → n ≤ last_index s → 1 ≤ s.me → s.me ≤ boxes → matching s n ≡ bit s.me
unfolding matching matches
alone_matches s z n l m a b = rw z (alone_sum (last_index s) n l m s.me a b)

-- **"A majority already (one member): it leads at once", and commits its blank, and all before it, in the same step.**
pub alone_commits : (s : State) → Good s → majority s.members (bit s.me) ≡ true → last_index s < log_limit → settled (winner s) ≡ last_index s + 1
unfolding is_matched leading ordered
alone_commits s g most l =
    let m = member-facts s.me s.members g.membership in
    let x : State = ordered (leading s) blank in
    let long : last_index x ≡ last_index s + 1 = length-append s.log _ in
    let new : term_at x.log (last_index x) ≡ s.term = term-new s.log _ (last_index x) long in
    let matched : matching x (last_index x) ≡ bit s.me = alone_matches x refl (last_index x) (omega arith) (omega arith) m.least m.most in
    rw (winner-room s l)
    (omega (arith, long, settled-most x (omega (arith, long, g.commit)), reaches x (last_index x) (omega arith) new (rw matched most)))
