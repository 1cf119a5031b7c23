-- What an append comes to, case by case, and the decision that adds entries. Assumes nothing.
use Rattle.std.specs.Prelude.{ℕ, ◌+◌, ◌-◌, ◌≤◌, ◌<◌, min, ◌≡◌, true, false, List, [], ◌∷◌, ◌++◌, length, take, drop, Bool}
use Rattle.std.proofs.Common.{arith, ◌∙◌, take_all, length-drop}
use Rattle.std.proofs.lemmas.List.{length-take-le}
use Rattle.std.proofs.Math.Path.{sym, ap}
use borrow.Author.Tests.{eq-eqb, ne_eqb, lt-ltb, le-ltb}
use Rattle.frames.specs.declared.Entry.{Entry}
use Rattle.frames.specs.Fields.{listed}
use Rattle.frames.specs.Message.{append_answer}
use Rattle.record.specs.declared.Record.{Record}
use Rattle.record.specs.declared.Send.{Send}
use Rattle.raft.specs.Record.{State, leader, with_log, with_commit, as_follower}
use Rattle.raft.specs.Journal.{kept}
use Rattle.raft.specs.LentLaws.{length-entries_of, take-entries}
use Rattle.raft.specs.Outcome.{done, refuse}
use Rattle.raft.specs.Append.{lacks, agreed, stop, passes, joined, cuts_committed, following, commit_after, joining, accept, on_append}
use Rattle.raft.proofs.JoinLaws.{stop-most, stop-offered, joined_same, joined-cut, kept-joined}
use Rattle.record.specs.Calls.{entries_of, with_entries, state_of}
use Rattle.record.specs.Deciding.{messages_of, decided, Aimed, Decides, Becomes}
use Rattle.record.specs.DecidingLaws.{becomes_lent}
use Rattle.rules.specs.SliceLaws.{listed-slice, entries-own}
use Rattle.messages.specs.Required.{Lent, Offered}

-- ---- the log's own terms

module _ {b : Record} {terms : List ℕ} (l : Lent b terms) (orders : List ℕ) where
  within : b.last ≤ length terms
  within = omega (arith, l.long, l.last)

  -- are as many as it is long,
  pub own-long : length (take b.last terms) ≡ b.last
  own-long = length-take-le b.last terms within

  -- and the search and the look at the entry before see the log in them.
  pub own-found : (index : ℕ) (es : List Entry) {place : ℕ}
      → place ≡ stop (entries_of (take b.last terms) orders 0 (length (take b.last terms))) index es → place ≡ stop (entries_of terms orders 0 b.last) index es
  own-found index es e = e ∙ ap (λ (log : List Entry). stop log index es) (entries-own terms orders b.last within)

  pub own-lacks : (index prior : ℕ) {x : Bool}
      → x ≡ lacks (entries_of (take b.last terms) orders 0 (length (take b.last terms))) index prior → x ≡ lacks (entries_of terms orders 0 b.last) index prior
  own-lacks index prior e = e ∙ ap (λ (log : List Entry). lacks log index prior) (entries-own terms orders b.last within)

-- ---- before the search

module _ (s : State) (from index prior commit : ℕ) (es : List Entry) where
  -- the box leads: 6
  pub append-leads : s.role ≡ leader → refuse 6 ≡ on_append s from index prior commit es
  unfolding on_append
  append-leads l = rw (eq-eqb s.role leader l)

  module _ (l : s.role ≡ leader → ⊥) where
    -- the entry before is lacking: no
    pub append-lacks : (x : State) → x ≡ following s → lacks s.log index prior ≡ true
        → done x (append_answer x.me from x.term 0 0 ∷ []) ≡ on_append s from index prior commit es
    unfolding on_append
    append-lacks x e k = rw (ne_eqb s.role leader l, k, e)

    pub append-accepts : lacks s.log index prior ≡ false → accept s from index commit es ≡ on_append s from index prior commit es
    unfolding on_append
    append-accepts k = rw (ne_eqb s.role leader l, k)

-- ---- the search's place

-- the listed entries from a place on
drop-listed : (es : List Entry) (k : ℕ) → drop k es ≡ listed es k (length es - k)
drop-listed es k = sym (listed-slice es k (length es) (omega arith) ∙ take_all _ _ (omega (arith, length-drop k es)))

module _ (b : Record) (terms orders : List ℕ) (from index commit : ℕ) (es : List Entry) (place : ℕ)
    (found : place ≡ stop (entries_of terms orders 0 b.last) index es) (f : Record) (becomes : Becomes b f following)
    (k : ℕ) (settled : k ≡ commit_after b.commit commit (index + length es)) where
  abbrev s : State
  s = state_of b terms orders

  -- what the box becomes, with a log
  abbrev pub accepting : List Entry → State
  accepting log = as_follower (with_commit (commit_after b.commit commit (index + length es)) (with_log log s))

  -- the follower's struct, with that commit
  follows_with : (log : List Entry) → with_commit k (with_log log (state_of f terms orders)) ≡ accepting log
  unfolding following
  follows_with log = ap (λ (x : State). with_commit k (with_log log x)) (becomes_lent becomes terms orders) ∙ rw settled

  follows : with_commit k (state_of f terms orders) ≡ accepting s.log
  unfolding following
  follows = ap (with_commit k) (becomes_lent becomes terms orders) ∙ rw settled

  pub place-least : index ≤ place
  unfolding stop
  place-least = omega (arith, found)

  pub place-most : place ≤ index + length es
  place-most = omega (arith, found, stop-offered s.log index es)

  place-agreed : agreed (drop index s.log) es ≡ place - index
  unfolding stop
  place-agreed = omega (arith, found)

  -- all is held
  passed : place ≡ index + length es → passes s.log index es ≡ true
  unfolding stop passes
  passed h = eq-eqb (agreed (drop index s.log) es) (length es) (omega (arith, found, h))

  pub accept-held : place ≡ index + length es
      → done (with_commit k (state_of f terms orders)) (append_answer f.me from f.term 1 (index + length es) ∷ []) ≡ accept s from index commit es
  unfolding cuts_committed joining
  accept-held h = ap (λ (x : State). done x (append_answer x.me from x.term 1 (index + length es) ∷ [])) follows ∙ rw (passed h, joined_same s.log index es (passed h))

  module _ (h : place ≡ index + length es → ⊥) where
    more : passes s.log index es ≡ false
    unfolding stop passes
    more = ne_eqb (agreed (drop index s.log) es) (length es) (λ p. h (omega (arith, found, p)))

    -- a cut at or below commit: 7
    pub accept_alarm : place < b.commit → refuse 7 ≡ accept s from index commit es
    unfolding cuts_committed
    accept_alarm l = rw (more, ← found, lt-ltb place b.commit l)

    module _ (i : index ≤ b.last) where
      inside : index ≤ length s.log
      inside = omega (arith, length-entries_of terms orders 0 b.last)

      place_inside : place ≤ b.last
      place_inside = omega (arith, found, stop-most s.log index es inside, length-entries_of terms orders 0 b.last)

      -- the joined log is what is kept and what is new
      added-log : entries_of terms orders 0 place ++ listed es (place - index) (length es - (place - index)) ≡ joined s.log index es
      added-log =
          sym
          (joined-cut s.log index es more
          ∙ rw (place-agreed, drop-listed es (place - index), ← found, take-entries terms orders 0 b.last place, least))
        where
          least : min place b.last ≡ place
          least = omega (arith, place_inside)

      -- Entries are added: the decision for it.
      pub accept-adds : (next : Record) (end : ℕ) → end ≡ index + length es → Offered b index (length es) terms → b.commit ≤ place → next.last ≡ end
          → ((log : List Entry) → with_entries next log ≡ with_commit k (with_log log (state_of f terms orders)))
          → Decides b.last
          (record { next = next; kept = place; first = place - index; count = length es; send = Send.AppendAnswer from 1 end })
          es terms orders (accept s from index commit es)
      unfolding decided messages_of Aimed cuts_committed joining
      accept-adds next end e o c l with-log-of =
          record {
            comes =
                ap (λ (x : State). done x (append_answer x.me from x.term 1 end ∷ []))
                (with-log-of (entries_of terms orders 0 place ++ listed es (place - index) (length es - (place - index)))
                ∙ follows_with (entries_of terms orders 0 place ++ listed es (place - index) (length es - (place - index))))
                ∙ rw (added-log, more, ← found, le-ltb place b.commit c, e);
            low = place_inside;
            part = omega (arith, place-most);
            few = o.few;
            there = omega (arith, place-least);
            held = omega arith;
            sum = omega (arith, l, e, place-least, place-most);
            room = omega (arith, l, e, o.room);
            told = ap (kept s.log) added-log ∙ kept-joined s.log index es inside more ∙ sym found;
            aimed = tt;
          }
