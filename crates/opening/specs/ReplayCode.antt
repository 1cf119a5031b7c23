-- One line and all lines, as the code comes to them: the answer, the record's struct and the lent log. Assumes nothing.
use Rattle.std.specs.Prelude.{ℕ, ◌+◌, ◌-◌, ◌≤◌, ◌<◌, min, ◌≡◌, Bool, cond, ◌&&◌, List, [], ◌∷◌, ◌++◌, leb, length, take, drop, Ok, Err}
use Rattle.std.proofs.Common.{add-zero, arith, ◌∙◌, true≢false, length-append, length-take, take-append-drop, length-take-le, drop-drop, leb-true}
use Rattle.std.proofs.Math.Nat.{sub-zero}
use Rattle.std.proofs.Math.Path.{refl, sym, ap}
use Rattle.std.proofs.Math.Bool.{true, false, and-false}
use Rattle.digits.specs.Room.{over}
use Rattle.digits.specs.Tests.{and_left, and_right}
use Rattle.frames.specs.declared.Entry.{Entry}
use Rattle.frames.specs.declared.refusal.Refusal.TheVariants.{BadLine}
use Rattle.frames.specs.Limits.{log_limit, entry_limit}
use Rattle.frames.specs.Fields.{listed}
use Rattle.frames.specs.Clauses.{four}
use Rattle.frames.specs.Laws.{length-listed, listed-take}
use Rattle.frames.proofs.ReadingLaws.{length-entries}
use Rattle.text.specs.Lines.{first_line}
use Rattle.text.specs.LinesLaws.{first-most}
use Rattle.raft.specs.Record.{State}
use Rattle.raft.specs.Journal.{Line}
use Rattle.raft.specs.Lent.{entries_of, terms_of, orders_of}
use Rattle.raft.specs.LentLaws.{length-entries_of, take-entries, stored-terms, stored-orders}
use Rattle.record.specs.declared.Record.{Record}
use Rattle.record.specs.Calls.{state_of, record_of}
use Rattle.record.specs.SameLaws.{record_same, lent_same, written-log}
use Rattle.journal.specs.Lines.{lines, whole_bytes, count_in, line_shaped, line_in}
use Rattle.journal.proofs.LinesLaws.{lines_none, lines-first, counted_none, counted-line}
use Rattle.journal.specs.Opening.{restarted, is_of_box, term_holds, vote_is, vote_stays, kept_holds, count_holds, entries_hold, allows, after}
use Rattle.journal.specs.Opening.{Replayed, next, breaks, replayed}
use Rattle.opening.specs.declared.LineFields.{LineFields}
use Rattle.opening.specs.Calls.{LentLog, line_of, allows_numbers, Advances, ReplayedTold, Replaying, replaying_by, replaying, Tells, Replays}
use Rattle.opening.specs.CodeLaws.{first-none, first-whole, allows-by, Numbers, numbers}

-- ---- one line

-- a line's entries fit
count_room : (s : State) (l : Line) → allows s l ≡ true → l.kept + length l.entries ≤ log_limit
unfolding allows
count_room s l h =
    let front = is_of_box s l && term_holds s l && vote_is s l && vote_stays s l in
    leb-true _ _ (and_left (leb (l.kept + length l.entries) log_limit) _ (four front (kept_holds s l) (count_holds l) (entries_hold s l) h).2)

-- and are few
count-few : (s : State) (l : Line) → allows s l ≡ true → length l.entries ≤ entry_limit
unfolding allows
count-few s l h =
    let front = is_of_box s l && term_holds s l && vote_is s l && vote_stays s l in
    leb-true _ _ (and_right (leb (l.kept + length l.entries) log_limit) _ (four front (kept_holds s l) (count_holds l) (entries_hold s l) h).2)

module _ (b : Record) (bytes terms orders : List ℕ) where
  abbrev s : State
  s = state_of b terms orders

  -- A line that breaks a rule is answered so, and all is as it was.
  pub replay_unshaped : line_shaped bytes ≡ false → Replays b bytes terms orders (Err BadLine) terms orders
  unfolding replaying replaying_by replayed
  replay_unshaped h = rw h

  pub replay-refused : allows s (line_in bytes) ≡ false → Replays b bytes terms orders (Err BadLine) terms orders
  unfolding replaying replaying_by replayed
  replay-refused h = rw (h, and-false (line_shaped bytes))

  -- more entries than a line has
  pub replay_many : entry_limit < count_in bytes → Replays b bytes terms orders (Err BadLine) terms orders
  unfolding line_in
  replay_many h = replay-refused (go (allows s (line_in bytes)) refl)
    where
      go : (x : Bool) → allows s (line_in bytes) ≡ x → allows s (line_in bytes) ≡ false
      go true e = absurd (omega (arith, h, count-few s (line_in bytes) e, length-entries bytes 22 (count_in bytes)))
      go false e = e

  -- a good line
  module _ (l : LineFields) (h : line_shaped bytes ≡ true) (e : line_of l ≡ line_in bytes) (a : allows s (line_of l) ≡ true)
      (lent : LentLog terms orders) where
    abbrev es : List Entry
    es = listed l.entries 0 l.count

    abbrev log : List Entry
    log = take l.kept (entries_of terms orders 0 b.last) ++ es

    fits : Numbers b l
    fits = numbers b l (and_left (allows_numbers b l) _ (sym (allows-by b l terms orders) ∙ a))

    front : take l.kept (entries_of terms orders 0 l.kept) ≡ take l.kept (entries_of terms orders 0 b.last)
    front =
        take-entries terms orders 0 l.kept l.kept
        ∙ ap (entries_of terms orders 0) kept-min
        ∙ sym (take-entries terms orders 0 b.last l.kept)
      where
        kept-min : min l.kept l.kept ≡ min l.kept b.last
        kept-min = omega (arith, fits.inside)

    long : length log ≡ l.kept + l.count
    long =
        rw (
          length-append,
          length-take-le l.kept (entries_of terms orders 0 b.last) (omega (arith, fits.inside, length-entries_of terms orders 0 b.last)),
          length-listed l.entries 0 l.count,
        )

    stored : (over terms l.kept (terms_of es) ≡ over terms 0 (terms_of log)) × (over orders l.kept (orders_of es) ≡ over orders 0 (orders_of log))
    stored =
        rw (← front) (
          stored-terms terms orders l.kept l.kept es (omega arith) (omega (arith, fits.room, lent.terms_long)) (omega (arith, fits.room, lent.orders_long)),
          stored-orders terms orders l.kept l.kept es (omega arith) (omega (arith, fits.room, lent.terms_long)) (omega (arith, fits.room, lent.orders_long)),
        )

    goes : replayed s bytes ≡ next (after s (line_of l))
    unfolding replayed
    goes = rw (h, ← e, a)

    pub replay-next-listed : {n : Record} {terms' orders' : List ℕ} → Advances b l n
        → terms' ≡ over terms (l.kept + 0) (terms_of (listed l.entries 0 (l.count - 0)))
        → orders' ≡ over orders (l.kept + 0) (orders_of (listed l.entries 0 (l.count - 0)))
        → Replays b bytes terms orders (Ok n) terms' orders'
    unfolding replaying replaying_by after restarted
    replay-next-listed {n} {terms'} {orders'} f t o = leaves ∙ sym (ap (λ (x : Replayed). replaying_by x b terms orders) goes)
      where
        made : n ≡ record_of (after s (line_of l))
        made = record_same n log (long ∙ sym f.last) ∙ ap record_of (f.state log long)

        leaves : ◌≡◌ {A = Replaying} (record { answer = record { refusal = 0; state = n }; terms = terms'; orders = orders' })
            (replaying_by (next (after s (line_of l))) b terms orders)
        leaves = rw (made, t, o, add-zero, sub-zero, stored.0, stored.1)

    -- the same, its entries being the first of those in the struct
    pub replay-next : {n : Record} {terms' orders' : List ℕ} → Advances b l n → l.count ≤ length l.entries
        → terms' ≡ over terms l.kept (terms_of (take l.count l.entries)) → orders' ≡ over orders l.kept (orders_of (take l.count l.entries))
        → Replays b bytes terms orders (Ok n) terms' orders'
    replay-next f c t o =
        let all = sym (listed-take l.entries l.count c) in
        replay-next-listed f (t ∙ rw (add-zero, sub-zero, all)) (o ∙ rw (add-zero, sub-zero, all))

-- ---- what a line leaves

-- a replayed log fits
pub replayed-room : (s : State) (bytes : List ℕ) (t : State) → replayed s bytes ≡ next t → length t.log ≤ log_limit
unfolding replayed after restarted allows
replayed-room s bytes t = go (line_shaped bytes && allows s (line_in bytes)) refl
  where
    go : (b : Bool) → (line_shaped bytes && allows s (line_in bytes)) ≡ b → cond b (next (after s (line_in bytes))) breaks ≡ next t → length t.log ≤ log_limit
    go true a e =
        let same : after s (line_in bytes) ≡ t = cc in
        let room = count_room s (line_in bytes) (and_right (line_shaped bytes) _ a) in
        rw (← same) (rw length-append (omega (arith, room, length-take (line_in bytes).kept s.log)))
    go false a e = let never : ◌≡◌ {A = Bool} true false = cc in absurd (true≢false never)

module _ (b : Record) (bytes terms orders : List ℕ) {one : ReplayedTold} {terms' orders' : List ℕ}
    (e : Tells b bytes terms orders one terms' orders') where
  abbrev comes : Replayed
  comes = replayed (state_of b terms orders) bytes

  by : {r : Replayed} → comes ≡ r
      → ◌≡◌ {A = Replaying} (record { answer = one; terms = terms'; orders = orders' }) (replaying_by r b terms orders)
  unfolding replaying
  by k = e ∙ ap (λ (x : Replayed). replaying_by x b terms orders) k

  -- A line that breaks a rule
  pub line-breaks : (one.refusal ≡ 0 → ⊥) → comes ≡ breaks
  unfolding replaying_by
  line-breaks h = go comes refl
    where
      go : (r : Replayed) → comes ≡ r → comes ≡ breaks
      go (next t) k = absurd (h (ap (λ (x : Replaying). x.answer.refusal) (by k)))
      go breaks k = k

  -- is answered 10,
  pub broken-number : (one.refusal ≡ 0 → ⊥) → one.refusal ≡ 10
  unfolding replaying_by
  broken-number h = ap (λ (x : Replaying). x.answer.refusal) (by (line-breaks h))

  -- leaves the log,
  pub broken-leaves : (one.refusal ≡ 0 → ⊥) → (terms' ≡ terms) × (orders' ≡ orders)
  unfolding replaying_by
  broken-leaves h =
      (ap (λ (x : Replaying). x.terms) (by (line-breaks h)), ap (λ (x : Replaying). x.orders) (by (line-breaks h)))

  -- and a good one leaves the next record: a struct and a log that are it, and fit.
  pub record Goes : Type 0 where
    pub to : State
    pub is : comes ≡ next to
    pub same : state_of one.state terms' orders' ≡ to
    pub room : one.state.last ≤ log_limit

  pub line-goes : one.refusal ≡ 0 → Goes
  unfolding replaying_by
  line-goes h = go comes refl
    where
      go : (r : Replayed) → comes ≡ r → Goes
      go breaks k = absurd (omega (arith, h, ap (λ (x : Replaying). x.answer.refusal) (by k)))
      go (next t) k =
          let state : one.state ≡ record_of t = ap (λ (x : Replaying). x.answer.state) (by k) in
          let te : terms' ≡ over terms 0 (terms_of t.log) = ap (λ (x : Replaying). x.terms) (by k) in
          let od : orders' ≡ over orders 0 (orders_of t.log) = ap (λ (x : Replaying). x.orders) (by k) in
          record {
            to = t;
            is = k;
            same = rw (state, te, od) (lent_same t _ _ (written-log t.log terms orders));
            room = rw state (replayed-room (state_of b terms orders) bytes t k);
          }

-- ---- where the lines are

module _ (bytes : List ℕ) (at : ℕ) (h : at ≤ length bytes) where
  abbrev rest : List ℕ
  rest = drop at bytes

  -- no more of them
  pub lines_end : first_line rest ≡ 0 → (lines rest ≡ []) × (whole_bytes rest ≡ 0)
  lines_end e = (lines_none rest (first-none rest e), counted_none rest (first-none rest e))

  -- or one, and those behind it
  pub lines_next : (first_line rest ≡ 0 → ⊥)
      → (lines rest ≡ take (first_line rest) rest ∷ lines (drop (at + first_line rest) bytes))
      × (whole_bytes rest ≡ first_line rest + whole_bytes (drop (at + first_line rest) bytes))
  lines_next n = (
    ap lines parts ∙ lines-first line behind (first-whole rest n),
    ap whole_bytes parts ∙ counted-line line behind (first-whole rest n) ∙ ap (λ (k : ℕ). k + whole_bytes behind) long,
  )
    where
      line : List ℕ
      line = take (first_line rest) rest

      behind : List ℕ
      behind = drop (at + first_line rest) bytes

      parts : rest ≡ line ++ behind
      parts = sym (take-append-drop (first_line rest) rest) ∙ ap (λ (l : List ℕ). line ++ l) (drop-drop (first_line rest) at bytes)

      long : length line ≡ first_line rest
      long = length-take-le (first_line rest) rest (first-most rest)
