-- What is written of a decision is what its outcome leaves: the lent log, the journal line, the messages. Assumes nothing.
use Rattle.std.specs.Prelude.{ℕ, ◌+◌, ◌-◌, ◌*◌, ◌≤◌, ◌≡◌, Bool, cond, List, [], ◌++◌, leb, take, Result, Ok, Err}
use Rattle.std.proofs.Math.Nat.{zero-add}
use Rattle.std.proofs.Common.{add-zero, sym, ◌∙◌, append-nil, length-append, take-append-drop, take_all}
use native.Mathlib.Omega.{arith}
use Rattle.std.proofs.Math.Path.{refl, ap}
use Rattle.std.proofs.Math.Bool.{true, false}
use Rattle.std.proofs.Math.Dec.{eqb}
use Rattle.std.proofs.Math.ListN.{length}
use borrow.Author.Tests.{eqb-true, eqb-false, eq-eqb, le-leb, leb-true}
use Rattle.digits.specs.Tests.{and_left, and_right}
use Rattle.digits.specs.Room.{over}
use Rattle.digits.specs.RoomLaws.{over_nothing, length_over}
use Rattle.frames.specs.declared.Entry.{Entry}
use Rattle.frames.specs.Fields.{listed}
use Rattle.frames.specs.Laws.{length-listed}
use Rattle.frames.specs.RefusalLaws.{ok_is, err_is, ok_not_err, err_not_ok}
use Rattle.frames.specs.WritingLaws.{length-spell, chars-entries}
use Rattle.frames.specs.declared.refusal.Refusal.{Refusal}
use Rattle.record.specs.declared.Record.{Record}
use Rattle.record.specs.declared.Decision.{Decision}
use Rattle.record.specs.declared.Sizes.{Sizes}
use Rattle.raft.specs.Record.{State, is_progress, sends_to}
use Rattle.raft.proofs.RecordLaws.{Good, sent-facts}
use Rattle.raft.specs.Sends.{texts}
use Rattle.raft.specs.Journal.{head, Line, line_text, same_stored, line_of, journaled}
use Rattle.raft.specs.Outcome.{done}
use Rattle.raft.specs.LentLaws.{length-entries_of, drop-entries, stored-terms, stored-orders, stored-log, terms_long, orders_long}
use Rattle.record.specs.Calls.{entries_of, terms_of, orders_of, state_of, record_of, Called, fit, written, run, Runs}
use Rattle.record.specs.Deciding.{messages_of, new_of, after, decided, Decides, Sound}
use Rattle.record.specs.Sizes.{is_silent, line_bytes, line_size, sent_size, roomy, measured, Measurable, Sendable, Tellable, MayFit, MessagesFit}
use Rattle.record.specs.SizeLaws.{sent-long}

-- ---- lengths

-- how long a line is
line-long : (l : Line) → length (line_text l) ≡ 23 + 24 * length l.entries
unfolding line_text
line-long l = simp (length-append, length-spell, chars-entries) (omega arith)

-- and the head
pub head-long : (box mask : ℕ) → length (head box mask) ≡ 9
unfolding head
head-long box mask = simp (length-append, length-spell)

-- a line of no bytes is none,
pub line-none : (n : Record) (d : Decision) (terms orders journal : List ℕ) → 0 ≡ line_size n d → journal ≡ over journal 0 (line_bytes n d terms orders)
unfolding line_size line_bytes
line-none n d terms orders journal e = go (is_silent n d) e
  where
    line : List ℕ
    line = line_text (record { box = d.next.me; term = d.next.term; vote = d.next.vote; kept = d.kept; entries = entries_of terms orders d.kept (d.next.last - d.kept) })

    go : (b : Bool) → 0 ≡ cond b 0 (23 + 24 * (d.next.last - d.kept)) → journal ≡ over journal 0 (cond b [] line)
    go true e = over_nothing journal 0
    go false e = absurd (omega arith)

-- and any other is the record's
pub line-some : (n : Record) (d : Decision) (line : ℕ) → (line ≡ 0 → ⊥) → line ≡ line_size n d
    → (is_silent n d ≡ false) × (23 + 24 * (d.next.last - d.kept) ≡ line)
unfolding line_size
line-some n d line z e = go (is_silent n d) e
  where
    go : (b : Bool) → line ≡ cond b 0 (23 + 24 * (d.next.last - d.kept)) → (b ≡ false) × (23 + 24 * (d.next.last - d.kept) ≡ line)
    go true e = absurd (z e)
    go false e = (refl, sym e)

-- a step's line is as long as the struct says
pub line-sized : (n : Record) (d : Decision) (terms orders : List ℕ) → line_size n d ≡ length (line_bytes n d terms orders)
unfolding line_size line_bytes
line-sized n d terms orders = go (is_silent n d)
  where
    entries : List Entry
    entries = entries_of terms orders d.kept (d.next.last - d.kept)

    line : List ℕ
    line = line_text (record { box = d.next.me; term = d.next.term; vote = d.next.vote; kept = d.kept; entries = entries })

    go : (b : Bool) → cond b 0 (23 + 24 * (d.next.last - d.kept)) ≡ length (cond b [] line)
    go true = refl
    go false = sym (line-long _ ∙ rw (length-entries_of terms orders d.kept (d.next.last - d.kept)))

-- what fits, fits each by itself
fits_both : (a b c d : ℕ) → roomy a b c d ≡ true → (a ≤ b) × (c ≤ d)
unfolding roomy
fits_both a b c d both = (leb-true a b (and_left (leb a b) (leb c d) both), leb-true c d (and_right (leb a b) (leb c d) both))

-- A step that is not refused: its sizes are those of line and messages, and both fit.
pub record Fitting (n : Record) (d : Decision) (journal messages : ℕ) (sizes : Sizes) : Type 0 where
  pub says : sizes ≡ record { line = line_size n d; sent = sent_size d.send d.next }
  pub line : sizes.line ≡ line_size n d
  pub line_fits : line_size n d ≤ journal
  pub sent_fits : sent_size d.send d.next ≤ messages

pub fitting : (n : Record) (d : Decision) (journal messages : ℕ) {sizes : Sizes} → Ok sizes ≡ measured n d journal messages
    → Fitting n d journal messages sizes
unfolding measured
fitting n d journal messages {sizes} e = go (roomy (line_size n d) journal (sent_size d.send d.next) messages) refl
  where
    go : (y : Bool) → roomy (line_size n d) journal (sent_size d.send d.next) messages ≡ y → Fitting n d journal messages sizes
    go true q =
        let room = fits_both (line_size n d) journal (sent_size d.send d.next) messages q in
        let says = ok_is (rw q at e) in
        record { says = says; line = ap (λ (x : Sizes). x.line) says; line_fits = room.0; sent_fits = room.1 }
    go false q = absurd (ok_not_err (rw q at e))

-- next is at most one past the last index, whether the record sends or not
progress_most : (sends : Bool) (last next matched : ℕ) {m : ℕ} → is_progress sends last next matched ≡ true → last ≡ m → next ≤ m + 1
unfolding is_progress
progress_most true last next matched h e = omega (arith, e, sent-facts last next matched h)
progress_most false last next matched h e = omega (arith, eqb-true next 0 (and_left (eqb next 0) _ h))

-- ---- the lent log behind a decision

-- an empty list is not written
over-empty : (d : List ℕ) (at : ℕ) → at ≤ length d → over d at [] ≡ d
unfolding over
over-empty d at h = rw (append-nil (take at d), add-zero at) (take-append-drop at d)

module _ {n : Record} {d : Decision} {offered : List Entry} {terms orders : List ℕ} (u : Sound n d offered terms orders) where
  k : Decides n.last d offered terms orders (decided d offered terms orders)
  k = u.decides

  p : n.last ≤ length terms
  p = omega (arith, u.last, u.terms_long)

  q : n.last ≤ length orders
  q = omega (arith, u.last, u.orders_long)

  y : d.next.last ≤ length terms
  y = omega (arith, k.room, u.terms_long)

  z : d.next.last ≤ length orders
  z = omega (arith, k.room, u.orders_long)

  abbrev s : State
  s = state_of n terms orders

  abbrev t : State
  t = after d offered terms orders

  abbrev new : List Entry
  new = new_of d offered

  -- the lent log with the new entries stored
  abbrev terms' : List ℕ
  terms' = over terms d.kept (terms_of new)

  abbrev orders' : List ℕ
  orders' = over orders d.kept (orders_of new)

  new-long : length new ≡ d.count - d.first
  new-long = length-listed offered d.first (d.count - d.first)

  log-long : length t.log ≡ d.next.last
  log-long = rw (length-append, length-entries_of terms orders 0 d.kept, new-long) (sym k.sum)

  front : take d.kept (entries_of terms orders 0 d.kept) ≡ entries_of terms orders 0 d.kept
  front = take_all d.kept (entries_of terms orders 0 d.kept) (omega (arith, length-entries_of terms orders 0 d.kept))

  -- holds the next record's
  lent : entries_of terms' orders' 0 d.next.last ≡ t.log
  lent =
      ap (entries_of terms' orders' 0) (omega (arith, new-long, k.sum))
      ∙ stored-log terms orders d.kept d.kept new (omega arith) (omega (arith, k.low, p)) (omega (arith, k.low, q))
      (omega (arith, new-long, k.sum, y)) (omega (arith, new-long, k.sum, z))
      ∙ ap (λ (l : List Entry). l ++ new) front

  pub after-lent : t ≡ state_of d.next terms' orders'
  after-lent = rw lent

  pub after-terms : terms' ≡ over terms 0 (terms_of t.log)
  after-terms =
      stored-terms terms orders d.kept d.kept new (omega arith) (omega (arith, k.low, p)) (omega (arith, k.low, q))
      ∙ ap (λ (l : List Entry). over terms 0 (terms_of (l ++ new))) front

  pub after-orders : orders' ≡ over orders 0 (orders_of t.log)
  after-orders =
      stored-orders terms orders d.kept d.kept new (omega arith) (omega (arith, k.low, p)) (omega (arith, k.low, q))
      ∙ ap (λ (l : List Entry). over orders 0 (orders_of (l ++ new))) front

  -- the struct is the next record's
  pub after_record : d.next ≡ record_of t
  after_record = rw log-long

  -- the line is the definition's
  pub after_line : journaled s t ≡ line_bytes n d terms' orders'
  unfolding journaled same_stored line_of line_bytes is_silent
  after_line =
      rw (k.told, length-entries_of terms orders 0 n.last, log-long, ← lent, drop-entries terms' orders' 0 d.next.last d.kept, zero-add d.kept)

  -- ---- what the code leaves is what the outcome leaves

  comes-done : decided d offered terms orders ≡ done t (messages_of d.send t)
  unfolding decided
  comes-done = refl

  line-told : line_size n d ≡ length (journaled s t)
  line-told = line-sized n d terms' orders' ∙ sym (ap length after_line)

  sent-told : sent_size d.send d.next ≡ length (texts (messages_of d.send t))
  sent-told = sent-long d.send d.next terms' orders' ∙ rw after-lent

  -- what does not fit: 5, and nothing is left
  pub refused-left : (journal messages : List ℕ) {r : Refusal} → Err r ≡ measured n d (length journal) (length messages)
      → Runs (decided d offered terms orders) n terms orders journal messages (Err r) terms orders journal messages
  unfolding measured run written fit roomy
  refused-left journal messages {r} e = go (roomy (line_size n d) (length journal) (sent_size d.send d.next) (length messages)) refl
    where
      go : (y : Bool) → roomy (line_size n d) (length journal) (sent_size d.send d.next) (length messages) ≡ y
          → Runs (decided d offered terms orders) n terms orders journal messages (Err r) terms orders journal messages
      go true q = absurd (err_not_ok (rw q at e))
      go false q = rw (err_is (rw q at e), comes-done, ← line-told, ← sent-told, q)

  -- what fits: the line, the messages, and the log with the new entries
  fitting_left : (journal messages : List ℕ) {sizes : Sizes} {journal' messages' : List ℕ} → Fitting n d (length journal) (length messages) sizes
      → journal' ≡ over journal 0 (line_bytes n d terms' orders')
      → messages' ≡ over messages 0 (texts (messages_of d.send (state_of d.next terms' orders')))
      → Runs (decided d offered terms orders) n terms orders journal messages (Ok (record { next = d.next; line = sizes.line; sent = sizes.sent }))
      terms' orders' journal' messages'
  unfolding run written fit
  fitting_left journal messages f jo me =
      rw (
        f.says,
        jo ∙ ap (over journal 0) (sym after_line),
        me ∙ ap (λ (u : State). over messages 0 (texts (messages_of d.send u))) (sym after-lent),
        comes-done,
        le-leb (length (journaled s t)) (length journal) (omega (arith, line-told, f.line_fits)),
        le-leb (length (texts (messages_of d.send t))) (length messages) (omega (arith, sent-told, f.sent_fits)),
        line-told,
        sent-told,
        ← after-terms,
        ← after-orders,
      )
      (ap (λ (b : Record). done-call b) after_record)
    where
      done-call : Record → Called
      done-call b =
          record {
            answer = record { refusal = 0; state = b; line = length (journaled s t); sent = length (texts (messages_of d.send t)) };
            terms = terms';
            orders = orders';
            journal = over journal 0 (journaled s t);
            messages = over messages 0 (texts (messages_of d.send t));
          }

  -- its line and its messages have a length
  pub measurable : Measurable d
  measurable = record { low = omega (arith, k.sum); aimed = k.aimed }

  -- where nothing is added the lent log stays as it was
  pub log-stays : d.first ≡ d.count → (terms' ≡ terms) × (orders' ≡ orders)
  unfolding listed terms_of orders_of
  log-stays h =
      let none : d.count - d.first ≡ 0 = omega arith in
      (rw none (over-empty terms d.kept (omega (arith, k.low, p))), rw none (over-empty orders d.kept (omega (arith, k.low, q))))

  -- and what was offered does not matter,
  pub adds_none-decided : d.first ≡ d.count → decided d offered terms orders ≡ decided d [] terms orders
  unfolding decided listed
  adds_none-decided h = let none : d.count - d.first ≡ 0 = omega arith in rw none

  -- the next record's messages can be made
  pub after-sendable : Sendable d.next terms' orders'
  unfolding sends_to
  after-sendable =
      let g : Good (state_of d.next terms' orders') = rw (← after-lent) u.next_good in
      record {
        in_terms = omega (arith, y, length_over terms d.kept (terms_of new) (omega (arith, terms_long new, new-long, k.sum, y)));
        in_orders = omega (arith, z, length_over orders d.kept (orders_of new) (omega (arith, orders_long new, new-long, k.sum, z)));
        next = λ i b o. progress_most _ _ _ _ (g.sent i b.least b.most) (length-entries_of terms' orders' 0 d.next.last);
      }

  -- and so can its line
  pub after-tellable : Tellable d.next d.kept terms' orders'
  after-tellable =
      record {
        low = omega (arith, k.sum);
        few = omega (arith, k.sum, k.few);
        in_terms = omega (arith, y, length_over terms d.kept (terms_of new) (omega (arith, terms_long new, new-long, k.sum, y)));
        in_orders = omega (arith, z, length_over orders d.kept (orders_of new) (omega (arith, orders_long new, new-long, k.sum, z)));
      }

  -- ---- the same of lent arrays that hold what terms' and orders' do

  module _ {terms'' orders'' : List ℕ} (same-terms : terms'' ≡ terms') (same-orders : orders'' ≡ orders') where
    -- the line can be written,
    pub lent-line : {journal : List ℕ} {messages : ℕ} {sizes : Sizes} → Fitting n d (length journal) messages sizes
        → MayFit sizes.line d.next d.kept terms'' orders'' journal
    lent-line f =
        record {
          tellable = rw (same-terms, same-orders) after-tellable;
          in_room = λ some. omega (arith, f.line_fits, f.line, (line-some n d _ some f.line).1);
        }

    -- the messages too,
    pub lent-messages : {journal : ℕ} {messages : List ℕ} {sizes : Sizes} → Fitting n d journal (length messages) sizes
        → MessagesFit d.send d.next terms'' orders'' messages
    lent-messages f = record { aimed = k.aimed; sendable = rw (same-terms, same-orders) after-sendable; in_room = f.sent_fits }

    -- and that is what the outcome leaves
    pub lent-left : (journal messages : List ℕ) {sizes : Sizes} {journal' messages' : List ℕ} → Fitting n d (length journal) (length messages) sizes
        → journal' ≡ over journal 0 (line_bytes n d terms'' orders'')
        → messages' ≡ over messages 0 (texts (messages_of d.send (state_of d.next terms'' orders'')))
        → Runs (decided d offered terms orders) n terms orders journal messages (Ok (record { next = d.next; line = sizes.line; sent = sizes.sent }))
        terms'' orders'' journal' messages'
    lent-left journal messages f jo me =
        rw (same-terms, same-orders) (fitting_left journal messages f (rw (same-terms, same-orders) at jo) (rw (same-terms, same-orders) at me))

  -- where the new entries were stored behind the place of the offered ones
  pub stored_at : {stored : List ℕ} (i : ℕ) (old new : List ℕ) → i + d.first ≡ d.kept → stored ≡ over old (i + d.first) new
      → stored ≡ over old d.kept new
  stored_at i old new e h = rw (← e) h
