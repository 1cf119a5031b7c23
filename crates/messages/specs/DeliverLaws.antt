-- Any message and any bytes: what the struct of fields says, its term, its kind, and whom it is for. Assumes nothing.
use Rattle.std.specs.Prelude.{ℕ, ◌+◌, ◌≤◌, ◌<◌, ◌≡◌, Bool, cond, ◌&&◌, eqb, Result, Ok, Err}
use Rattle.std.proofs.Common.{arith, ◌∙◌}
use Rattle.std.proofs.Math.Path.{refl, ap}
use Rattle.std.proofs.Math.Bool.{true, false}
use mathlib.Core.List.{List, [], ◌∷◌}
use borrow.Author.Tests.{ne_eqb, lt-ltb, le-ltb}
use Rattle.digits.specs.Tests.{and_left, and_right}
use Rattle.frames.specs.declared.Entry.{Entry}
use Rattle.frames.specs.declared.Fields.{Fields}
use Rattle.frames.specs.declared.refusal.Refusal.{Refusal}
use Rattle.frames.specs.declared.refusal.Refusal.TheVariants.{NotAFrame}
use Rattle.frames.specs.Limits.{IsBox, log_limit, entry_limit}
use Rattle.frames.specs.Message.{Message, vote_request, vote_answer, append, append_answer, by_kind}
use Rattle.frames.specs.Rules.{is_box, is_index, is_pair, is_start, obeys}
use Rattle.frames.specs.Reading.{Reading, frame, refused, reading}
use Rattle.frames.specs.Fields.{listed, message_of, fields_of, one_frame, answer}
use Rattle.frames.specs.Clauses.{four}
use Rattle.frames.specs.Laws.{kind_1, kind_2, kind_3, kind_4, length-listed}
use Rattle.frames.specs.WritingLaws.{whole}
use Rattle.frames.specs.Refusal.{number}
use Rattle.frames.specs.RefusalLaws.{ok_is, err_is, ok_not_err, err_not_ok}
use Rattle.frames.proofs.ReadingLaws.{message_told, obeys-few}
use Rattle.frames.proofs.OneSpelling.{frame_exactly, one_frame-of}
use Rattle.record.specs.declared.Record.{Record}
use Rattle.record.specs.declared.Decision.{Decision}
use Rattle.raft.specs.Record.{State, is_other}
use Rattle.raft.proofs.RecordLaws.{box_range}
use Rattle.raft.specs.Outcome.{done, refuse}
use Rattle.raft.specs.AnyMessage.{taken}
use Rattle.raft.specs.VoteRequest.{on_vote_request}
use Rattle.raft.specs.VoteAnswer.{on_vote_answer}
use Rattle.raft.specs.Append.{on_append}
use Rattle.raft.specs.AppendAnswer.{on_append_answer}
use Rattle.raft.specs.Receive.{sender, receiver, term_of, stale, current, deliver, is_for, arrive, arrive_read, receive}
use Rattle.raft.proofs.ReceiveLaws.{Offers, offer-facts, taken-keeps, taken-term, good-taken}
use Rattle.record.specs.Calls.{state_of}
use Rattle.record.specs.Deciding.{Becomes, DecidesOrRefuses}
use Rattle.record.specs.DecidingLaws.{becomes_lent, becomes_ready, answers_at}
use Rattle.record.specs.GoodLaws.{ready-good, ready-last}
use Rattle.messages.specs.Required.{Lent, Offered, From, Read, Delivered, InTerm}

-- ---- the fields of a frame

-- what holds of each kind's message holds of the one of any kind
by-each : (P : Message → Type 0) (k : ℕ) (a b c d : Message) → P a → P b → P c → P d → P (by_kind k a b c d)
unfolding by_kind
by-each P k a b c d p q r s = go (eqb k 1) (eqb k 2) (eqb k 3)
  where
    go : (x y z : Bool) → P (cond x a (cond y b (cond z c d)))
    go true y z = p
    go false true z = q
    go false false true = r
    go false false false = s

fields-from : (f : Fields) → sender (message_of f) ≡ f.from
unfolding sender
fields-from f = by-each (λ m. sender m ≡ f.from) f.kind _ _ _ _ refl refl refl refl

fields-to : (f : Fields) → receiver (message_of f) ≡ f.to
unfolding receiver
fields-to f = by-each (λ m. receiver m ≡ f.to) f.kind _ _ _ _ refl refl refl refl

fields-term : (f : Fields) → term_of (message_of f) ≡ f.term
unfolding term_of
fields-term f = by-each (λ m. term_of m ≡ f.term) f.kind _ _ _ _ refl refl refl refl

-- a frame's sender is a box
sender-box : (m : Message) → obeys m ≡ true → is_box (sender m) ≡ true
unfolding sender
sender-box (vote_request from to term index prior) h =
    (four true (is_box from) _ _ (four (is_start from to term) _ _ _ h).0).1
sender-box (vote_answer from to term reply) h = (four true (is_box from) _ _ (and_left (is_start from to term) _ h)).1
sender-box (append from to term index prior commit es) h =
    (four true (is_box from) _ _
    (four (is_start from to term) (is_index index) (is_pair index prior) (is_index commit)
    (four (is_start from to term && is_index index && is_pair index prior && is_index commit) _ _ _ h).0).0).1
sender-box (append_answer from to term reply index) h = (four true (is_box from) _ _ (four (is_start from to term) _ _ _ h).0).1

module _ (f : Fields) (h : one_frame f ≡ true) where
  pub from-box : IsBox f.from
  from-box = box_range f.from (rw (fields-from f) at (sender-box (message_of f) (whole f h).obeyed))

  -- an append's entries are few, and there is room for them
  offers : f.kind ≡ 3 → Offers f.term f.index f.prior (listed f.entries 0 f.count)
  offers k =
      offer-facts f.from f.to f.term f.index f.prior f.commit (listed f.entries 0 f.count)
      (rw (kind_3 f.kind _ _ _ _ k) at (whole f h).obeyed)

  append-few : f.kind ≡ 3 → f.count ≤ entry_limit
  append-few k = omega (arith, (offers k).few, length-listed f.entries 0 f.count)

  append-room : f.kind ≡ 3 → f.index + f.count ≤ log_limit
  append-room k = omega (arith, (offers k).room, length-listed f.entries 0 f.count)

  -- no frame has more
  pub frame-few : f.count ≤ entry_limit
  frame-few = (whole f h).few

-- ---- a lower term

module _ (f : Fields) (s : State) where
  pub stale-request : f.kind ≡ 1 → done s (vote_answer s.me f.from s.term 0 ∷ []) ≡ stale (message_of f) s
  unfolding stale
  stale-request k = rw (kind_1 f.kind _ _ _ _ k)

  pub stale-append : f.kind ≡ 3 → done s (append_answer s.me f.from s.term 0 0 ∷ []) ≡ stale (message_of f) s
  unfolding stale
  stale-append k = rw (kind_3 f.kind _ _ _ _ k)

  pub stale-answer : (f.kind ≡ 1 → ⊥) → (f.kind ≡ 3 → ⊥) → done s [] ≡ stale (message_of f) s
  unfolding stale by_kind
  stale-answer x y = rw (ne_eqb f.kind 1 x, ne_eqb f.kind 3 y) (go (eqb f.kind 2))
    where
      go : (z : Bool) → done s [] ≡ stale (cond z (vote_answer f.from f.to f.term f.reply) (append_answer f.from f.to f.term f.reply f.index)) s
      go true = refl
      go false = refl

  -- ---- its kind

  pub current_1 : f.kind ≡ 1 → on_vote_request s f.from f.index f.prior ≡ current (message_of f) s
  unfolding current
  current_1 k = rw (kind_1 f.kind _ _ _ _ k)

  pub current_2 : f.kind ≡ 2 → on_vote_answer s f.from f.reply ≡ current (message_of f) s
  unfolding current
  current_2 k = rw (kind_2 f.kind _ _ _ _ k)

  pub current_3 : f.kind ≡ 3
      → on_append s f.from f.index f.prior f.commit (listed f.entries 0 f.count) ≡ current (message_of f) s
  unfolding current
  current_3 k = rw (kind_3 f.kind _ _ _ _ k)

  pub current_4 : (f.kind ≡ 1 → ⊥) → (f.kind ≡ 2 → ⊥) → (f.kind ≡ 3 → ⊥)
      → on_append_answer s f.from f.reply f.index ≡ current (message_of f) s
  unfolding current
  current_4 x y z = rw (kind_4 f.kind _ _ _ _ x y z)

  -- ---- its term

  pub deliver-low : f.term < s.term → stale (message_of f) s ≡ deliver (message_of f) s
  unfolding deliver
  deliver-low h = rw (fields-term f, lt-ltb f.term s.term h)

  pub deliver-taken : s.term ≤ f.term → (x : State) → x ≡ taken f.term s → current (message_of f) x ≡ deliver (message_of f) s
  unfolding deliver
  deliver-taken h x e = rw (fields-term f, le-ltb f.term s.term h, e)

  -- ---- whom it is for

  -- not this box: 2
  pub arrive-not : is_for s f.from f.to ≡ false → refuse 2 ≡ arrive (message_of f) s
  unfolding arrive
  arrive-not h = rw (fields-from f, fields-to f, h)

  pub arrive_for : is_for s f.from f.to ≡ true → deliver (message_of f) s ≡ arrive (message_of f) s
  unfolding arrive
  arrive_for h = rw (fields-from f, fields-to f, h)

  pub for_other : is_for s f.from f.to ≡ true → is_other s.me s.members f.from ≡ true
  unfolding is_for
  for_other h = and_right (eqb f.to s.me) _ h

-- ---- what is required, from one to the next

module _ {b : Record} {f : Fields} {terms orders : List ℕ} where
  -- for this box: from another member
  pub read-delivered : Read b f terms orders → is_for (state_of b terms orders) f.from f.to ≡ true → Delivered b f terms orders
  read-delivered r h =
      record { read = r; sender = record { box = from-box f r.frame; other = for_other f (state_of b terms orders) h } }

  module _ (d : Delivered b f terms orders) where
    pub delivered-lent : Lent b terms
    delivered-lent = record { long = d.read.ready.terms_long; last = ready-last d.read.ready }

    pub delivered-from : From b f.from terms orders
    delivered-from = record { ready = d.read.ready; sender = d.sender }

    pub delivered-offered : f.kind ≡ 3 → Offered b f.index f.count terms
    delivered-offered k =
        record { lent = delivered-lent; few = append-few f d.read.frame k; room = append-room f d.read.frame k }

    -- the term taken: still a good record, and the same others
    delivered-taken : (t : Record) → Becomes b t (taken f.term) → Delivered t f terms orders
    delivered-taken t e =
        record {
          read = record {
            ready = becomes_ready e d.read.ready (good-taken f.term s (ready-good d.read.ready));
            frame = d.read.frame;
          };
          sender = record {
            box = d.sender.box;
            other = rw (
              ap (λ (x : State). x.me) same ∙ (taken-keeps f.term s).0,
              ap (λ (x : State). x.members) same ∙ (taken-keeps f.term s).1,
            ) d.sender.other;
          };
        }
      where
        s : State
        s = state_of b terms orders

        same : state_of t terms orders ≡ taken f.term s
        same = becomes_lent e terms orders

    -- which is then the message's
    pub taken-in_term : b.term ≤ f.term → (t : Record) → Becomes b t (taken f.term) → InTerm t f terms orders
    taken-in_term l t e =
        record {
          delivered = delivered-taken t e;
          same = ap (λ (x : State). x.term) (becomes_lent e terms orders) ∙ taken-term f.term (state_of b terms orders) l;
        }

-- what the record with the term taken decides, the box decides
pub taken-decides : (b t : Record) (f : Fields) (terms orders : List ℕ) (r : Result Decision Refusal) (offered : List Entry)
    → Becomes b t (taken f.term) → b.term ≤ f.term
    → DecidesOrRefuses t.last r offered terms orders (current (message_of f) (state_of t terms orders))
    → DecidesOrRefuses b.last r offered terms orders (deliver (message_of f) (state_of b terms orders))
taken-decides b t f terms orders r offered e h k =
    answers_at r offered terms orders e.last (deliver-taken f (state_of b terms orders) h (state_of t terms orders) (becomes_lent e terms orders)) k

-- ---- any bytes

-- no frame: 1
pub read-not : (bytes : List ℕ) (r : Refusal) → Err r ≡ answer (reading bytes) → (s : State) → refuse (number r) ≡ receive bytes s
unfolding receive arrive_read answer
read-not bytes r e s = go (reading bytes) refl
  where
    go : (x : Reading) → reading bytes ≡ x → refuse (number r) ≡ arrive_read (reading bytes) s
    go (frame m) q = absurd (err_not_ok (rw q at e))
    go refused q = rw (err_is (rw q at e), q)

-- a frame: its fields
pub read-frame : (bytes : List ℕ) (f : Fields) → Ok f ≡ answer (reading bytes)
    → (one_frame f ≡ true) × ((s : State) → arrive (message_of f) s ≡ receive bytes s)
unfolding receive arrive_read answer
read-frame bytes f e = go (reading bytes) refl
  where
    go : (x : Reading) → reading bytes ≡ x → (one_frame f ≡ true) × ((s : State) → arrive (message_of f) s ≡ arrive_read (reading bytes) s)
    go (frame m) q =
        let o = (frame_exactly bytes m q).0 in
        let fields : f ≡ fields_of m = ok_is (rw q at e) in
        (rw fields (one_frame-of m o), λ s. rw (fields, q, message_told m (obeys-few m o)))
    go refused q = absurd (ok_not_err (rw q at e))
