-- How long messages are, and how they come to stand in the room one behind the other. Assumes nothing.
use Rattle.std.specs.Prelude.{ℕ, zero, suc, ◌+◌, ◌-◌, ◌*◌, ◌≤◌, ◌<◌, ◌≡◌, refl, Bool, true, false, cond, List, [], ◌∷◌, ◌++◌, length, get_or, take, drop}
use Rattle.std.proofs.Common.{zero-add, add-zero, add-suc, suc-add, add-one, arith, sym, ap, ◌∙◌, append_assoc, append-nil}
use Rattle.std.proofs.Common.{length-append, length-take, length-drop, drop_of_length-le, drop-drop, take_all}
use Rattle.std.proofs.Math.Decide.{dec_le}
use Rattle.digits.specs.Room.{over}
use Rattle.digits.specs.RoomLaws.{over-over}
pub use Rattle.digits.specs.RoomLaws.{over_nothing}
use Rattle.frames.specs.declared.Entry.{Entry}
use Rattle.frames.specs.Limits.{boxes, entry_limit, longest_message}
use Rattle.frames.specs.Message.{Message, vote_request, vote_answer, append, append_answer, entry_fields, spell, text}
use Rattle.frames.specs.Reading.{size}
use Rattle.frames.specs.WritingLaws.{length-text, chars, chars-entries, entry_fields-append, put_more}
use Rattle.record.specs.declared.Record.{Record}
use Rattle.record.specs.declared.Send.{Send}
use Rattle.raft.specs.Record.{State, term_at, is_other}
use Rattle.raft.specs.Sends.{append_to, to_others, texts, vote_requests, appends, vote_request_to}
use Rattle.raft.specs.LentLaws.{length-entries_of, entries_more, drop-entries, take-entries}
use Rattle.record.specs.Calls.{entries_of, with_entries, state_of}
use Rattle.record.specs.Deciding.{messages_of}
use Rattle.record.specs.Sizes.{share, shares, request_size, previous, entry_count, append_size, sent_size}

-- ---- texts

pub request-long : (a b c d e : ℕ) → length (text (vote_request a b c d e)) ≡ 29
unfolding size
request-long a b c d e = length-text (vote_request a b c d e)

pub append-long : (a b c d e f : ℕ) (es : List Entry) → length (text (append a b c d e f es)) ≡ 35 + 24 * length es
unfolding size
append-long a b c d e f es = omega (arith, length-text (append a b c d e f es))

texts-append : (ms ns : List Message) → texts (ms ++ ns) ≡ texts ms ++ texts ns
unfolding texts
texts-append [] ns = refl
texts-append (m ∷ ms) ns = rw (texts-append ms ns) (sym (append_assoc (text m) (texts ms) (texts ns)))

pub texts-one : (m : Message) → texts (m ∷ []) ≡ text m
unfolding texts
texts-one m = append-nil (text m)

pub vote_answer-long : (a b c d : ℕ) → length (texts (vote_answer a b c d ∷ [])) ≡ 19
unfolding size
vote_answer-long a b c d = ap length (texts-one (vote_answer a b c d)) ∙ length-text (vote_answer a b c d)

pub append_answer-long : (a b c d e : ℕ) → length (texts (append_answer a b c d e ∷ [])) ≡ 23
unfolding size
append_answer-long a b c d e = ap length (texts-one (append_answer a b c d e)) ∙ length-text (append_answer a b c d e)

-- ---- the room

-- a part of the room, written from its own start, is written in the whole room
over-part : (d : List ℕ) (at : ℕ) (t : List ℕ) → at ≤ length d → take at d ++ over (drop at d) 0 t ≡ over d at t
unfolding over
over-part d at t h = rw (drop-drop, zero-add) (sym (append_assoc (take at d) t (drop (at + length t) d)))

-- the rest of the room, lent from a place on
pub rest-long : (d : List ℕ) (at : ℕ) → length (take (length d - at) (drop at d)) ≡ length d - at
rest-long d at = simp (length-take, length-drop) (omega arith)

-- and back, with a text at its start
pub over-rest : (d : List ℕ) (at : ℕ) (t : List ℕ) → at ≤ length d
    → take at d ++ (over (take (length d - at) (drop at d)) 0 t ++ drop (length d - at) (drop at d)) ≡ over d at t
over-rest d at t h =
    rw (
      take_all (length d - at) (drop at d) (simp length-drop (omega arith)),
      drop_of_length-le (drop at d) {i = length d - at} (simp length-drop (omega arith)),
      append-nil,
    )
    (over-part d at t h)

-- one text and then the next behind it
pub over-next : (d : List ℕ) {d₁ d₂ : List ℕ} (a b : List ℕ) (at : ℕ) → at ≡ length a → length a + length b ≤ length d
    → d₁ ≡ over d 0 a → d₂ ≡ over d₁ at b → d₂ ≡ over d 0 (a ++ b)
over-next d a b at e h p q = q ∙ rw (p, e, ← zero-add (length a)) (over-over d 0 a b (omega arith))

-- no message leaves the room as it is
pub over_none : (d : List ℕ) (at : ℕ) → d ≡ over d at (texts [])
unfolding texts
over_none d at = over_nothing d at

-- ---- a message to each other member

-- The message to one box, or none.
abbrev pub only : State → (ℕ → Message) → ℕ → List Message
only s message i = cond (is_other s.me s.members i) (message i ∷ []) []

pub only-there : (s : State) (m : ℕ → Message) (i : ℕ) → is_other s.me s.members i ≡ true → only s m i ≡ m i ∷ []
only-there s m i h = rw h

-- what the boxes from one on get: that one, and then the others
others-first : (s : State) (m : ℕ → Message) (i n : ℕ) → to_others s m i (suc n) ≡ only s m i ++ to_others s m (suc i) n
unfolding to_others
others-first s m i n = go (is_other s.me s.members i)
  where
    go : (b : Bool) → cond b (m i ∷ to_others s m (suc i) n) (to_others s m (suc i) n) ≡ cond b (m i ∷ []) [] ++ to_others s m (suc i) n
    go true = refl
    go false = refl

others-none : (s : State) (m : ℕ → Message) (i : ℕ) → to_others s m i 0 ≡ []
unfolding to_others
others-none s m i = refl

-- the first a of a + b boxes, and then the rest
others_split : (s : State) (m : ℕ → Message) (i a b : ℕ) → to_others s m i (a + b) ≡ to_others s m i a ++ to_others s m (i + a) b
others_split s m i zero b = rw (others-none s m i, zero-add, add-zero)
others_split s m i (suc a) b =
    rw (
      suc-add a b,
      others-first s m i (a + b),
      others-first s m i a,
      others_split s m (suc i) a b,
      suc-add i a,
      ← add-suc i a,
      append_assoc (only s m i) (to_others s m (suc i) a) (to_others s m (i + suc a) b),
    )

-- What boxes 1 to k get, as bytes.
unfoldable pub others_to : State → (ℕ → Message) → ℕ → List ℕ
others_to s m k = texts (to_others s m 1 k)

-- nobody's is nothing
pub to_nobody : (s : State) (m : ℕ → Message) → others_to s m 0 ≡ []
unfolding others_to texts
to_nobody s m = rw (others-none s m 1)

-- one box more
pub others_more : (s : State) (m : ℕ → Message) (k : ℕ) → others_to s m (k + 1) ≡ others_to s m k ++ texts (only s m (k + 1))
unfolding others_to
others_more s m k =
    rw (
      others_split s m 1 k 1,
      others-first s m (1 + k) 0,
      others-none s m (suc (1 + k)),
      append-nil (only s m (1 + k)),
      texts-append (to_others s m 1 k) (only s m (1 + k)),
    )
    (ap (λ (i : ℕ). texts (to_others s m 1 k) ++ texts (only s m i)) (omega arith))

-- fewer boxes get no more bytes
pub others-within : (s : State) (m : ℕ → Message) (a b : ℕ) → a ≤ b → length (others_to s m a) ≤ length (others_to s m b)
unfolding others_to
others-within s m a b h =
    let e : a + (b - a) ≡ b = omega arith in
    let whole = ap (λ (k : ℕ). length (texts (to_others s m 1 k))) e in
    let parts = ap (λ (l : List Message). length (texts l)) (others_split s m 1 a (b - a)) in
    let sum = ap length (texts-append (to_others s m 1 a) (to_others s m (1 + a) (b - a))) in
    omega (arith, whole, parts, sum, length-append (texts (to_others s m 1 a)) (texts (to_others s m (1 + a) (b - a))))

-- ---- how long it is

-- a text that one box gets, or none, is its share
pub only-long : (s : State) (m : ℕ → Message) (n i : ℕ) → length (text (m i)) ≡ n
    → length (texts (only s m i)) ≡ cond (is_other s.me s.members i) n 0
unfolding texts
only-long s m n i e = go (is_other s.me s.members i)
  where
    go : (b : Bool) → length (texts (cond b (m i ∷ []) [])) ≡ cond b n 0
    go true = ap length (texts-one (m i)) ∙ e
    go false = refl

-- so all are the shares
pub others-long : (b : Record) (log : List Entry) (m : ℕ → Message) (size : ℕ → ℕ) → ((i : ℕ) → length (text (m i)) ≡ size i) → (k : ℕ)
    → length (others_to (with_entries b log) m k) ≡ shares b size k
unfolding shares
others-long b log m size e zero = ap length (to_nobody (with_entries b log) m)
others-long b log m size e (suc k) =
    ap (λ (i : ℕ). length (others_to (with_entries b log) m i)) (sym (add-one k))
    ∙ ap length (others_more (with_entries b log) m k)
    ∙ length-append (others_to (with_entries b log) m k) (texts (only (with_entries b log) m (k + 1)))
    ∙ rw (others-long b log m size e k, only-long (with_entries b log) m (size (k + 1)) (k + 1) (e (k + 1)), add-one k)

-- An append is as long as the struct says,
pub append_to-long : (b : Record) (terms orders : List ℕ) (i : ℕ) → length (text (append_to (state_of b terms orders) i)) ≡ append_size b i
append_to-long b terms orders i =
    append-long _ _ _ _ _ _ (take entry_limit (drop (previous b i) (entries_of terms orders 0 b.last)))
    ∙ rw (length-take, length-drop, length-entries_of terms orders 0 b.last)

-- and so are a step's messages.
pub sent-long : (send : Send) (b : Record) (terms orders : List ℕ) → sent_size send b ≡ length (texts (messages_of send (state_of b terms orders)))
unfolding sent_size messages_of vote_requests appends texts others_to
sent-long Send.Nothing b terms orders = refl
sent-long Send.Requests b terms orders =
    sym (others-long b (entries_of terms orders 0 b.last) (vote_request_to (state_of b terms orders)) request_size (λ i. request-long _ _ _ _ _) boxes)
sent-long Send.Appends b terms orders =
    sym (others-long b (entries_of terms orders 0 b.last) (append_to (state_of b terms orders)) (append_size b) (append_to-long b terms orders) boxes)
sent-long (Send.Append to) b terms orders = sym (ap length (texts-one _) ∙ append_to-long b terms orders to)
sent-long (Send.VoteAnswer to reply) b terms orders = sym (vote_answer-long _ _ _ _)
sent-long (Send.AppendAnswer to reply index) b terms orders = sym (append_answer-long _ _ _ _ _)

-- ---- an append's entries

-- an append carries the lent log's entries from a place on
carried : (terms orders : List ℕ) (p last : ℕ) → entries_of terms orders p (entry_count last p) ≡ take entry_limit (drop p (entries_of terms orders 0 last))
carried terms orders p last = sym (rw (drop-entries terms orders 0 last p, zero-add, take-entries terms orders p (last - p) entry_limit))

-- their characters
pub chars_logged : (terms orders : List ℕ) (p n : ℕ) → chars (entry_fields (entries_of terms orders p n)) ≡ 24 * n
chars_logged terms orders p n = rw (chars-entries, length-entries_of terms orders p n)

-- the entries up to a place are written: then the next
pub put_logged_next : (d : List ℕ) {d₁ d₂ : List ℕ} (at : ℕ) (terms orders : List ℕ) (p n : ℕ) → at + 24 * n + 24 ≤ length d
    → d₁ ≡ over d at (spell (entry_fields (entries_of terms orders p n)))
    → d₂ ≡ over d₁ (at + 24 * n) (spell (entry_fields (record { term = get_or terms (p + n) 0; order = get_or orders (p + n) 0 } ∷ [])))
    → d₂ ≡ over d at (spell (entry_fields (entries_of terms orders p (n + 1))))
put_logged_next d {d₁} at terms orders p n h e f =
    rw (add-one n, entries_more terms orders p n, entry_fields-append (entries_of terms orders p n) (next ∷ []))
    (put_more d at (entry_fields (entries_of terms orders p n)) (entry_fields (next ∷ []))
    (omega (arith, chars_logged terms orders p n, chars-entries (next ∷ [])))
    e (f ∙ ap (λ (k : ℕ). over d₁ (at + k) (spell (entry_fields (next ∷ [])))) (sym (chars_logged terms orders p n))))
  where
    next : Entry
    next = record { term = get_or terms (p + n) 0; order = get_or orders (p + n) 0 }

-- What the code writes is the append.
pub tells : (b : Record) (terms orders : List ℕ) (i p t k : ℕ) → p ≡ previous b i
    → t ≡ term_at (entries_of terms orders 0 b.last) p → k ≡ entry_count b.last p
    → append b.me i b.term p t b.commit (entries_of terms orders p k) ≡ append_to (state_of b terms orders) i
tells b terms orders i p t k e f g = rw (g, f, carried terms orders p b.last, e)

-- ---- the loops over the boxes

-- A vote request, from the struct and the last entry's term.
abbrev pub asks : Record → (last_term : ℕ) → ℕ → Message
asks b last_term i = vote_request b.me i b.term b.last last_term

-- whom a message goes to does not hang on the log
others_same : (b : Record) (log more : List Entry) (m : ℕ → Message) (i n : ℕ)
    → to_others (with_entries b log) m i n ≡ to_others (with_entries b more) m i n
unfolding to_others
others_same b log more m i zero = refl
others_same b log more m i (suc n) = rw (others_same b log more m (suc i) n)

-- what the code writes are the vote requests
pub asked : (b : Record) (terms orders : List ℕ) (t : ℕ) → t ≡ term_at (entries_of terms orders 0 b.last) b.last
    → others_to (with_entries b []) (asks b t) boxes ≡ texts (vote_requests (state_of b terms orders))
unfolding others_to vote_requests texts to_others
asked b terms orders t e =
    ap texts (others_same b [] (entries_of terms orders 0 b.last) (asks b t) 1 boxes)
    ∙ rw (e, length-entries_of terms orders 0 b.last)

-- and all appends are those to seven boxes
pub all-appends : (s : State) → others_to s (append_to s) boxes ≡ texts (appends s)
unfolding others_to appends
all-appends s = refl

-- the shares of the boxes before i, and box i's
pub shares_turn : (b : Record) (size : ℕ → ℕ) (i : ℕ) → 1 ≤ i → shares b size (i + 1 - 1) ≡ shares b size (i - 1) + share b size i
unfolding shares
shares_turn b size zero h = absurd (omega arith)
shares_turn b size (suc k) h =
    let here : suc k + 1 - 1 ≡ suc k = omega arith in
    let before : suc k - 1 ≡ k = omega arith in
    rw (here, before)

-- no box is no share
pub shares-none : (b : Record) (size : ℕ → ℕ) → shares b size 0 ≡ 0
unfolding shares
shares-none b size = refl

-- and fewer boxes have no more
pub shares-within : (b : Record) (size : ℕ → ℕ) (k n : ℕ) → k ≤ n → shares b size k ≤ shares b size n
unfolding shares
shares-within b size k zero h = let none : k ≡ 0 = omega arith in rw none (omega arith)
shares-within b size k (suc n) h = go (dec_le k n) (shares-within b size k n)
  where
    go : Dec (k ≤ n) → (k ≤ n → shares b size k ≤ shares b size n) → shares b size k ≤ shares b size (suc n)
    go (yes l) below = omega (arith, below l)
    go (no l) below = let same : k ≡ suc n = omega arith in rw same (omega arith)

-- What a loop over the boxes has summed before box i, where no box has more than the longest message.
pub record Summed (b : Record) (size : ℕ → ℕ) (sum i : ℕ) : Type 0 where
  pub least : 1 ≤ i
  pub within : i ≤ boxes + 1
  pub is : sum ≡ shares b size (i - 1)
  pub low : sum ≤ longest_message * (i - 1)

pub sum_first : (b : Record) (size : ℕ → ℕ) → Summed b size 0 1
sum_first b size = record { least = omega arith; within = omega arith; is = sym (shares-none b size); low = omega arith }

pub sum-last : {b : Record} {size : ℕ → ℕ} {sum i : ℕ} → Summed b size sum i → boxes < i → sum ≡ shares b size boxes
sum-last {b} {size} {i = i} t h = let all : i - 1 ≡ boxes = omega arith in t.is ∙ ap (shares b size) all

pub sum-next : {b : Record} {size : ℕ → ℕ} {sum i : ℕ} → Summed b size sum i → i ≤ boxes → (more : ℕ) → more ≡ share b size i → more ≤ longest_message
    → Summed b size (sum + more) (i + 1)
sum-next {b} {size} {sum} {i} t h more e l =
    record { least = omega arith; within = omega arith; is = omega (arith, shares_turn b size i t.least, t.is); low = omega (arith, t.low, t.least) }

-- What it has written: the boxes before i have theirs.
pub record Filled (b : Record) (log : List Entry) (m : ℕ → Message) (size : ℕ → ℕ) (room₀ room : List ℕ) (at i : ℕ) : Type 0 where
  pub least : 1 ≤ i
  pub within : i ≤ boxes + 1
  pub place : at ≡ shares b size (i - 1)
  pub long : length room ≡ length room₀
  pub text : room ≡ over room₀ 0 (others_to (with_entries b log) m (i - 1))

module _ (b : Record) (log : List Entry) (m : ℕ → Message) (size : ℕ → ℕ) where
  -- at first nothing,
  pub fill_first : (room : List ℕ) → Filled b log m size room room 0 1
  fill_first room =
      record {
        least = omega arith;
        within = omega arith;
        place = sym (shares-none b size);
        long = refl;
        text = over_nothing room 0 ∙ ap (over room 0) (sym (to_nobody (with_entries b log) m));
      }

  -- at the end all,
  pub fill_last : {room₀ room : List ℕ} {at i : ℕ} → Filled b log m size room₀ room at i → boxes < i
      → room ≡ over room₀ 0 (others_to (with_entries b log) m boxes)
  fill_last {room₀} {i = i} t h =
      let all : i - 1 ≡ boxes = omega arith in
      t.text ∙ ap (λ (k : ℕ). over room₀ 0 (others_to (with_entries b log) m k)) all

  -- box i's share fits where all do,
  pub fill_fits : {room₀ room : List ℕ} {at i : ℕ} → Filled b log m size room₀ room at i → i ≤ boxes → shares b size boxes ≤ length room₀
      → at + share b size i ≤ length room
  fill_fits {i = i} t h r =
      let here : i + 1 - 1 ≡ i = omega arith in
      omega (arith, shares_turn b size i t.least, shares-within b size (i + 1 - 1) boxes (omega arith), t.place, t.long)

  -- and box i gets its behind those before it.
  pub fill_next : ((i : ℕ) → length (text (m i)) ≡ size i) → {room₀ room room' : List ℕ} {at at' i : ℕ} → Filled b log m size room₀ room at i → i ≤ boxes
      → shares b size boxes ≤ length room₀ → at' ≡ at + share b size i → length room' ≡ length room
      → room' ≡ over room at (texts (only (with_entries b log) m i)) → Filled b log m size room₀ room' at' (i + 1)
  fill_next e {room₀} {room} {room'} {at} {at'} {i} t h r a l q =
      record {
        least = omega arith;
        within = omega arith;
        place = omega (arith, shares_turn b size i t.least, t.place);
        long = l ∙ t.long;
        text = go i t h q;
      }
    where
      s : State
      s = with_entries b log

      go : (i : ℕ) → Filled b log m size room₀ room at i → i ≤ boxes → room' ≡ over room at (texts (only s m i)) → room' ≡ over room₀ 0 (others_to s m (i + 1 - 1))
      go zero t h q = absurd (omega (arith, t.least))
      go (suc k) t h q =
          let here : suc k + 1 - 1 ≡ k + 1 = omega arith in
          let before : suc k - 1 ≡ k = omega arith in
          rw (here, others_more s m k)
          (over-next room₀ (others_to s m k) (texts (only s m (k + 1))) at
          (t.place ∙ rw before (sym (others-long b log m size e k)))
          (omega (
            arith,
            others-long b log m size e boxes,
            others-within s m (k + 1) boxes (omega arith),
            ap length (others_more s m k),
            length-append (others_to s m k) (texts (only s m (k + 1))),
            r,
          ))
          (t.text ∙ rw before) (q ∙ rw (add-one k)))
