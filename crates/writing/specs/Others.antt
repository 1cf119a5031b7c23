-- Messages to all other members, written into the room one behind the other, each into what is left of it. Assumes nothing.
use Rattle.std.specs.Prelude.{ℕ, zero, suc, ◌+◌, ◌-◌, ◌≤◌, ◌≡◌, refl, true, false, List, [], ◌++◌, length, take, drop}
use Rattle.std.proofs.Common.{MutBor, append-nil, arith, sym, ap, ◌∙◌}
use Rattle.digits.specs.Room.{over}
use Rattle.frames.specs.declared.Entry.{Entry}
use Rattle.frames.specs.Limits.{boxes}
use Rattle.frames.specs.Message.{Message, text}
use Rattle.raft.specs.Record.{is_other}
use Rattle.raft.specs.Sends.{append_to, to_others, texts, appends}
use Rattle.record.specs.declared.Record.{Record}
use Rattle.record.specs.Calls.{entries_of, with_entries, state_of}
use Rattle.record.specs.Deciding.{OtherBox}
use Rattle.record.specs.Sizes.{share, shares}
use Rattle.record.specs.SizeLaws.{only, others_to, all-appends, others_more, others-long, over-next, over-rest, texts-one, shares_turn, shares-within}

-- Of a call that writes box i's message: the room's part before, how many bytes it tells, and the part after.
abbrev pub Post : Type 1
Post = MutBor (List ℕ) → ℕ → ℕ → MutBor (List ℕ) → Type 0

-- Box i's message has so many bytes,
abbrev pub Tells : Post → Record → (ℕ → ℕ) → Type 0
Tells post b size = (p : MutBor (List ℕ)) (i bytes : ℕ) (q : MutBor (List ℕ)) → OtherBox b i → post p i bytes q → bytes ≡ size i

-- and is written at the start of what is lent.
abbrev pub Puts : Post → Record → (ℕ → Message) → Type 0
Puts post b message =
    (p : MutBor (List ℕ)) (i bytes : ℕ) (q : MutBor (List ℕ)) → OtherBox b i → post p i bytes q
    → (bytes ≡ length (text (message i))) × (q.now ≡ over p.now 0 (text (message i)))

-- There is room for all messages, of some sizes, and each can be written wherever it fits.
pub record RoomForAll (pre : MutBor (List ℕ) → ℕ → Type 0) (post : Post) (b : Record) (room : List ℕ) : Type 0 where
  pub size : ℕ → ℕ
  pub tells : Tells post b size
  pub takes : (p : MutBor (List ℕ)) (i : ℕ) → OtherBox b i → size i ≤ length p.now → pre p i
  pub fits : shares b size boxes ≤ length room

-- box i's share fits where all do
pub fits_there : (b : Record) (size : ℕ → ℕ) (i : ℕ) → 1 ≤ i → i ≤ boxes → is_other b.me b.members i ≡ true → shares b size (i - 1) + size i ≤ shares b size boxes
fits_there b size i l h o =
    let here : i + 1 - 1 ≡ i = omega arith in
    let own : share b size i ≡ size i = rw o in
    omega (arith, shares_turn b size i l, shares-within b size (i + 1 - 1) boxes (omega arith), own)

-- another member adds its share, and any other box none
pub share_adds : (b : Record) (size : ℕ → ℕ) (i sum more sum' : ℕ) → 1 ≤ i → sum ≡ shares b size (i - 1) → is_other b.me b.members i ≡ true → more ≡ size i
    → sum' ≡ sum + more → sum' ≡ shares b size (i + 1 - 1)
share_adds b size i sum more sum' l e o m f =
    let own : share b size i ≡ more = rw o (sym m) in omega (arith, shares_turn b size i l, e, own, f)

pub share_skips : (b : Record) (size : ℕ → ℕ) (i sum sum' : ℕ) → 1 ≤ i → sum ≡ shares b size (i - 1) → is_other b.me b.members i ≡ false
    → sum' ≡ sum → sum' ≡ shares b size (i + 1 - 1)
share_skips b size i sum sum' l e o f = let none : share b size i ≡ 0 = rw o in omega (arith, shares_turn b size i l, e, none, f)

module _ (b : Record) (m : ℕ → Message) where
  -- The room once the boxes before i have their messages.
  abbrev pub Filled : List ℕ → List ℕ → ℕ → Type 0
  Filled room₀ room i = room ≡ over room₀ 0 (others_to (with_entries b []) m (i - 1))

  -- box i's is written behind those before it,
  pub put_next : (room₀ room part room' : List ℕ) (at i bytes : ℕ) → 1 ≤ i → at ≡ shares b (λ i. length (text (m i))) (i - 1) → Filled room₀ room i
      → is_other b.me b.members i ≡ true → bytes ≡ length (text (m i)) → at + bytes ≤ length room → length room ≡ length room₀
      → part ≡ over (take (length room - at) (drop at room)) 0 (text (m i)) → room' ≡ take at room ++ (part ++ drop (length room - at) (drop at room))
      → Filled room₀ room' (i + 1)
  put_next room₀ room part room' at i bytes l e t o n f long p q =
      let here : i + 1 - 1 ≡ i - 1 + 1 = omega arith in
      let same : i - 1 + 1 ≡ i = omega arith in
      let one : texts (only (with_entries b []) m (i - 1 + 1)) ≡ text (m i) = rw (same, o, texts-one) in
      let sum : at ≡ length (others_to (with_entries b []) m (i - 1)) = e ∙ sym (others-long b [] m (λ i. length (text (m i))) (λ i. refl) (i - 1)) in
      rw (here, others_more (with_entries b []) m (i - 1), one)
      (over-next room₀ (others_to (with_entries b []) m (i - 1)) (text (m i)) at sum (omega (arith, sum, n, f, long)) t
      (q ∙ rw p (over-rest room at (text (m i)) (omega (arith, f)))))

  -- or box i gets none.
  pub skip_next : (room₀ room room' : List ℕ) (i : ℕ) → 1 ≤ i → Filled room₀ room i → is_other b.me b.members i ≡ false → room' ≡ room
      → Filled room₀ room' (i + 1)
  unfolding texts
  skip_next room₀ room room' i l t o q =
      let here : i + 1 - 1 ≡ i - 1 + 1 = omega arith in
      let same : i - 1 + 1 ≡ i = omega arith in
      let none : texts (only (with_entries b []) m (i - 1 + 1)) ≡ [] = rw (same, o) in
      rw (here, others_more (with_entries b []) m (i - 1), none, append-nil) (q ∙ t)

-- whom a message goes to does not hang on the log
others_alike : (b : Record) (log : List Entry) (m : ℕ → Message) (i n : ℕ) → to_others (with_entries b []) m i n ≡ to_others (with_entries b log) m i n
unfolding to_others
others_alike b log m i zero = refl
others_alike b log m i (suc n) = rw (others_alike b log m (suc i) n)

-- so what the code writes are the appends
pub appended : (b : Record) (terms orders : List ℕ)
    → others_to (with_entries b []) (append_to (state_of b terms orders)) boxes ≡ texts (appends (state_of b terms orders))
unfolding others_to
appended b terms orders =
    ap texts (others_alike b (entries_of terms orders 0 b.last) (append_to (state_of b terms orders)) 1 boxes) ∙ all-appends (state_of b terms orders)
