-- The frames that were sent: as they are read, fewer of them and more, and as they come to a box. Assumes nothing.
use Rattle.std.specs.Prelude.{ℕ, ◌≡◌, refl, ◌&&◌, ◌⊎◌, eqb}
use mathlib.Core.List.Memᴰ
use mathlib.Core.List.{List, [], ◌∷◌, ◌++◌, Memᴰ}
use Rattle.std.proofs.Common.{inl, inr, eqb-true}
use Rattle.digits.specs.Tests.{and_left, and_right}
use Rattle.frames.specs.Message.{Message, text}
use Rattle.frames.specs.Reading.{Reading, frame, refused, reading}
use Rattle.frames.proofs.OneSpelling.{frame_exactly}
use Rattle.raft.specs.Record.{State, is_other}
use Rattle.raft.proofs.CommitLaws.{by_test}
use Rattle.raft.specs.Outcome.{Outcome, refuse}
use Rattle.raft.proofs.SendLaws.{All}
use Rattle.raft.specs.Receive.{deliver, sender, receiver, arrive, arrive_read, receive, is_for}
use Rattle.raft.specs.Event.{Event, times_out, takes_order, is_prompted, receives}
use Rattle.raft.proofs.ReceiveLaws.{Arrives}
use Rattle.safety.specs.Park.{Comes, frames}

-- A message is among the frames that were sent.
pub record Sent (sent : List (List ℕ)) (m : Message) : Type 0 where
  pub bytes : List ℕ
  pub there : Memᴰ bytes sent
  pub read : reading bytes ≡ frame m

-- A frame among those of some messages is one of them, as it is read.
frames-all : (P : Message → Type 0) (ms : List Message) → All (λ m. reading (text m) ≡ frame m) ms → All P ms
    → (bytes : List ℕ) (m : Message) → Memᴰ bytes (frames ms) → reading bytes ≡ frame m → P m
unfolding frames All
frames-all P [] r a bytes m b e = absurd (Memᴰ.not-nil b)
frames-all P (n ∷ ms) r a bytes m b e = go (Memᴰ.cases_cons b) (frames-all P ms r.1 a.1 bytes m)
  where
    go : (bytes ≡ text n) ⊎ Memᴰ bytes (frames ms) → (Memᴰ bytes (frames ms) → reading bytes ≡ frame m → P m) → P m
    go (inl f) rest =
        let r0 = r.0 in
        let same : n ≡ m = cc in
        rw (← same) a.0
    go (inr c) rest = rest c e

-- A message that was sent is one of the latest, or was sent before.
pub sent_cases : (P : Message → Type 0) (ms : List Message) (sent : List (List ℕ)) → All (λ m. reading (text m) ≡ frame m) ms → All P ms
    → (m : Message) → Sent (frames ms ++ sent) m → P m ⊎ Sent sent m
sent_cases P ms sent r a m s = go (Memᴰ.append_cases (frames ms) s.there)
  where
    go : Memᴰ s.bytes (frames ms) ⊎ Memᴰ s.bytes sent → P m ⊎ Sent sent m
    go (inl f) = inl (frames-all P ms r a s.bytes m f s.read)
    go (inr o) = inr (record { bytes = s.bytes; there = o; read = s.read })

-- ---- fewer and more frames

-- Frames that are among others.
abbrev pub Among : List (List ℕ) → List (List ℕ) → Type 0
Among few many = (bytes : List ℕ) → Memᴰ bytes few → Memᴰ bytes many

-- An event may come where more was sent.
pub wider : {few many : List (List ℕ)} → Among few many → (e : Event) → Comes few e → Comes many e
wider w times_out c = tt
wider w (takes_order o) c = c
wider w is_prompted c = tt
wider w (receives bytes) c = w bytes c

-- More frames on either side.
pub among_more : (new few many : List (List ℕ)) → Among few many → Among (new ++ few) (new ++ many)
among_more new few many w bytes m = go (Memᴰ.append_cases new m)
  where
    go : Memᴰ bytes new ⊎ Memᴰ bytes few → Memᴰ bytes (new ++ many)
    go (inl a) = Memᴰ.append_left many a
    go (inr b) = Memᴰ.append_right new (w bytes b)

-- ---- bytes that come to a box

-- What holds of the outcome of each message that arrives and that the bytes spell, and of refusals 1 and 2, holds of the bytes' outcome.
pub bytes_come : (Q : Outcome → Type 0) (s : State) (bytes : List ℕ) → ((m : Message) → Arrives s m → reading bytes ≡ frame m → Q (deliver m s))
    → Q (refuse 1) → Q (refuse 2) → Q (receive bytes s)
unfolding receive arrive_read arrive is_for
bytes_come Q s bytes each one two = go (reading bytes) refl
  where
    go : (r : Reading) → reading bytes ≡ r → Q (arrive_read r s)
    go (frame m) e =
        let f = frame_exactly bytes m e in
        by_test Q (eqb (receiver m) s.me && is_other s.me s.members (sender m)) _ _
        (λ h. each m (record {
          obeyed = f.0;
          fits = f.1;
          mine = eqb-true _ _ (and_left (eqb (receiver m) s.me) _ h);
          other = and_right (eqb (receiver m) s.me) _ h;
        }) e)
        (λ h. two)
    go refused e = one
