-- A box and its disk through steps, power losses and reopenings: whatever happened, the disk opens with the box's stored part. Assumes nothing.
use Rattle.std.specs.Prelude.{ℕ, ◌+◌, ◌≡◌, true, List, [], ◌++◌, ◌⊎◌, length, take}
use Rattle.std.proofs.Common.{sym, ap, ◌∙◌, append-nil, inl, inr}
use Rattle.digits.specs.Room.{over}
use Rattle.raft.specs.Record.{State, fresh, is_membership}
use Rattle.raft.specs.Journal.{head, journaled}
use Rattle.raft.proofs.SendLaws.{All}
use Rattle.journal.proofs.LineSpelling.{head_nine}
use Rattle.journal.specs.Opening.{restarted, opened, opening}
use Rattle.journal.specs.Runs.{Step, stays}
use Rattle.journal.proofs.DiskLaws.{Disk, started-opens, disk-restarts, disk-writes, disk-torn, disk-trims}

-- A box, the count at which its next line is written, and what is on the disk.
pub data Life (me mask : ℕ) : State → ℕ → List ℕ → Type 0 where
  -- a start writes the head
  starts : is_membership me mask ≡ true → Life me mask (fresh me mask) 9 (head me mask)
  -- a step writes its line at the count
  steps : {s t : State} {n : ℕ} {disk : List ℕ} → Life me mask s n disk → Step s t
      → Life me mask t (n + length (journaled s t)) (over disk n (journaled s t))
  -- power is lost in a step, when so many bytes of its line were written, and the journal is opened
  fails : {s t u : State} {n m : ℕ} {disk : List ℕ} → Life me mask s n disk → Step s t → (k : ℕ)
      → opening me (over disk n (take k (journaled s t))) ≡ opened u m → Life me mask u m (over disk n (take k (journaled s t)))
  -- power is lost between steps, and the journal is opened
  reopens : {s u : State} {n m : ℕ} {disk : List ℕ} → Life me mask s n disk → opening me disk ≡ opened u m → Life me mask u m disk
  -- the host cuts off what is behind the count, or a part of it where power fails in that, and `reopens` follows
  trims : {s : State} {n : ℕ} {disk : List ℕ} → Life me mask s n disk → (more : ℕ) → Life me mask s n (take (n + more) disk)

-- A membership, and a disk of the fresh box's run.
abbrev pub Kept : (me mask : ℕ) → State → ℕ → List ℕ → Type 0
Kept me mask s n disk = (is_membership me mask ≡ true) × Disk (head me mask) (fresh me mask) s n disk

-- it opens with the stored part and the count
kept-opens : (me mask : ℕ) (s : State) (n : ℕ) (disk : List ℕ) → Kept me mask s n disk → opening me disk ≡ opened (restarted s) n
kept-opens me mask s n disk k = started-opens me mask k.0 s n disk k.1

-- and what it opens with is kept so
kept-opened : (me mask : ℕ) (s : State) (n : ℕ) (disk : List ℕ) (u : State) (m : ℕ) → Kept me mask s n disk → opening me disk ≡ opened u m
    → Kept me mask u m disk
kept-opened me mask s n disk u m k h =
    let e = sym (kept-opens me mask s n disk k) ∙ h in
    let same : restarted s ≡ u = cc in
    let here : n ≡ m = cc in
    rw (← same, ← here) (k.0, disk-restarts _ _ s n disk k.1)

-- a head alone
kept-head : (me mask : ℕ) → is_membership me mask ≡ true → Kept me mask (fresh me mask) 9 (head me mask)
unfolding All
kept-head me mask m =
    let alone = append-nil (head me mask) in (
      m,
      record {
        journal = [];
        tail = [];
        run = stays;
        free = tt;
        count = sym (ap length alone ∙ head_nine me mask);
        is = sym (append-nil (head me mask ++ []) ∙ alone);
      },
    )

-- Every life keeps its disk so.
pub life_kept : (me mask : ℕ) (s : State) (n : ℕ) (disk : List ℕ) → Life me mask s n disk → Kept me mask s n disk
life_kept me mask s n disk (starts m) = kept-head me mask m
life_kept me mask t n disk (steps {s = s} {n = m} {disk = d} l st) =
    let k = life_kept me mask s m d l in
    (k.0, disk-writes _ _ s m d k.1 t st)
life_kept me mask u m disk (fails {s = s} {t = t} {n = n} {disk = d} l st k h) =
    go (life_kept me mask s n d l).0 (disk-torn _ _ s n d (life_kept me mask s n d l).1 t st k)
  where
    go : is_membership me mask ≡ true
        → Disk (head me mask) (fresh me mask) s n (over d n (take k (journaled s t)))
        ⊎ Disk (head me mask) (fresh me mask) t (n + length (journaled s t)) (over d n (take k (journaled s t)))
        → Kept me mask u m (over d n (take k (journaled s t)))
    go i (inl a) = kept-opened me mask s n _ u m (i, a) h
    go i (inr a) = kept-opened me mask t _ _ u m (i, a) h
life_kept me mask u m disk (reopens {s = s} {n = n} l h) = kept-opened me mask s n disk u m (life_kept me mask s n disk l) h
life_kept me mask s n disk (trims {disk = d} l more) =
    let k = life_kept me mask s n d l in
    (k.0, disk-trims _ _ s n d k.1 more)

-- **Whatever happened, the disk opens with the box's stored part, and with the count at which its next line is written.**
pub life_opens : (me mask : ℕ) (s : State) (n : ℕ) (disk : List ℕ) → Life me mask s n disk → opening me disk ≡ opened (restarted s) n
life_opens me mask s n disk l = kept-opens me mask s n disk (life_kept me mask s n disk l)

-- And power that is lost in a step leaves the stored part before that step or the one after it, and nothing else.
pub life_fails : (me mask : ℕ) (s t : State) (n : ℕ) (disk : List ℕ) → Life me mask s n disk → Step s t → (k : ℕ)
    → (opening me (over disk n (take k (journaled s t))) ≡ opened (restarted s) n)
    ⊎ (opening me (over disk n (take k (journaled s t))) ≡ opened (restarted t) (n + length (journaled s t)))
life_fails me mask s t n disk l st k =
    let h = life_kept me mask s n disk l in
    go h.0 (disk-torn _ _ s n disk h.1 t st k)
  where
    go : is_membership me mask ≡ true
        → Disk (head me mask) (fresh me mask) s n (over disk n (take k (journaled s t)))
        ⊎ Disk (head me mask) (fresh me mask) t (n + length (journaled s t)) (over disk n (take k (journaled s t)))
        → (opening me (over disk n (take k (journaled s t))) ≡ opened (restarted s) n)
        ⊎ (opening me (over disk n (take k (journaled s t))) ≡ opened (restarted t) (n + length (journaled s t)))
    go i (inl a) = inl (started-opens me mask i s n _ a)
    go i (inr a) = inr (started-opens me mask i t _ _ a)
