-- What is on the disk: the journal of a run and perhaps an end of no use. It stays so when a line is written at the count, when only a part of
-- it is, and when it is cut. Assumes nothing.
use Rattle.std.specs.Prelude.{ℕ, ◌+◌, ◌-◌, ◌≤◌, ◌<◌, ◌≡◌, refl, true, List, [], ◌++◌, ◌⊎◌, length, take, drop}
use Rattle.std.proofs.Math.Decide.{dec_le, dec_lt}
use Rattle.std.proofs.Common.{arith, sym, ap, ◌∙◌, append_assoc, inl, inr, length-append, take_all}
use Rattle.std.proofs.lemmas.List.{take-append-le}
use Rattle.std.proofs.Math.Seq.{take-append-add, take-append_seam, drop-append-add}
use Rattle.digits.specs.Room.{over}
use Rattle.raft.specs.Record.{State, fresh, is_membership}
use Rattle.raft.specs.Journal.{head, journaled}
use Rattle.raft.proofs.FitLaws.{all_take, all_drop}
use Rattle.raft.proofs.ReceiveSends.{all_both}
use Rattle.journal.proofs.LinesLaws.{Feedless}
use Rattle.journal.proofs.LineSpelling.{head_nine}
use Rattle.journal.specs.Opening.{restarted, opened, opening}
use Rattle.journal.specs.Runs.{Step, Run, stays, steps, restarts}
use Rattle.journal.proofs.ReplayLaws.{replay_law, journal_opens, opened-opens}
use Rattle.journal.proofs.TornLaws.{cut_step, Torn, torn}

-- A base that opens as a record s (a head, or what was opened before), behind it the journal of a run from s to t up to the count n, at which the
-- next line is written, and an end with no line feed.
pub record Disk (base : List ℕ) (s t : State) (n : ℕ) (bytes : List ℕ) : Type 0 where
  pub journal : List ℕ
  pub tail : List ℕ
  pub run : Run s t journal
  pub free : Feedless tail
  pub count : n ≡ length (base ++ journal)
  pub is : bytes ≡ (base ++ journal) ++ tail

-- ---- opening it

-- It opens with the stored part and the count,
pub disk-opens : (me : ℕ) (bytes : List ℕ) (s : State) (m : ℕ) → opening me bytes ≡ opened s m → (t : State) (n : ℕ) (disk : List ℕ)
    → Disk (take m bytes) s t n disk → opening me disk ≡ opened (restarted t) n
disk-opens me bytes s m h t n disk d =
    ap (opening me) d.is ∙ replay_law me bytes s m h t d.journal d.run d.tail d.free
    ∙ ap (opened (restarted t)) (sym (d.count ∙ length-append (take m bytes) d.journal ∙ rw (opened-opens me bytes s m h).long))

-- and so it does from a start.
pub started-opens : (me mask : ℕ) → is_membership me mask ≡ true → (t : State) (n : ℕ) (disk : List ℕ)
    → Disk (head me mask) (fresh me mask) t n disk → opening me disk ≡ opened (restarted t) n
started-opens me mask m t n disk d =
    ap (opening me) d.is ∙ journal_opens me mask m t d.journal d.run d.tail d.free
    ∙ ap (opened (restarted t)) (sym (d.count ∙ length-append (head me mask) d.journal ∙ rw (head_nine me mask)))

module _ (base : List ℕ) (s t : State) (n : ℕ) (disk : List ℕ) (d : Disk base s t n disk) where
  -- A restart leaves it.
  pub disk-restarts : Disk base s (restarted t) n disk
  disk-restarts =
      record { journal = d.journal; tail = d.tail; run = restarts d.run; free = d.free; count = d.count; is = d.is }

  -- ---- writing

  -- bytes written at the count
  written_over : (x : List ℕ) → over disk n x ≡ ((base ++ d.journal) ++ x) ++ drop (length x) d.tail
  unfolding over
  written_over x =
      rw (d.is, d.count, take-append_seam (base ++ d.journal) d.tail, drop-append-add (base ++ d.journal) d.tail (length x))

  -- A step's bytes, written at the count over whatever end there was, are a journal of the same kind.
  pub disk-writes : (u : State) → Step t u → Disk base s u (n + length (journaled t u)) (over disk n (journaled t u))
  disk-writes u st =
      record {
        journal = d.journal ++ journaled t u;
        tail = drop (length (journaled t u)) d.tail;
        run = steps d.run st;
        free = all_drop _ (length (journaled t u)) d.tail d.free;
        count = rw (← append_assoc base d.journal (journaled t u), length-append, d.count);
        is = written_over (journaled t u)
            ∙ ap (λ (l : List ℕ). l ++ drop (length (journaled t u)) d.tail) (append_assoc base d.journal (journaled t u));
      }

  -- Where only the first so many of them were written, it is the disk before the step or the one after it.
  pub disk-torn : (u : State) → Step t u → (k : ℕ)
      → Disk base s t n (over disk n (take k (journaled t u)))
      ⊎ Disk base s u (n + length (journaled t u)) (over disk n (take k (journaled t u)))
  disk-torn u st k = go (dec_lt k (length (journaled t u)))
    where
      part : List ℕ
      part = take k (journaled t u)

      go : Dec (k < length (journaled t u)) → Disk base s t n (over disk n part) ⊎ Disk base s u (n + length (journaled t u)) (over disk n part)
      go (yes l) =
          inl (record {
            journal = d.journal;
            tail = part ++ drop (length part) d.tail;
            run = d.run;
            free = all_both _ part _ (cut_step t u k l) (all_drop _ (length part) d.tail d.free);
            count = d.count;
            is = written_over part ∙ append_assoc (base ++ d.journal) part (drop (length part) d.tail);
          })
      go (no l) = inr (rw (take_all k (journaled t u) (omega arith)) (disk-writes u st))

  -- ---- cutting

  -- Cut anywhere behind the count, it loses nothing.
  pub disk-trims : (k : ℕ) → Disk base s t n (take (n + k) disk)
  disk-trims k =
      record {
        journal = d.journal;
        tail = take k d.tail;
        run = d.run;
        free = all_take _ k d.tail d.free;
        count = d.count;
        is = rw (d.is, d.count) (take-append-add (base ++ d.journal) d.tail k);
      }

-- What is left of a disk that is cut: that of a record from which the run went on.
pub record Left (base : List ℕ) (s u : State) (disk : List ℕ) : Type 0 where
  pub state : State
  pub rest : List ℕ
  pub later : Run state u rest
  pub count : ℕ
  pub now : Disk base s state count disk

-- Cut anywhere behind its base, it is so.
pub disk-cut : (base : List ℕ) (s u : State) (n : ℕ) (disk : List ℕ) → Disk base s u n disk → (k : ℕ) → length base ≤ k
    → Left base s u (take k disk)
disk-cut base s u n disk d k l = go (dec_le k (length whole)) (torn s u d.journal d.run (k - length base))
  where
    whole : List ℕ
    whole = base ++ d.journal

    within_it : k ≤ length whole → take k disk ≡ base ++ take (k - length base) d.journal
    within_it h =
        let at : k ≡ length base + (k - length base) = omega arith in
        ap (take k) d.is ∙ take-append-le k whole d.tail h ∙ ap (λ (i : ℕ). take i whole) at
        ∙ take-append-add base d.journal (k - length base)

    past_it : (k ≤ length whole → ⊥) → take k disk ≡ whole ++ take (k - length whole) d.tail
    past_it h =
        let at : k ≡ length whole + (k - length whole) = omega arith in
        ap (take k) d.is ∙ ap (λ (i : ℕ). take i (whole ++ d.tail)) at ∙ take-append-add whole d.tail (k - length whole)

    go : Dec (k ≤ length whole) → Torn s u d.journal (take (k - length base) d.journal) → Left base s u (take k disk)
    go (yes h) c =
        record {
          state = c.state;
          rest = c.rest;
          later = c.later;
          count = length (base ++ c.front);
          now = record {
            journal = c.front;
            tail = c.tail;
            run = c.past;
            free = c.free;
            count = refl;
            is = within_it h ∙ ap (λ (x : List ℕ). base ++ x) c.left ∙ sym (append_assoc base c.front c.tail);
          };
        }
    go (no h) c =
        record {
          state = u;
          rest = [];
          later = stays;
          count = n;
          now = record {
            journal = d.journal;
            tail = take (k - length whole) d.tail;
            run = d.run;
            free = all_take _ (k - length whole) d.tail d.free;
            count = d.count;
            is = past_it h;
          };
        }
