-- The struct that begins to lead, on the lent log: its record is good, and what is decided of it is what winning comes to. Assumes nothing.
use Rattle.std.specs.Prelude.{ℕ, ◌≤◌, ◌<◌, ◌≡◌, List}
use Rattle.std.proofs.Math.Path.{ap}
use Rattle.std.proofs.Common.{◌∙◌}
use Rattle.frames.specs.declared.Entry.{Entry}
use Rattle.frames.specs.Limits.{log_limit}
use Rattle.raft.specs.Record.{State, leader}
use Rattle.raft.specs.Commit.{settle}
use Rattle.raft.specs.Led.{led}
use Rattle.raft.specs.Order.{ordered, blank}
use Rattle.raft.specs.Winning.{leading, won}
use Rattle.raft.proofs.StepLaws.{good-leading, winner_full, winner-room}
use Rattle.raft.specs.LentLaws.{length-entries_of}
use Rattle.record.specs.declared.Record.{Record}
use Rattle.record.specs.declared.Send.{Send}
use Rattle.record.specs.declared.Decision.{Decision}
use Rattle.record.specs.Calls.{state_of, Ready}
use Rattle.record.specs.Deciding.{messages_of, one_entry, Aimed, Decides, Becomes}
use Rattle.record.specs.DecidingLaws.{plain, changed-decides, decides_at, decides-term, becomes_lent, becomes_ready}
use Rattle.record.specs.GoodLaws.{ready-good, ready-last}
use Rattle.leader.specs.Required.{MayLead}

module _ {b first : Record} {terms orders : List ℕ} (k : Becomes b first leading) (may : MayLead b terms orders) where
  -- The record that begins to lead is good,
  pub first-ready : Ready first terms orders
  first-ready = becomes_ready k may.ready (good-leading _ (ready-good may.ready) may.stands)

  -- and a leader's, of the same term.
  pub first-leads : first.role ≡ leader
  unfolding leading
  first-leads = ap (λ (x : State). x.role) (becomes_lent k terms orders)

  pub first-term : first.term ≡ b.term
  unfolding leading
  first-term = ap (λ (x : State). x.term) (becomes_lent k terms orders)

  -- With a full log its commit is settled, and that is all;
  pub full_decides : log_limit ≤ b.last → (next : Record) → state_of next terms orders ≡ settle (state_of first terms orders) → next.last ≡ first.last
      → (offered : List Entry) → Decides b.last (plain next Send.Appends) offered terms orders (won (state_of b terms orders))
  unfolding messages_of Aimed won
  full_decides l next e n offered =
      changed-decides b next offered terms orders Send.Appends (n ∙ k.last) (ready-last may.ready) tt
      (rw (e, becomes_lent k terms orders) (rw (winner_full (state_of b terms orders) (rw (length-entries_of terms orders 0 b.last) l))))

  -- where there is room, what is decided for the blank's entry is decided for winning.
  pub blank-decides : b.last < log_limit → {d : Decision}
      → Decides first.last d (one_entry first.term blank) terms orders (led (ordered (state_of first terms orders) blank))
      → Decides b.last d (one_entry b.term blank) terms orders (won (state_of b terms orders))
  unfolding won
  blank-decides l h =
      decides-term blank first-term
      (decides_at k.last (rw (becomes_lent k terms orders) (rw (winner-room (state_of b terms orders) (rw (length-entries_of terms orders 0 b.last) l)))) h)
