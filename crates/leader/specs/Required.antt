-- What a leader's functions require of their callers, by name. Assumes nothing.
use Rattle.std.specs.Prelude.{ℕ, ◌+◌, ◌≤◌, ◌<◌, ◌≡◌, List, length}
use Rattle.frames.specs.Limits.{IsBox, log_limit}
use Rattle.raft.specs.AppendAnswer.{match_after}
use Rattle.raft.proofs.CommitLaws.{Ranged}
use Rattle.raft.specs.Record.{candidate, leader, of_box}
use Rattle.record.specs.declared.Record.{Record}
use Rattle.record.specs.Calls.{state_of, Ready}

-- A leader whose commit can be settled: its log is lent, and what the boxes match lies in it.
pub record MaySettle (b : Record) (terms orders : List ℕ) : Type 0 where
  pub in_terms : b.last ≤ length terms
  pub matched : Ranged (state_of b terms orders)

-- A leader that can take an order: its record is good, and its log has room.
pub record MayOrder (b : Record) (terms orders : List ℕ) : Type 0 where
  pub ready : Ready b terms orders
  pub room : b.last < log_limit
  pub leads : b.role ≡ leader

-- An index of a log that has one entry more than is lent.
pub record OneMore (b : Record) (terms : List ℕ) (index : ℕ) : Type 0 where
  pub inside : index ≤ b.last + 1
  pub in_terms : b.last < length terms
  pub room : b.last < log_limit

-- A candidate that can lead: its record is good.
pub record MayLead (b : Record) (terms orders : List ℕ) : Type 0 where
  pub ready : Ready b terms orders
  pub stands : b.role ≡ candidate

-- A box that a leader sends to, and an answer of it that names an index of a log.
pub record HeardFrom (b : Record) (from reply index : ℕ) : Type 0 where
  pub box : IsBox from
  pub match_low : match_after reply index (of_box b.lead.matched from) ≤ log_limit
  pub next_least : 1 ≤ of_box b.lead.next from
