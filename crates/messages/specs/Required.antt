-- What the deciders of the messages require of their callers, by name. Assumes nothing.
use Rattle.std.specs.Prelude.{ℕ, ◌+◌, ◌≤◌, ◌≡◌, true, cond, List, eqb, length}
use Rattle.std.proofs.Common.{eq-eqb, ne_eqb}
use Rattle.frames.specs.declared.Entry.{Entry}
use Rattle.frames.specs.declared.Fields.{Fields}
use Rattle.frames.specs.Fields.{listed, one_frame}
use Rattle.frames.specs.Limits.{log_limit, entry_limit}
use Rattle.raft.specs.Order.{blank}
use Rattle.record.specs.declared.Record.{Record}
use Rattle.record.specs.Calls.{Ready}
use Rattle.record.specs.Deciding.{one_entry, OtherBox}

-- The log's terms are lent whole.
pub record Lent (b : Record) (terms : List ℕ) : Type 0 where
  pub long : length terms ≡ log_limit
  pub last : b.last ≤ log_limit

-- What an append offers fits a log.
pub record Offered (b : Record) (index count : ℕ) (terms : List ℕ) : Type 0 where
  pub lent : Lent b terms
  pub few : count ≤ entry_limit
  pub room : index + count ≤ log_limit

-- And it joins the log: its previous index is in it.
pub record Joined (b : Record) (index count : ℕ) (terms : List ℕ) : Type 0 where
  pub offered : Offered b index count terms
  pub joint : index ≤ b.last

-- A message from another member, at a good record.
pub record From (b : Record) (from : ℕ) (terms orders : List ℕ) : Type 0 where
  pub ready : Ready b terms orders
  pub sender : OtherBox b from

-- The fields of one frame, at a good record,
pub record Read (b : Record) (f : Fields) (terms orders : List ℕ) : Type 0 where
  pub ready : Ready b terms orders
  pub frame : one_frame f ≡ true

-- and from another member.
pub record Delivered (b : Record) (f : Fields) (terms orders : List ℕ) : Type 0 where
  pub read : Read b f terms orders
  pub sender : OtherBox b f.from

-- and the box is in its term.
pub record InTerm (b : Record) (f : Fields) (terms orders : List ℕ) : Type 0 where
  pub delivered : Delivered b f terms orders
  pub same : b.term ≡ f.term

-- The entries that a message may add: a vote answer's is the blank of its term, for the box that it makes a leader; an append's are its own.
unfoldable pub brought : Fields → List Entry
brought f = cond (eqb f.kind 2) (one_entry f.term blank) (listed f.entries 0 f.count)

-- What each kind brings.
pub brings_blank : (f : Fields) → f.kind ≡ 2 → brought f ≡ one_entry f.term blank
unfolding brought
brings_blank f k = rw (eq-eqb f.kind 2 k)

pub brings_own : (f : Fields) → (f.kind ≡ 2 → ⊥) → brought f ≡ listed f.entries 0 f.count
unfolding brought
brings_own f k = rw (ne_eqb f.kind 2 k)
