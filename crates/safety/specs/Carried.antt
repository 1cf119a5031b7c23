-- What ties a park to its history: where each box stands, and what each frame that was sent tells. Assumes nothing.
use Rattle.std.specs.Prelude.{ℕ, ◌≤◌, ◌≡◌, true, List}
use Rattle.frames.specs.declared.Entry.{Entry}
use Rattle.frames.specs.Message.{Message}
use Rattle.raft.specs.Majority.{holds}
use Rattle.raft.specs.Record.{State, candidate, leader}
use Rattle.raft.proofs.RecordLaws.{Member}
use Rattle.raft.specs.Commit.{matches}
use Rattle.history.specs.InForce.{fixed}
use Rattle.history.specs.History.{History, Facts}
use Rattle.history.proofs.Handed.{Hands}
use Rattle.history.proofs.Told.{Vote, Tells}
use Rattle.safety.specs.Park.{Park}
use Rattle.safety.specs.Sent.{Sent}

-- Whom the history has a box vote for in its term is its vote, which is set.
pub record Chose (vote d : ℕ) : Type 0 where
  pub same : d ≡ vote
  pub cast : vote ≡ 0 → ⊥

-- A candidate has asked with its log, has not won, and each vote that it has counted was given to it.
pub record AsCandidate (h : History) (s : State) : Type 0 where
  pub asked : h.asked s.term s.me (h.log s.me)
  pub unwon : (start : List Entry) → h.leaders.won s.term s.me start → ⊥
  pub votes : (j : ℕ) → Member j s.members → holds s.votes j ≡ true → Vote h j s.term s.me

-- A leader has won its term, its log is the term's, and what it matches was acknowledged.
pub record AsLeader (h : History) (s : State) : Type 0 where
  pub start : List Entry
  pub won : h.leaders.won s.term s.me start
  pub log : h.leaders.log s.term ≡ h.log s.me
  pub acked : (j : ℕ) → Member j s.members → 1 ≤ matches s j → h.acked j s.term (matches s j)

-- A box stands in the history where its record stands, and what it hands out is in the book.
pub record Kept (h : History) (s : State) : Type 0 where
  pub term : h.term s.me ≡ s.term
  pub log : h.log s.me ≡ s.log
  pub vote : (d : ℕ) → h.voted s.me s.term d → Chose s.vote d
  pub hands : Hands (fixed s.members) h s.term (h.log s.me) s.commit
  pub stands : s.role ≡ candidate → AsCandidate h s
  pub leads : s.role ≡ leader → AsLeader h s

-- The facts hold, each box is kept, and each frame that was sent tells of the history.
pub record Carried (mask : ℕ) (h : History) (p : Park) : Type 0 where
  pub facts : Facts (fixed mask) h
  pub kept : (j : ℕ) → Kept h (p.box j)
  pub tells : (m : Message) → Sent p.sent m → Tells (fixed mask) h m
