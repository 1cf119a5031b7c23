-- What a vote request and a vote answer come to, case by case. Assumes nothing.
use Rattle.std.specs.Prelude.{ℕ, ◌≡◌, true, false, List, [], ◌∷◌, eqb}
use Rattle.std.proofs.Common.{sym, ◌∙◌}
use Rattle.std.specs.Int.Bits.{bit_or}
use borrow.Author.Tests.{eqb-true}
use Rattle.digits.specs.Tests.{and_left}
use Rattle.frames.specs.Message.{vote_answer}
use Rattle.record.specs.declared.Record.{Record}
use Rattle.raft.specs.Majority.{bit, majority}
use Rattle.raft.specs.Record.{State, candidate, term_at, with_vote, good}
use Rattle.raft.proofs.RecordLaws.{facts-good}
use Rattle.raft.specs.LentLaws.{length-entries_of}
use Rattle.raft.specs.Outcome.{done}
use Rattle.raft.specs.Winning.{won}
use Rattle.raft.specs.VoteRequest.{is_granted, grants, voting, asked, on_vote_request}
use Rattle.raft.specs.VoteAnswer.{adding, counted, counts, on_vote_answer}
use Rattle.raft.proofs.ReceiveLaws.{other-held, good-adding}
use Rattle.record.specs.Calls.{entries_of, state_of}
use Rattle.record.specs.GoodLaws.{ready-good}
use Rattle.messages.specs.Required.{From}

-- ---- a vote request

module _ (b : Record) (terms orders : List ℕ) (from index prior own : ℕ) (e : own ≡ term_at (entries_of terms orders 0 b.last) b.last) where
  abbrev s : State
  s = state_of b terms orders

  -- the struct's numbers decide it
  granted : is_granted b.vote from index prior b.last own ≡ grants s from index prior
  unfolding grants
  granted = rw (e, length-entries_of terms orders 0 b.last)

  pub request_yes : is_granted b.vote from index prior b.last own ≡ true
      → done (with_vote from s) (vote_answer s.me from s.term 1 ∷ []) ≡ on_vote_request s from index prior
  unfolding on_vote_request asked voting
  request_yes g = rw (sym granted ∙ g)

  pub request_no : is_granted b.vote from index prior b.last own ≡ false
      → done s (vote_answer s.me from s.term 0 ∷ []) ≡ on_vote_request s from index prior
  unfolding on_vote_request asked
  request_no g = rw (sym granted ∙ g)

-- ---- a vote answer

module _ (s : State) (from reply : ℕ) where
  -- it does not count
  pub answer_idle : counts s reply ≡ false → done s [] ≡ on_vote_answer s from reply
  unfolding on_vote_answer
  answer_idle c = rw c

  module _ (c : counts s reply ≡ true) where
    -- it counts, and is not enough
    pub answer-counts : majority s.members (bit_or s.votes (bit from)) ≡ false → done (adding s from) [] ≡ on_vote_answer s from reply
    unfolding on_vote_answer counted adding
    answer-counts m = rw (c, m)

    -- it wins
    pub answer-wins : majority s.members (bit_or s.votes (bit from)) ≡ true
        → won (adding s from) ≡ on_vote_answer s from reply
    unfolding on_vote_answer counted adding
    answer-wins m = rw (c, m)

    -- only a candidate counts
    pub counts-stands : s.role ≡ candidate
    unfolding counts
    counts-stands = eqb-true s.role candidate (and_left (eqb s.role candidate) _ c)

-- A candidate that counts another member's vote is good.
pub counted-good : (b : Record) (from reply : ℕ) (terms orders : List ℕ) → From b from terms orders → counts (state_of b terms orders) reply ≡ true
    → good (adding (state_of b terms orders) from) ≡ true
counted-good b from reply terms orders f c =
    let s : State = state_of b terms orders in
    let box = f.sender.box in
    facts-good (adding s from)
    (good-adding s from (ready-good f.ready) (counts-stands s from reply c) box.least box.most (other-held b.me b.members from f.sender.other).1)
