-- A box gives its vote, and a candidate counts one. Assumes nothing.
use Rattle.std.specs.Prelude.{ℕ, ◌≤◌, ◌≡◌, refl, Bool, true, false, ◌||◌, [], ◌∷◌, ◌⊎◌, eqb}
use Rattle.std.proofs.Common.{arith, ◌∙◌, inl, inr, eqb-true}
use Rattle.frames.specs.Limits.{boxes}
use Rattle.raft.specs.Majority.{bit, holds}
use Rattle.raft.specs.Newer.{as_new}
use Rattle.raft.specs.Record.{State, candidate, last_index, last_term}
use Rattle.raft.proofs.RecordLaws.{Good, Member}
use Rattle.raft.specs.Commit.{matches}
use Rattle.raft.proofs.SendLaws.{All}
use Rattle.raft.specs.VoteRequest.{voting, vote_answer_to}
use Rattle.raft.specs.VoteAnswer.{adding}
use Rattle.history.specs.History.{History, Fair}
use Rattle.history.specs.PutLaws.{put_same}
use Rattle.history.specs.Grow.{raised, Votes, gave}
use Rattle.history.proofs.Steps.{gives, gives-facts, gives-later}
use Rattle.history.proofs.Later.{Later}
use Rattle.history.proofs.Told.{Asking, Vote, Tells, asking_fair, hands-later}
use Rattle.history.proofs.Election.{gives-vote}
use Rattle.safety.specs.Masks.{holds_either, bit-holds}
use Rattle.safety.specs.Carried.{Chose, AsCandidate, Kept}
use Rattle.safety.proofs.Grown.{candidate-later, leader-later, gives-grown}
use Rattle.safety.proofs.Next.{Known, Next}

-- ---- a vote request

-- a vote that is free, or is the asker's, is for nobody else
free_alone : {vote from d : ℕ} → (eqb vote 0 || eqb vote from) ≡ true → Chose vote d → d ≡ from
free_alone {vote} {from} {d} free c = go (eqb vote 0) refl free
  where
    go : (b : Bool) → eqb vote 0 ≡ b → (b || eqb vote from) ≡ true → d ≡ from
    go true e x = absurd (c.cast (eqb-true _ _ e))
    go false e x = c.same ∙ eqb-true _ _ x

-- **A vote is given** in the box's term, to who asked with a log at least as new, and to nobody else.
pub voting-next : {h : History} {s : State} (from index prior : ℕ) → Known h s → 1 ≤ from → (eqb s.vote 0 || eqb s.vote from) ≡ true
    → as_new index prior (last_index s) (last_term s) ≡ true → Asking h from s.term index prior
    → Next s.members s.me h (voting s from) (vote_answer_to (voting s from) from true ∷ [])
unfolding voting All Tells gives gave raised matches
voting-next {h} {s} from index prior k least free new a =
    record {
      history = gives s.me s.term from h;
      facts = gives-facts s.me s.term from k.facts reached alone fair;
      grown = gives-grown s.me s.term from h reached;
      kept = record {
        term = put_same h.term s.me s.term;
        log = o.log;
        vote = λ d v. record { same = voted v; cast = λ e. omega arith };
        hands = hands-later k.facts later o.hands;
        stands = λ r. let c = candidate-later k.facts later refl (λ start w. w) (o.stands r) in
            record { asked = c.asked; unwon = c.unwon; votes = c.votes };
        leads = λ r. let c = leader-later k.facts later refl (λ start w. refl) (o.leads r) in
            record { start = c.start; won = c.won; log = c.log; acked = c.acked };
      };
      tells = (λ e. gives-vote s.me s.term from h, tt);
    }
  where
    o : Kept h s
    o = k.kept

    reached : h.term s.me ≤ s.term
    reached = omega (arith, o.term)

    later : Later h (gives s.me s.term from h)
    later = gives-later s.me s.term from h reached

    alone : (d : ℕ) → h.voted s.me s.term d → d ≡ from
    alone d v = free_alone free (o.vote d v)

    fair : Fair h.asked s.term from (h.log s.me)
    fair = rw o.log (asking_fair s.log a new)

    voted : {d : ℕ} → h.voted s.me s.term d ⊎ Votes s.me s.term from s.me s.term d → d ≡ from
    voted {d} (inl v) = alone d v
    voted (inr q) = q.chosen

-- ---- a vote answer

-- **A yes is counted:** it was given to the box in its term.
pub adding-known : {h : History} {s : State} (from : ℕ) → Known h s → s.role ≡ candidate → Good (adding s from) → 1 ≤ from → from ≤ boxes
    → Vote h from s.term s.me → Known h (adding s from)
unfolding adding
adding-known {h} {s} from k r g least most yea =
    let o = k.kept in
    let c = o.stands r in
    record {
      facts = k.facts;
      whole = g;
      kept = record {
        term = o.term;
        log = o.log;
        vote = o.vote;
        hands = o.hands;
        stands = λ x. record { asked = c.asked; unwon = c.unwon; votes = λ j m b. either c j m (holds_either s.votes (bit from) j b) };
        leads = λ x. absurd (omega arith);
      };
    }
  where
    either : AsCandidate h s → (j : ℕ) → Member j s.members → (holds s.votes j ≡ true) ⊎ (holds (bit from) j ≡ true) → Vote h j s.term s.me
    either c j m (inl b) = c.votes j m b
    either c j m (inr b) = rw (bit-holds from j least most m.least m.most b) yea
