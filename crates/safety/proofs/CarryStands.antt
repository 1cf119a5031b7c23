-- A box stands, and a candidate with a majority begins to lead. Assumes nothing.
use Rattle.std.specs.Prelude.{ℕ, suc, ◌+◌, ◌≤◌, ◌≡◌, refl, true, ◌⊎◌, eqb}
use Rattle.std.proofs.Common.{arith, sym, ◌∙◌, inl, inr, eqb-true}
use Rattle.raft.specs.Majority.{majority}
use Rattle.raft.specs.Record.{State, candidate, last_index, of_box, zeros}
use Rattle.raft.proofs.RecordLaws.{Member, member-facts}
use Rattle.raft.specs.Commit.{matches}
use Rattle.raft.proofs.CommitLaws.{by_test}
use Rattle.raft.specs.Sends.{vote_requests}
use Rattle.raft.proofs.SendLaws.{vote_requests-all}
use Rattle.raft.specs.Timeout.{standing}
use Rattle.raft.specs.Winning.{leading}
use Rattle.raft.proofs.StepLaws.{none-of_box, good-standing, good-leading}
use Rattle.history.specs.InForce.{fixed, agree-fixed}
use Rattle.history.specs.History.{History}
use Rattle.history.proofs.Handed.{hands-higher}
use Rattle.history.specs.PutLaws.{put_same}
use Rattle.history.specs.Grow.{stood, Votes, gave, with_leaders, winner, moved}
use Rattle.history.proofs.Steps.{asks, asks-facts, wins, asks-later}
use Rattle.history.proofs.Told.{Tells, hands-later}
use Rattle.history.proofs.Election.{asks-vote, asks-asked, asks-unwon, Elected, elected}
use Rattle.safety.specs.Masks.{bit-holds}
use Rattle.safety.specs.Carried.{AsCandidate, AsLeader, Kept}
use Rattle.safety.proofs.Grown.{asks-grown}
use Rattle.safety.proofs.Next.{Known, Next, known_small}

-- ---- a timeout

-- the next term, as the history and as the record have it
next-term : {h : History} {s : State} → Known h s → suc (h.term s.me) ≡ s.term + 1
next-term k = omega (arith, k.kept.term)

-- who asks has the log that it had
asks-log : (c : ℕ) (h : History) → (asks c h).log ≡ h.log
unfolding asks stood gave
asks-log c h = refl

-- a box that stands has asked, has not won, and has its own vote
standing-candidate : {h : History} {s : State} → Known h s → AsCandidate (asks s.me h) (standing s)
unfolding standing
standing-candidate {h} {s} k =
    let member = member-facts s.me s.members k.whole.membership in
    record {
      asked = rw (asks-log s.me h) (rw (next-term k) at (asks-asked s.me k.facts));
      unwon = rw (next-term k) at (asks-unwon s.me k.facts);
      votes = λ j m b.
          rw (bit-holds s.me j member.least member.most m.least m.most b, ← next-term k) (asks-vote s.me k.facts);
    }

-- **A box stands:** it asks with its log in a term that it had not reached, and gives itself its vote.
pub standing-known : {h : History} {s : State} → Known h s → Known (asks s.me h) (standing s)
unfolding standing asks stood gave
standing-known {h} {s} k =
    record {
      facts = asks-facts s.me k.facts;
      whole = good-standing s k.whole;
      kept = record {
        term = put_same h.term s.me (suc (h.term s.me)) ∙ next-term k;
        log = k.kept.log;
        vote = λ d v. record { same = voted v; cast = λ e. omega (arith, member.least) };
        hands = hands-higher (hands-later k.facts (asks-later s.me h) k.kept.hands) (s.term + 1) (omega arith);
        stands = λ r. standing-candidate k;
        leads = λ r. absurd (omega arith);
      };
    }
  where
    member : Member s.me s.members
    member = member-facts s.me s.members k.whole.membership

    voted : {d : ℕ} → h.voted s.me (s.term + 1) d ⊎ Votes s.me (suc (h.term s.me)) s.me s.me (s.term + 1) d → d ≡ s.me
    voted {d} (inl v) = absurd (omega (arith, k.kept.term, k.facts.voted_reached s.me (s.term + 1) d v))
    voted (inr q) = q.chosen

-- and its requests tell that it asked.
pub standing-next : {h : History} {s : State} → Known h s → Next s.members s.me h (standing s) (vote_requests (standing s))
unfolding standing Tells
standing-next {h} {s} k =
    let n = standing-known k in
    record {
      history = asks s.me h;
      facts = n.facts;
      grown = asks-grown s.me h;
      kept = n.kept;
      tells = vote_requests-all _ (standing s)
          (λ i l m b. record { log = h.log s.me; has = rw (asks-log s.me h) at (n.kept.stands refl).asked; last = rw k.kept.log; newest = rw k.kept.log });
    }

-- ---- winning

-- the boxes that a box matches, where it has just begun to lead, are itself
leading-matches : (s : State) (P : ℕ → Type 0) (j : ℕ) → Member j s.members → (j ≡ s.me → P (last_index s))
    → 1 ≤ matches (leading s) j → P (matches (leading s) j)
unfolding matches leading
leading-matches s P j m own =
    by_test (λ n. 1 ≤ n → P n) (eqb j s.me) (last_index s) (of_box zeros j) (λ e l. own (eqb-true _ _ e))
    (λ e l. absurd (omega (arith, none-of_box j m.least m.most)))

-- A candidate with a majority is elected: each of its votes was given to it.
pub election : {h : History} {s : State} → Known h s → s.role ≡ candidate → majority s.members s.votes ≡ true → Elected (fixed s.members) h s.me
election {h} {s} k r most =
    let o = k.kept in
    let c = o.stands r in
    elected s.me k.facts (rw o.term c.asked) (rw o.term c.unwon)
    (agree-fixed s.members _ _ (known_small k)
    (record { boxes = s.votes; enough = most; each = λ j m b. rw o.term (c.votes j m b) }))

-- the winner of its term
wins-won : {h : History} {s : State} → Kept h s → (wins s.me h).leaders.won s.term s.me (h.log s.me)
unfolding wins moved with_leaders winner
wins-won o = inr (record { term = sym o.term; box = refl; whole = refl })

-- the term's log is the winner's
wins-log : {h : History} {s : State} → Kept h s → (wins s.me h).leaders.log s.term ≡ (wins s.me h).log s.me
unfolding wins moved with_leaders winner
wins-log {h} {s} o =
    rw (← o.term) (put_same h.leaders.log (h.term s.me) (h.log s.me) ∙ sym (put_same h.log s.me (h.log s.me)))

-- It then leads its term with its log, which it acknowledges itself.
leading-leader : {h : History} {s : State} → Kept h s → Elected (fixed s.members) h s.me → AsLeader (wins s.me h) (leading s)
unfolding leading
leading-leader {h} {s} o e =
    record {
      start = h.log s.me;
      won = wins-won o;
      log = wins-log o;
      acked = λ j m. leading-matches s (λ n. (wins s.me h).acked j s.term n) j m (λ x. rw (x, ← o.term, ← o.log) e.acked);
    }

-- **A candidate with a majority wins** its term.
pub leading-known : {h : History} {s : State} → Known h s → s.role ≡ candidate → Elected (fixed s.members) h s.me → Known (wins s.me h) (leading s)
unfolding leading wins moved with_leaders
leading-known {h} {s} k r e =
    let o = k.kept in
    record {
      facts = e.facts;
      whole = good-leading s k.whole r;
      kept = record {
        term = put_same h.term s.me (h.term s.me) ∙ o.term;
        log = put_same h.log s.me (h.log s.me) ∙ o.log;
        vote = o.vote;
        hands = rw (put_same h.log s.me (h.log s.me)) (hands-later k.facts e.later o.hands);
        stands = λ x. absurd (omega arith);
        leads = λ x. leading-leader o e;
      };
    }
