-- Each ending of a move keeps the facts: what is known of a box before it is known behind it, in a history that has grown by its doing.
-- Assumes nothing.
use Rattle.std.specs.Prelude.{ℕ, ◌+◌, ◌<◌, ◌≤◌, ◌≡◌, false, List, [], ◌∷◌}
use Rattle.std.proofs.Common.{arith, ap, ◌∙◌}
use Rattle.std.proofs.Math.Path.{refl}
use Rattle.std.proofs.Math.Bool.{true}
use Rattle.std.proofs.Math.ListN.{length}
use Rattle.frames.specs.declared.Entry.{Entry}
use Rattle.frames.specs.Limits.{log_limit}
use Rattle.frames.specs.Message.{Message, vote_request, vote_answer, append, append_answer}
use Rattle.raft.specs.Majority.{bit, majority}
use Rattle.raft.specs.Record.{State, candidate, leader, last_index}
use Rattle.raft.specs.Commit.{settle}
use Rattle.raft.specs.Sends.{append_to, appends}
use Rattle.raft.proofs.SendLaws.{All, appends-all}
use Rattle.raft.proofs.StepLaws.{winner-ends}
use Rattle.raft.specs.Timeout.{standing}
use Rattle.raft.specs.Winning.{leading, winner}
use Rattle.raft.specs.Order.{ordered, blank}
use Rattle.raft.specs.AnyMessage.{taken}
use Rattle.raft.specs.VoteRequest.{voting, vote_answer_to}
use Rattle.raft.specs.VoteAnswer.{adding}
use Rattle.raft.specs.Append.{following, lacks, joining, append_answer_to, joined}
use Rattle.raft.specs.AppendAnswer.{heard}
use Rattle.raft.specs.Receive.{sender, receiver, term_of}
use Rattle.raft.proofs.ReceiveLaws.{taken-keeps, taken-term, Grants, Counts, Looks, Hears, settled_heard, sent-by, good-heard, good-counted}
use Rattle.history.specs.InForce.{fixed}
use Rattle.history.specs.History.{History}
use Rattle.history.proofs.Told.{Tells, tells-later, Sending}
use Rattle.history.specs.PutLaws.{put_same}
use Rattle.history.specs.Grow.{moved}
use Rattle.history.proofs.Steps.{accepts}
use Rattle.history.proofs.Alarms.{append-accepted}
use Rattle.safety.specs.Sent.{Sent}
use Rattle.safety.proofs.Endings.{Came, Ending, rests, stands, leads_alone, takes_up, prompts, takes, votes, votes_not, wins, counts, declines, wants, joins, hears, hears_again}
use Rattle.safety.proofs.Grown.{asks-grown, wins-grown, adds-grown, accepts-grown}
use Rattle.safety.proofs.Next.{Known, Next, next-behind, next-same, vote_no_tells, append_no_tells, following-next, taken_next}
use Rattle.safety.proofs.CarryStands.{standing-known, standing-next, election, leading-known}
use Rattle.safety.proofs.CarryVotes.{voting-next, adding-known}
use Rattle.safety.proofs.CarryLeads.{settle-known, append_sending, led-next, ordered-known, heard-known}

-- **An append is accepted** in the box's term: it joins the leader's log, and acknowledges what was offered.
joining-next : {h : History} {s : State} (from index prior commit : ℕ) (es : List Entry) → Known h s
    → Sending (fixed s.members) h from s.term index prior commit es → lacks s.log index prior ≡ false
    → Next s.members s.me h (joining s index commit es) (append_answer_to (joining s index commit es) from (index + length es) true ∷ [])
unfolding joining All Tells accepts moved
joining-next {h} {s} from index prior commit es k sent has =
    let o = k.kept in
    let reached : h.term s.me ≤ s.term = omega (arith, o.term) in
    let a = append-accepted k.facts sent s.me s.commit (rw o.term o.hands) reached (rw o.log has) in
    record {
      history = accepts s.me s.term index es h;
      facts = a.facts;
      grown = accepts-grown s.me s.term index es h reached;
      kept = record {
        term = put_same h.term s.me s.term;
        log = put_same h.log s.me (joined (h.log s.me) index es) ∙ ap (λ x. joined x index es) o.log;
        vote = o.vote;
        hands = rw (put_same h.log s.me (joined (h.log s.me) index es)) a.hands;
        stands = λ x. absurd (omega arith);
        leads = λ x. absurd (omega arith);
      };
      tells = (λ e. a.acked, tt);
    }

-- A leader adds an entry.
order-next : {h : History} {s : State} → Known h s → s.role ≡ leader → last_index s < log_limit → (o : ℕ)
    → Next s.members s.me h (settle (ordered s o)) (appends (settle (ordered s o)))
unfolding ordered
order-next {s = s} k r room o =
    let c = k.kept.leads r in
    next-behind
    (adds-grown s.me _ k.facts c.start (rw k.kept.term c.won))
    (led-next (ordered-known o k r room) r)

-- A box that wins leads, and adds the blank where there is room: so a win is followed by an addition, or by none.
data Wins (s : State) : State → Type 0 where
  bare : Wins s (leading s)
  adds_blank : last_index s < log_limit → Wins s (ordered (leading s) blank)

-- **A candidate with a majority wins,** settles its commit and sends its appends.
won-next : {h : History} {s : State} → Known h s → s.role ≡ candidate → majority s.members s.votes ≡ true
    → Next s.members s.me h (settle (winner s)) (appends (settle (winner s)))
unfolding leading
won-next {h} {s} k r most =
    let e = election k r most in
    next-behind (wins-grown s.me e.facts e.later) (go (leading-known k r e) (winner-ends (Wins s) s bare adds_blank))
  where
    go : {more : History} {w : State} → Known more (leading s) → Wins s w → Next s.members s.me more (settle w) (appends (settle w))
    go n bare = led-next n refl
    go n (adds_blank room) = order-next n refl room blank

module _ {sent : List (List ℕ)} {h : History} {s : State} (k : Known h s) (told : (m : Message) → Sent sent m → Tells (fixed s.members) h m) where
  -- A box that is alone stands and wins.
  alone_next : majority s.members (bit s.me) ≡ true
      → Next s.members s.me h (settle (winner (standing s))) (appends (settle (winner (standing s))))
  unfolding standing
  alone_next most = next-behind (asks-grown s.me h) (won-next (standing-known k) refl most)

  -- A vote: the asker's request tells that it asked.
  votes-next : (from to term index prior : ℕ) → Came sent s (vote_request from to term index prior) → Grants s from term index prior
      → Next s.members s.me h (voting (taken term s) from) (vote_answer_to (voting (taken term s) from) from true ∷ [])
  unfolding Tells sender term_of
  votes-next from to term index prior c g =
      taken_next term (λ u. voting u from) (λ u. vote_answer_to (voting u from) from true ∷ []) k
      (λ more u e l n. voting-next from index prior n (sent-by s (vote_request from to term index prior) c.arrives).least (rw e g.free) (rw e g.new)
      (rw (e, taken-term term s g.current)
      (tells-later k.facts l (vote_request from to term index prior) (told _ c.sent_once))))

  -- An append: it tells of its leader's log, and of what the leader hands out.
  joins-next : (from to term index prior commit : ℕ) (es : List Entry) → Came sent s (append from to term index prior commit es) → Looks s term
      → lacks (taken term s).log index prior ≡ false
      → Next s.members s.me h (joining (taken term s) index commit es)
      (append_answer_to (joining (taken term s) index commit es) from (index + length es) true ∷ [])
  unfolding Tells
  joins-next from to term index prior commit es c look has =
      taken_next term (λ u. joining u index commit es) (λ u. append_answer_to (joining u index commit es) from (index + length es) true ∷ []) k
      (λ more u e l n. joining-next from index prior commit es n
      (rw (e, taken-term term s look.current, (taken-keeps term s).1)
      (tells-later k.facts l (append from to term index prior commit es) (told _ c.sent_once)))
      (rw e has))

  -- A yes to a candidate of the term is a vote for it.
  counted-known : (from to term reply : ℕ) → Came sent s (vote_answer from to term reply) → Counts s term reply → Known h (adding s from)
  unfolding Tells sender receiver term_of
  counted-known from to term reply c n =
      let d = sent-by s (vote_answer from to term reply) c.arrives in
      let yea = told _ c.sent_once n.said in
      adding-known from k n.stands (good-counted s from term reply k.whole d n) d.least d.most (rw (← c.arrives.mine, n.same) yea)

  -- A yes to a leader of the term is an acknowledgement; its commit is then settled.
  heard-settled : (from to term reply index : ℕ) → Came sent s (append_answer from to term reply index) → Hears s term reply index
      → Known h (settled_heard s from reply index)
  unfolding Tells sender term_of heard
  heard-settled from to term reply index c n =
      let d = sent-by s (append_answer from to term reply index) c.arrives in
      let g = good-heard s from reply index k.whole n.leads d.least d.most d.other n.known in
      settle-known (heard-known from reply index k n.leads g d.least (rw n.same (told _ c.sent_once))) n.leads

  -- It may send an append again.
  again-next : (from to term reply index : ℕ) → Came sent s (append_answer from to term reply index) → Hears s term reply index
      → Next s.members s.me h (settled_heard s from reply index) (append_to (settled_heard s from reply index) from ∷ [])
  unfolding sender term_of settle heard All
  again-next from to term reply index c n =
      let d = sent-by s (append_answer from to term reply index) c.arrives in
      let t = heard-settled from to term reply index c n in
      next-same k t.kept (append_sending t n.leads from d.least d.most d.other, tt)

-- **Each ending keeps the facts.**
pub ending_next : {sent : List (List ℕ)} {h : History} {s t : State} {ms : List Message} → Known h s
    → ((m : Message) → Sent sent m → Tells (fixed s.members) h m) → Ending sent s t ms → Next s.members s.me h t ms
unfolding All adding
ending_next k told rests = next-same k k.kept tt
ending_next k told stands = standing-next k
ending_next k told (leads_alone most) = alone_next k told most
ending_next k told (takes_up r room o) = order-next k r room o
ending_next {s = s} k told (prompts r) = next-same k k.kept (appends-all _ s (append_sending k r))
ending_next k told (takes term) = taken_next term (λ u. u) (λ u. []) k (λ more u e l n. next-same n n.kept tt)
ending_next k told (votes from to term index prior c g) = votes-next k told from to term index prior c g
ending_next k told (votes_not from term) =
    taken_next term (λ u. u) (λ u. vote_answer_to u from false ∷ []) k (λ more u e l n. next-same n n.kept (vote_no_tells _ more u from))
ending_next k told (wins from to term reply c n most) = won-next (counted-known k told from to term reply c n) n.stands most
ending_next k told (counts from to term reply c n) = next-same k (counted-known k told from to term reply c n).kept tt
ending_next {h = h} {s = s} k told (declines from) = next-same k k.kept (append_no_tells _ h s from)
ending_next k told (wants from term look) =
    taken_next term following (λ u. append_answer_to (following u) from 0 false ∷ []) k
    (λ more u e l n. following-next n (append_no_tells _ more (following u) from))
ending_next k told (joins from to term index prior commit es c l has) = joins-next k told from to term index prior commit es c l has
ending_next k told (hears from to term reply index c n) = next-same k (heard-settled k told from to term reply index c n).kept tt
ending_next k told (hears_again from to term reply index c n) = again-next k told from to term reply index c n
