-- A leader settles its commit, sends, adds an entry and hears an answer. Assumes nothing.
use Rattle.std.specs.Prelude.{ℕ, ◌-◌, ◌≤◌, ◌<◌, max, ◌≡◌, refl, Bool, true, false, cond, [], ◌∷◌, ◌++◌, eqb, length, get_or, set}
use Rattle.std.proofs.Math.Decide.{dec_le, ℕ_discrete}
use Rattle.std.proofs.Common.{arith, sym, ap, ◌∙◌, inl, inr, get_or-set_other, eqb-true}
use Rattle.frames.specs.declared.Entry.{Entry}
use Rattle.frames.specs.Limits.{boxes, log_limit, entry_limit}
use Rattle.raft.specs.Record.{State, leader, last_index, of_box, is_other}
use Rattle.raft.proofs.RecordLaws.{Good, Member, leader-sent}
use Rattle.raft.specs.Commit.{matches, settle}
use Rattle.raft.proofs.CommitLaws.{by_test}
use Rattle.raft.specs.Sends.{append_to, appends}
use Rattle.raft.proofs.SendLaws.{appends-all}
use Rattle.raft.specs.Order.{ordered}
use Rattle.raft.proofs.StepLaws.{good-settle, good-ordered}
use Rattle.raft.specs.AppendAnswer.{match_after, heard}
use Rattle.raft.proofs.ReceiveLaws.{set-most}
use Rattle.history.specs.InForce.{Rule, fixed, in_force-fixed}
use Rattle.history.specs.BeginsLaws.{begins-take, begins-added}
use Rattle.history.specs.History.{History, Facts}
use Rattle.history.proofs.Handed.{hands-longer}
use Rattle.history.proofs.Settled.{settled-hands}
use Rattle.history.specs.PutLaws.{put_same}
use Rattle.history.specs.Grow.{with_leaders, longer, moved}
use Rattle.history.proofs.GrowLeaders.{may_fixed}
use Rattle.history.proofs.Steps.{adds, adds-facts, adds-later}
use Rattle.history.proofs.Later.{Later}
use Rattle.history.proofs.Told.{Tells, hands-later}
use Rattle.safety.specs.Carried.{AsLeader, Kept}
use Rattle.safety.proofs.Next.{Known, Next, known_small, next-same}

-- ---- a leader's commit, and what it sends

-- **A leader settles its commit:** a majority acknowledged what it matches, so what it hands out is in the book.
pub settle-known : {h : History} {s : State} → Known h s → s.role ≡ leader → Known h (settle s)
unfolding settle matches
settle-known {h} {s} k r =
    let o = k.kept in
    let c = o.leads r in
    record {
      facts = k.facts;
      whole = good-settle s k.whole;
      kept = record {
        term = o.term;
        log = o.log;
        vote = o.vote;
        hands = rw o.log (settled-hands s k.facts (c.log ∙ o.log) (known_small k) (in_force-fixed s.members s.log (last_index s)) c.acked
            (rw o.log at o.hands));
        stands = λ x. absurd (omega arith);
        leads = λ x. record { start = c.start; won = c.won; log = c.log; acked = c.acked };
      };
    }

-- **An append tells** of the leader's log and of what it hands out.
pub append_sending : {h : History} {s : State} → Known h s → s.role ≡ leader → (i : ℕ) → 1 ≤ i → i ≤ boxes
    → is_other s.me s.members i ≡ true → Tells (fixed s.members) h (append_to s i)
unfolding Tells
append_sending {h} {s} k r i l m b =
    let c = k.kept.leads r in
    record {
      start = c.start;
      won = c.won;
      offered = rw (c.log, k.kept.log) (record { reach = omega (arith, leader-sent s k.whole r i l m b); before = refl; piece = begins-take entry_limit _ });
      hands = rw c.log k.kept.hands;
    }

-- So a leader's step ends: its commit is settled before its appends are written.
pub led-next : {h : History} {s : State} → Known h s → s.role ≡ leader → Next s.members s.me h (settle s) (appends (settle s))
unfolding settle
led-next {h} {s} k r =
    let n = settle-known k r in
    next-same k n.kept (appends-all _ (settle s) (append_sending n r))

-- ---- what a leader matches

-- what is known of a leader's own last index, and of what it has matched of another box, is known of what it matches
matches-by : (s : State) (P : ℕ → Type 0) (j : ℕ) → (eqb j s.me ≡ true → P (last_index s)) → (eqb j s.me ≡ false → P (of_box s.lead.matched j))
    → P (matches s j)
unfolding matches
matches-by s P j = by_test P (eqb j s.me) (last_index s) (of_box s.lead.matched j)

-- What a leader has matched of another box was acknowledged.
matched-acked : {h : History} {s : State} → AsLeader h s → (j : ℕ) → Member j s.members → eqb j s.me ≡ false → 1 ≤ of_box s.lead.matched j
    → h.acked j s.term (of_box s.lead.matched j)
unfolding matches
matched-acked c j m e = rw e at (c.acked j m)

-- So was its own last index.
own-acked : {h : History} {s : State} → AsLeader h s → (j : ℕ) → Member j s.members → eqb j s.me ≡ true → 1 ≤ last_index s
    → h.acked j s.term (last_index s)
unfolding matches
own-acked c j m e = rw e at (c.acked j m)

-- ---- an order

-- the leader has the entry of an order in its log, and acknowledges it
adds-acked : {h : History} {s : State} (e : Entry) → Kept h s → (adds s.me e h).acked s.me s.term (length (s.log ++ (e ∷ [])))
unfolding adds moved with_leaders
adds-acked e o = inr (record { box = refl; term = sym o.term; index = rw o.log (omega arith) })

-- and it is the last of the term's log
adds-log : {h : History} {s : State} (e : Entry) → Kept h s → h.leaders.log s.term ≡ h.log s.me
    → (adds s.me e h).leaders.log s.term ≡ (adds s.me e h).log s.me
unfolding adds moved with_leaders longer
adds-log {h} {s} e o own =
    rw o.term (put_same h.leaders.log s.term (h.leaders.log s.term ++ (e ∷ [])) ∙ ap (λ x. x ++ (e ∷ [])) own
    ∙ sym (put_same h.log s.me (h.log s.me ++ (e ∷ []))))

-- **An order:** the leader adds an entry of its term.
pub ordered-known : {h : History} {s : State} (order : ℕ) → Known h s → (r : s.role ≡ leader) → last_index s < log_limit
    → Known (adds s.me (record { term = s.term; order = order }) h) (ordered s order)
unfolding ordered adds moved with_leaders longer
ordered-known {h} {s} order k r room =
    record {
      facts = adds-facts s.me e k.facts (record { box = s.me; start = c.start; has = won }) own (sym o.term) (may_fixed s.members _ e);
      whole = good-ordered s order k.whole r room;
      kept = record {
        term = put_same h.term s.me (h.term s.me) ∙ o.term;
        log = put_same h.log s.me (h.log s.me ++ (e ∷ [])) ∙ ap (λ x. x ++ (e ∷ [])) o.log;
        vote = o.vote;
        hands = rw (put_same h.log s.me (h.log s.me ++ (e ∷ [])))
            (hands-longer (begins-added (h.log s.me) (e ∷ [])) (hands-later k.facts later o.hands));
        stands = λ x. absurd (omega arith);
        leads = λ x. record {
          start = c.start;
          won = c.won;
          log = adds-log e o c.log;
          acked = λ j m. matches-by (ordered s order) (λ n. 1 ≤ n → (adds s.me e h).acked j s.term n) j
              (λ x l. rw (eqb-true j s.me x) (adds-acked e o)) (λ x l. inl (matched-acked c j m x l));
        };
      };
    }
  where
    e : Entry
    e = record { term = s.term; order = order }

    o : Kept h s
    o = k.kept

    c : AsLeader h s
    c = o.leads r

    won : h.leaders.won (h.term s.me) s.me c.start
    won = rw o.term c.won

    own : h.leaders.log (h.term s.me) ≡ h.log s.me
    own = rw o.term c.log

    later : Later h (adds s.me e h)
    later = adds-later s.me e h

-- ---- an append answer

-- What a leader matches of the box that it has heard was acknowledged: before, or by this answer.
heard-acked : {rule : Rule} {h : History} → Facts rule h → (j term reply index old n : ℕ) → (1 ≤ old → h.acked j term old)
    → (reply ≡ 1 → h.acked j term index) → 1 ≤ n → n ≤ match_after reply index old → h.acked j term n
unfolding match_after
heard-acked {h = h} f j term reply index old n had says least = go (eqb reply 1) refl (dec_le n old)
  where
    go : (b : Bool) → eqb reply 1 ≡ b → Dec (n ≤ old) → n ≤ cond b (max old index) old → h.acked j term n
    go b e (yes l) m = f.lower j term old n (had (omega arith)) l
    go true e (no l) m = f.lower j term index n (says (eqb-true _ _ e)) (omega arith)
    go false e (no l) m = absurd (omega arith)

-- **A leader hears an answer:** what it then matches was acknowledged.
pub heard-known : {h : History} {s : State} (from reply index : ℕ) → Known h s → s.role ≡ leader → Good (heard s from reply index) → 1 ≤ from
    → (reply ≡ 1 → h.acked from s.term index) → Known h (heard s from reply index)
unfolding heard
heard-known {h} {s} from reply index k r g least says =
    let o = k.kept in
    let c = o.leads r in
    record {
      facts = k.facts;
      whole = g;
      kept = record {
        term = o.term;
        log = o.log;
        vote = o.vote;
        hands = o.hands;
        stands = λ x. absurd (omega arith);
        leads = λ x. record {
          start = c.start;
          won = c.won;
          log = c.log;
          acked = λ j m. matches-by (heard s from reply index) (λ n. 1 ≤ n → h.acked j s.term n) j (λ x. own-acked c j m x)
              (λ x. other c j m x (ℕ_discrete j from));
        };
      };
    }
  where
    after : ℕ
    after = match_after reply index (of_box s.lead.matched from)

    other : AsLeader h s → (j : ℕ) → Member j s.members → eqb j s.me ≡ false → Dec (j ≡ from)
        → 1 ≤ get_or (set s.lead.matched (from - 1) after) (j - 1) 0 → h.acked j s.term (get_or (set s.lead.matched (from - 1) after) (j - 1) 0)
    other c j m x (yes e) = λ l.
        heard-acked k.facts j s.term reply index (of_box s.lead.matched j) _ (λ p. matched-acked c j m x p) (λ y. rw e (says y)) l
        (rw e (set-most s.lead.matched (from - 1) after))
    other c j m x (no n) =
        let apart : (j - 1 ≡ from - 1 → ⊥) = λ y. n (omega (arith, m.least)) in
        rw (get_or-set_other s.lead.matched (from - 1) (j - 1) after 0 apart) (matched-acked c j m x)
