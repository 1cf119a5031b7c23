-- The record's rules as facts: what each rule of a good record says, and that the facts make a good record. Assumes nothing.
use Rattle.std.specs.Prelude.{ℕ, ◌+◌, ◌≤◌, ◌<◌, ◌≡◌, refl, Bool, true, ◌&&◌, eqb, ltb, leb}
use Rattle.std.proofs.Common.{arith, eqb-true, ltb-true, leb-true, le-leb, ne_eqb}
use Rattle.digits.specs.Tests.{and_left, and_right}
use Rattle.frames.specs.Limits.{boxes, IsBox, masks, log_limit}
use Rattle.frames.specs.Rules.{is_box, in_order}
use Rattle.frames.specs.Clauses.{four}
use Rattle.raft.specs.Majority.{holds}
use Rattle.raft.specs.Record.{State, leader, last_index, of_box, is_other, fresh, is_membership, is_vote, is_role, are_votes, is_progress, sends_to, has_progress, good}
pub use Rattle.raft.proofs.MajorityLaws.{at-box}

-- a box's number is from 1 to 7
pub box_range : (i : ℕ) → is_box i ≡ true → IsBox i
box_range i h = record { least = leb-true 1 i (and_left (leb 1 i) _ h); most = leb-true i boxes (and_right (leb 1 i) _ h) }

-- and a number from 1 to 7 is a box's
pub range_box : (i : ℕ) → 1 ≤ i → i ≤ boxes → is_box i ≡ true
range_box i l h = rw (le-leb 1 i l, le-leb i boxes h)

-- ---- the rules, one by one

-- What a good record keeps, rule by rule.
pub record Good (s : State) : Type 0 where
  pub membership : is_membership s.me s.members ≡ true
  pub vote : is_vote s.members s.vote ≡ true
  pub room : last_index s ≤ log_limit
  pub order : in_order 0 s.term s.log ≡ true
  pub commit : s.commit ≤ last_index s
  pub role : is_role s.role s.term s.vote s.me ≡ true
  pub votes : are_votes s.role s.votes s.members s.me ≡ true
  pub sent : (i : ℕ) → 1 ≤ i → i ≤ boxes → has_progress s i ≡ true

-- the rules of the stored part
abbrev stored : State → Bool
stored s =
    is_membership s.me s.members && is_vote s.members s.vote && leb (last_index s) log_limit && in_order 0 s.term s.log

-- and with commit, role and votes
abbrev unsent : State → Bool
unsent s =
    stored s && leb s.commit (last_index s) && is_role s.role s.term s.vote s.me
    && are_votes s.role s.votes s.members s.me

-- A good record keeps every rule.
pub good-facts : (s : State) → good s ≡ true → Good s
unfolding good
good-facts s h =
    let c = four (unsent s && has_progress s 1 && has_progress s 2 && has_progress s 3 && has_progress s 4) _ _ _ h in
    let b = four (unsent s && has_progress s 1) _ _ _ c.0 in
    let a = four (stored s) _ _ _ (and_left (unsent s) _ b.0) in
    let r = four (is_membership s.me s.members) _ _ _ a.0 in
    record {
      membership = r.0;
      vote = r.1;
      room = leb-true _ _ r.2;
      order = r.3;
      commit = leb-true _ _ a.1;
      role = a.2;
      votes = a.3;
      sent = at-box (λ i. has_progress s i ≡ true) (and_right (unsent s) _ b.0) b.1 b.2 b.3 c.1 c.2 c.3;
    }

-- What keeps every rule is a good record.
pub facts-good : (s : State) → Good s → good s ≡ true
unfolding good
facts-good s g =
    rw (
      g.membership,
      g.vote,
      le-leb _ _ g.room,
      g.order,
      le-leb _ _ g.commit,
      g.role,
      g.votes,
      sent 1 refl,
      sent 2 refl,
      sent 3 refl,
      sent 4 refl,
      sent 5 refl,
      sent 6 refl,
      sent 7 refl,
    )
  where
    sent : (i : ℕ) → is_box i ≡ true → has_progress s i ≡ true
    sent i b = g.sent i (box_range i b).least (box_range i b).most

-- ---- what the rules say

-- A box stands among the members, a mask of seven bits.
pub record Member (me members : ℕ) : Type 0 where
  pub least : 1 ≤ me
  pub most : me ≤ boxes
  pub mask : members < masks
  pub held : holds members me ≡ true

-- The rule says this.
pub member-facts : (me members : ℕ) → is_membership me members ≡ true → Member me members
unfolding is_membership
member-facts me members h =
    let m = four true (is_box me) (ltb members masks) (holds members me) h in
    record { least = (box_range me m.1).least; most = (box_range me m.1).most; mask = ltb-true _ _ m.2; held = m.3 }

-- A candidate or leader has voted for itself, in a term of at least 1.
pub self_voted : (s : State) → Good s → 1 ≤ s.role → (s.vote ≡ s.me) × (1 ≤ s.term)
unfolding is_role
self_voted s g r =
    let t = rw (ne_eqb s.role 0 (omega arith)) at g.role in
    let p = four true (leb s.role leader) (eqb s.vote s.me) (leb 1 s.term) t in
    (eqb-true _ _ p.2, leb-true _ _ p.3)

-- Where a box sends, match is below next, and next is at most one past the last index.
pub sent-facts : (last next matched : ℕ) → is_progress true last next matched ≡ true → (matched < next) × (next ≤ last + 1)
unfolding is_progress
sent-facts last next matched h =
    (ltb-true _ _ (and_left (ltb matched next) _ h), leb-true _ _ (and_right (ltb matched next) _ h))

-- So it is at a leader for each other member.
pub leader-sent : (s : State) → Good s → s.role ≡ leader → (i : ℕ) → 1 ≤ i → i ≤ boxes → is_other s.me s.members i ≡ true
    → (of_box s.lead.matched i < of_box s.lead.next i) × (of_box s.lead.next i ≤ last_index s + 1)
unfolding sends_to
leader-sent s g r i l h o = sent-facts _ _ _ (rw (r, o) at (g.sent i l h))

-- ---- the fresh box

-- A fresh box of a membership is good.
pub fresh-good : (me members : ℕ) → is_membership me members ≡ true → good (fresh me members) ≡ true
unfolding good fresh is_vote is_role are_votes is_progress sends_to in_order
fresh-good me members h = rw h
