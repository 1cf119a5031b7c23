-- The record's rules, as the code looks at them: in the struct and the lent terms, whatever the orders are. Assumes nothing.
use Rattle.std.specs.Prelude.{ℕ, zero, suc, ◌≤◌, ◌<◌, ◌≡◌, refl, Bool, true, false, ◌&&◌, List, [], eqb, ltb, leb, get_or}
use Rattle.std.proofs.Common.{arith, ap, ◌∙◌, le-leb}
use Rattle.std.proofs.Math.Bool.{and-true, and-false}
use Rattle.std.proofs.lemmas.Bool.{lt-leb}
use Rattle.digits.specs.Tests.{and_left}
use Rattle.frames.specs.Limits.{IsBox, masks, log_limit}
use Rattle.frames.specs.Rules.{is_box, follows, in_order}
use Rattle.record.specs.declared.Record.{Record}
use Rattle.raft.specs.Majority.{holds}
use Rattle.raft.specs.Record.{State, leader, last_index, of_box, is_other, is_progress, has_progress, sends_to, is_membership, is_vote, is_role, are_votes, good}
use Rattle.raft.proofs.RecordLaws.{box_range, Good, good-facts, Member, member-facts}
use Rattle.raft.specs.Event.{Event, step}
use Rattle.raft.specs.LentLaws.{length-entries_of}
use Rattle.record.specs.Calls.{entries_of, state_of, untouched, run, call, Ready}

-- ---- next and match

-- The rule for box i, and for all seven in the code's order.
abbrev pub progress_of : Record → ℕ → Bool
progress_of b i =
    is_progress (eqb b.role leader && is_other b.me b.members i) b.last (of_box b.lead.next i) (of_box b.lead.matched i)

unfoldable pub all_progress : Record → Bool
all_progress b =
    progress_of b 1 && progress_of b 2 && progress_of b 3 && progress_of b 4 && progress_of b 5 && progress_of b 6 && progress_of b 7

-- seven tests behind another are one test behind it
seven : (x a b c d e f g : Bool) → (x && a && b && c && d && e && f && g) ≡ (x && (a && b && c && d && e && f && g))
seven true a b c d e f g = refl
seven false a b c d e f g = refl

-- ---- the whole record

-- the entry rule does not look at the orders
order-terms : (terms orders : List ℕ) (at n last term : ℕ)
    → in_order last term (entries_of terms orders at n) ≡ in_order last term (entries_of terms [] at n)
unfolding in_order entries_of
order-terms terms orders at zero last term = refl
order-terms terms orders at (suc n) last term =
    ap (λ (b : Bool). follows last term (get_or terms at 0) && b) (order-terms terms orders (suc at) n (get_or terms at 0) term)

-- Of a membership whose log is not too long the rest decides;
pub good-by : (b : Record) (terms orders : List ℕ) → is_membership b.me b.members ≡ true → b.last ≤ log_limit
    → good (state_of b terms orders)
    ≡ (is_vote b.members b.vote && in_order 0 b.term (entries_of terms [] 0 b.last) && leb b.commit b.last
    && is_role b.role b.term b.vote b.me && are_votes b.role b.votes b.members b.me && all_progress b)
unfolding good sends_to all_progress
good-by b terms orders m l =
    let s : State = state_of b terms orders in
    seven
    (is_membership b.me b.members && is_vote b.members b.vote && leb (last_index s) log_limit && in_order 0 b.term s.log
    && leb b.commit (last_index s) && is_role b.role b.term b.vote b.me && are_votes b.role b.votes b.members b.me)
    (has_progress s 1) (has_progress s 2) (has_progress s 3) (has_progress s 4) (has_progress s 5) (has_progress s 6) (has_progress s 7)
    ∙ rw (
      m,
      length-entries_of terms orders 0 b.last,
      le-leb b.last log_limit l,
      and-true (is_vote b.members b.vote),
      order-terms terms orders 0 b.last 0 b.term,
    )

-- no other is good.
pub not-good-membership : (b : Record) (terms orders : List ℕ) → is_membership b.me b.members ≡ false → good (state_of b terms orders) ≡ false
unfolding good
not-good-membership b terms orders m = rw m

pub not-good-long : (b : Record) (terms orders : List ℕ) → log_limit < b.last → good (state_of b terms orders) ≡ false
unfolding good
not-good-long b terms orders l =
    rw (
      length-entries_of terms orders 0 b.last,
      lt-leb b.last log_limit l,
      and-false (is_membership b.me b.members && is_vote b.members b.vote),
    )

-- a membership's own box is one of seven
pub membership-box : (me members : ℕ) → is_membership me members ≡ true → IsBox me
unfolding is_membership
membership-box me members h =
    box_range me (and_left (is_box me) (ltb members masks) (and_left (is_box me && ltb members masks) (holds members me) h))

-- ---- what is known of a record that is ready

module _ {b : Record} {terms orders : List ℕ} (r : Ready b terms orders) where
  -- its rules as facts,
  pub ready-good : Good (state_of b terms orders)
  ready-good = good-facts (state_of b terms orders) r.rules

  -- its box is one of seven,
  pub ready-box : Member b.me b.members
  ready-box = member-facts b.me b.members ready-good.membership

  -- and its log fits.
  pub ready-last : b.last ≤ log_limit
  ready-last = omega (arith, ready-good.room, length-entries_of terms orders 0 b.last)

-- ---- calls

-- A bad record: 12.
pub call-bad : (e : Event) (b : Record) (terms orders journal messages : List ℕ) → good (state_of b terms orders) ≡ false
    → untouched 12 b terms orders journal messages ≡ call e b terms orders journal messages
unfolding call
call-bad e b terms orders journal messages h = rw h

-- A good one: the step.
pub call-good : (e : Event) (b : Record) (terms orders journal messages : List ℕ) → good (state_of b terms orders) ≡ true
    → run (step e (state_of b terms orders)) b terms orders journal messages ≡ call e b terms orders journal messages
unfolding call
call-good e b terms orders journal messages h = rw h
