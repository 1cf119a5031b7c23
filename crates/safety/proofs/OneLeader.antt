-- Demand 3: "no term has two leaders", at one moment of a run or at two. Assumes nothing.
use Rattle.std.specs.Prelude.{ℕ, ◌≡◌}
use Rattle.std.proofs.Common.{sym, ◌∙◌}
use Rattle.history.proofs.Later.{Later}
use Rattle.safety.specs.Park.{Leads}
use Rattle.safety.specs.Runs.{Runs}
use Rattle.safety.proofs.Proper.{reached_proper}
use Rattle.safety.proofs.Account.{StandsAs, Account}

-- **No term has two leaders in a run:** a box that leads a term now, and one that leads the same term at any later moment, are the same box. So no
-- term is ever won by two, also where the first has stepped down, or lost its power, before the second is elected: the history of the later moment
-- has both as winners of the term.
pub one_leader : {mask : ℕ} {R : Runs} {S : StandsAs R} {p q : R.Moment} {r : R.Run R.first p} {s : R.Run R.first q} (x : Account mask R S r) (y : Account mask R S s)
    → Later x.history y.history → (i j term : ℕ) → Leads (R.box p i) term → Leads (R.box q j) term → i ≡ j
one_leader {mask} {R} {p} {q} x y later i j term a b =
    let first : Leads (x.park.box i) term = rw (x.same i) at a in
    let second : Leads (y.park.box j) term = rw (y.same j) at b in
    let f = (x.carried.kept i).leads first.role in
    let g = (y.carried.kept j).leads second.role in
    let same =
    y.carried.facts.won_once term (x.park.box i).me (y.park.box j).me f.start g.start
    (rw first.in_term at (later.leaders.won _ _ _ f.won)) (rw second.in_term at g.won) in
    sym (reached_proper mask x.park x.reached i).mine ∙ same ∙ (reached_proper mask y.park y.reached j).mine
