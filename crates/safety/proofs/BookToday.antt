-- The book as it was worded before: what some leader had committed at some moment, a leader at that very moment. While no leader steps down within its
-- term, which today no step does, a log is in it exactly where it is a beginning of the book: so nothing is lost by the wording in Book. (The claim
-- 'what any box hands out is in the book' is the easier the more is in the book; by these laws no more is in it than before.) Assumes nothing.
use Rattle.std.specs.Prelude.{ℕ, ◌≡◌, refl, Bool, true, false, cond, ◌&&◌, ◌||◌, List, [], eqb}
use Rattle.std.proofs.Common.{arith, ap, eqb-true}
use Rattle.digits.specs.Tests.{and_left, and_right}
use Rattle.frames.specs.declared.Entry.{Entry}
use Rattle.frames.specs.Message.{Message}
use Rattle.raft.specs.Record.{State, leader, handed_out}
use Rattle.raft.specs.Commit.{settle}
use Rattle.raft.specs.Timeout.{standing}
use Rattle.raft.proofs.StepLaws.{winner-leads}
use Rattle.raft.specs.Order.{ordered}
use Rattle.raft.specs.AnyMessage.{taking, taken}
use Rattle.raft.specs.VoteRequest.{voting}
use Rattle.raft.specs.VoteAnswer.{adding}
use Rattle.raft.specs.Append.{following, joining}
use Rattle.raft.specs.AppendAnswer.{heard}
use Rattle.raft.proofs.ReceiveLaws.{taken-by}
use Rattle.history.specs.Begins.{Begins}
use Rattle.history.specs.BeginsLaws.{begins_self, begins_trans, begins-nothing, nothing-begins}
use Rattle.history.specs.PutLaws.{put_same}
use Rattle.safety.specs.Park.{Park, after, Move, steps, restarts, stays, moves, run_both, Reached, Leads}
use Rattle.safety.specs.Disks.{Seat, Site, built, seated, Happens, Goes, goes_both}
use Rattle.safety.specs.Book.{Change, by_leader, writes, book}
use Rattle.safety.specs.Runs.{Runs, parks, sites, moved, moves_of, happened, happened_in}
use Rattle.safety.specs.Demand3.{Demand3}
use Rattle.safety.proofs.Demand3.{park_safe, site_safe}
use Rattle.safety.proofs.BookLaws.{longer_either, writes_either}
use Rattle.safety.proofs.Endings.{Ending, rests, stands, leads_alone, takes_up, prompts, takes, votes, votes_not, wins, counts, declines, wants, joins, hears, hears_again, event_ending}
use Rattle.safety.proofs.ParkAccount.{fresh-hands, restarted-hands}
use Rattle.safety.proofs.SiteAccount.{site_accounts, opened-hands}

-- A log is empty, or a beginning of what some leader had committed at some moment of a run.
pub data InBook (R : Runs) {now : R.Moment} (run : R.Run R.first now) (log : List Entry) : Type 0 where
  empty : log ≡ [] → InBook R run log
  begins : (moment : R.Moment) (until : R.Run R.first moment) (on : R.Run moment now) → R.both until on ≡ run → (i term : ℕ)
      → Leads (R.box moment i) term → Begins log (handed_out (R.box moment i)) → InBook R run log

-- **It is then a beginning of the book.**
pub as_before-begins : {R : Runs} → Demand3 R → (p : R.Moment) (r : R.Run R.first p) (log : List Entry) → InBook R r log
    → Begins log (book (R.changes r))
as_before-begins d p r log (empty e) = rw e (nothing-begins _)
as_before-begins {R} d p r log (begins moment until on whole i term l b) =
    begins_trans b (rw whole at (d.makes_book moment p until on i term l))

-- A beginning of what is in it is in it.
in_book_less : (R : Runs) {now : R.Moment} {run : R.Run R.first now} {a b : List Entry} → Begins a b → InBook R run b → InBook R run a
in_book_less R x (empty e) = empty (begins-nothing (rw e at x))
in_book_less R x (begins moment until on whole i term l y) = begins moment until on whole i term l (begins_trans x y)

-- ---- no leader steps down within its term

-- A term that is no higher is not taken.
not_taken : (term : ℕ) (s : State) → s.term ≡ (taken term s).term → taken term s ≡ s
unfolding taking
not_taken term s =
    taken-by (λ u. s.term ≡ u.term → u ≡ s) term s (λ l e. absurd (omega (arith, l, e))) (λ l e. refl)

-- **A step from a leader that leaves its term leaves it leader.**
pub leader-stays : {sent : List (List ℕ)} {s t : State} {ms : List Message} → Ending sent s t ms → s.role ≡ leader → s.term ≡ t.term
    → t.role ≡ leader
unfolding standing ordered settle voting adding following joining heard
leader-stays rests l e = l
leader-stays stands l e = absurd (omega (arith, e))
leader-stays (leads_alone most) l e = winner-leads _
leader-stays (takes_up r room o) l e = l
leader-stays (prompts r) l e = l
leader-stays {s = s} (takes term) l e = rw (not_taken term s e) l
leader-stays {s = s} (votes from to term index prior c g) l e = rw (not_taken term s e) l
leader-stays {s = s} (votes_not from term) l e = rw (not_taken term s e) l
leader-stays (wins from to term reply c n most) l e = winner-leads _
leader-stays (counts from to term reply c n) l e = l
leader-stays (declines from) l e = l
leader-stays {s = s} (wants from term look) l e = absurd (look.unled (rw (not_taken term s e) l))
leader-stays {s = s} (joins from to term index prior commit es c look has) l e = absurd (look.unled (rw (not_taken term s e) l))
leader-stays (hears from to term reply index c n) l e = l
leader-stays (hears_again from to term reply index c n) l e = l

-- So what a move writes is nothing, or what a box hands out that leads behind it.
writes-leads : (P : List Entry → Type 0) (c : Change) → P [] → (c.behind.role ≡ leader → P (handed_out c.behind))
    → (c.before.role ≡ leader → c.before.term ≡ c.behind.term → c.behind.role ≡ leader) → P (writes c)
unfolding writes by_leader
writes-leads P c none leads keeps = go (eqb c.behind.role leader) refl (eqb c.before.role leader && eqb c.before.term c.behind.term) refl
  where
    go : (x : Bool) → eqb c.behind.role leader ≡ x
        → (y : Bool) → (eqb c.before.role leader && eqb c.before.term c.behind.term) ≡ y
        → P (cond (x || y) (handed_out c.behind) [])
    go true e y f = leads (eqb-true c.behind.role leader e)
    go false e true f =
        leads (keeps (eqb-true c.before.role leader (and_left (eqb c.before.role leader) _ f))
        (eqb-true c.before.term c.behind.term (and_right (eqb c.before.role leader) _ f)))
    go false e false f = none

-- What hands out nothing writes nothing.
writes_nothing : (P : List Entry → Type 0) (c : Change) → handed_out c.behind ≡ [] → P [] → P (writes c)
writes_nothing P c e none = writes_either P c (rw e none) none

-- ---- a park

-- What was in it stays in it,
park-stays_in : {mask : ℕ} {p q : Park} {r : Reached mask p} (v : Move mask p q) (log : List Entry) → InBook (parks mask) r log
    → InBook (parks mask) (moves r v) log
unfolding run_both
park-stays_in v log (empty e) = empty e
park-stays_in v log (begins moment until on whole i term l b) = begins moment until (moves on v) (ap (λ x. moves x v) whole) i term l b

-- and so is what a move writes.
park-writes_in : {mask : ℕ} {p q : Park} (r : Reached mask p) (v : Move mask p q) → InBook (parks mask) (moves r v) (writes (moved v))
unfolding run_both after moved
park-writes_in {mask} {p} r (steps i m e c t ms o) =
    let v : Move mask p (after p i t ms) = steps i m e c t ms o in
    writes-leads (InBook (parks mask) (moves r v)) (moved v) (empty refl)
    (λ l. begins (after p i t ms) (moves r v) stays refl i t.term (rw (put_same p.box i t) (record { role = l; in_term = refl }))
    (rw (put_same p.box i t) (begins_self _)))
    (leader-stays (event_ending p.sent (p.box i) e c t ms o))
park-writes_in {mask} {p} r (restarts i m) =
    let v : Move mask p (after p i _ []) = restarts i m in
    writes_nothing (InBook (parks mask) (moves r v)) (moved v) (restarted-hands (p.box i)) (empty refl)

park-book : {mask : ℕ} {p : Park} (r : Reached mask p) → InBook (parks mask) r (book (moves_of r))
unfolding moves_of book
park-book stays = empty refl
park-book {mask} (moves r v) =
    longer_either (InBook (parks mask) (moves r v)) (book (moves_of r)) (writes (moved v)) (park-stays_in v _ (park-book r)) (park-writes_in r v)

-- **In a park's run each beginning of the book is in it,** so what any box hands out.
pub park_as_before : (mask : ℕ) (p : Park) (r : Reached mask p) (log : List Entry) → Begins log (book (moves_of r)) → InBook (parks mask) r log
park_as_before mask p r log b = in_book_less (parks mask) b (park-book r)

pub park-handed_as_before : (mask : ℕ) (p : Park) (r : Reached mask p) (i : ℕ) → InBook (parks mask) r (handed_out (p.box i))
park-handed_as_before mask p r i = park_as_before mask p r _ ((park_safe mask).in_book p r i)

-- ---- a site

-- So it is here:
site-stays_in : {mask : ℕ} {a b : Site} {g : Goes mask (built mask) a} (v : Happens mask a b) (log : List Entry) → InBook (sites mask) g log
    → InBook (sites mask) (Goes.goes g v) log
unfolding goes_both
site-stays_in v log (empty e) = empty e
site-stays_in v log (begins moment until on whole i term l b) = begins moment until (Goes.goes on v) (ap (λ x. Goes.goes x v) whole) i term l b

-- a leader's record behind what happened,
seat-leads : {mask : ℕ} {a : Site} (g : Goes mask (built mask) a) (i : ℕ) (b : Seat) (ms : List Message) (v : Happens mask a (seated a i b ms))
    → b.now.role ≡ leader → InBook (sites mask) (Goes.goes g v) (handed_out b.now)
unfolding goes_both seated
seat-leads {mask} {a} g i b ms v l =
    begins (seated a i b ms) (Goes.goes g v) Goes.stays refl i b.now.term
    (rw (put_same a.seat i b) (record { role = l; in_term = refl })) (rw (put_same a.seat i b) (begins_self _))

-- and what came back by its journal.
site-writes_in : {mask : ℕ} {a b : Site} (g : Goes mask (built mask) a) (v : Happens mask a b) → InBook (sites mask) (Goes.goes g v) (writes (happened v))
unfolding happened
site-writes_in {mask} {a} g (Happens.starts i m z) =
    writes_nothing (InBook (sites mask) _) (happened {a = a} (Happens.starts i m z)) (fresh-hands i mask) (empty refl)
site-writes_in {mask} {a} g (Happens.tears i m z k l) =
    writes_nothing (InBook (sites mask) _) (happened {a = a} (Happens.tears i m z k l)) (fresh-hands i mask) (empty refl)
site-writes_in {mask} {a} g (Happens.steps i m up e c t ms o) =
    writes-leads (InBook (sites mask) _) (happened {a = a} (Happens.steps i m up e c t ms o)) (empty refl) (seat-leads {a = a} g i _ ms (Happens.steps i m up e c t ms o))
    (leader-stays (event_ending a.sent (a.seat i).now e c t ms o))
site-writes_in {mask} {a} g (Happens.fails i m up e c t ms o k u n h) =
    writes_nothing (InBook (sites mask) _) (happened {a = a} (Happens.fails i m up e c t ms o k u n h))
    (opened-hands mask g ((site_accounts mask).account g) i m u n _ (Happens.fails i m up e c t ms o k u n h) h) (empty refl)
site-writes_in {mask} {a} g (Happens.reopens i m u n h) =
    writes_nothing (InBook (sites mask) _) (happened {a = a} (Happens.reopens i m u n h))
    (opened-hands mask g ((site_accounts mask).account g) i m u n _ (Happens.reopens i m u n h) h) (empty refl)
site-writes_in {mask} {a} g (Happens.trims i m k) =
    writes-leads (InBook (sites mask) _) (happened {a = a} (Happens.trims i m k)) (empty refl) (seat-leads {a = a} g i _ [] (Happens.trims i m k)) (λ l e. l)

site-book : {mask : ℕ} {a : Site} (g : Goes mask (built mask) a) → InBook (sites mask) g (book (happened_in g))
unfolding happened_in book
site-book Goes.stays = empty refl
site-book {mask} (Goes.goes g v) =
    longer_either (InBook (sites mask) (Goes.goes g v)) (book (happened_in g)) (writes (happened v)) (site-stays_in v _ (site-book g)) (site-writes_in g v)

-- **In a site's run each beginning of the book is in it,** so what any box hands out.
pub site_as_before : (mask : ℕ) (a : Site) (g : Goes mask (built mask) a) (log : List Entry) → Begins log (book (happened_in g)) → InBook (sites mask) g log
site_as_before mask a g log b = in_book_less (sites mask) b (site-book g)

pub site-handed_as_before : (mask : ℕ) (a : Site) (g : Goes mask (built mask) a) (i : ℕ) → InBook (sites mask) g (handed_out (a.seat i).now)
site-handed_as_before mask a g i = site_as_before mask a g _ ((site_safe mask).in_book a g i)
