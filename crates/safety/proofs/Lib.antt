-- That demand 3 holds (Demand3), in the order in which it is read:
-- Carried, what ties a park to its history (crate `history`); Sent to CarriedRun, that it is carried along every run: what is sent and kept in any
-- case (Sent, Proper), how a move may end (Endings), and that each ending keeps what is carried (Grown to Carry);
-- BookLaws to Account, that what is handed out is in the book, and what an account of a run is, in either telling; ParkAccount, that a park's runs have
-- accounts; DisksLaws to SiteAccount, that a site's do, and that each telling has the other's runs, record for record (DisksLaws, ParkOnDisk);
-- OneLeader to NoAlarms, what follows from accounts: Demand3. BookToday: nothing is lost against an earlier wording of the book. GoesOn, and SiteGoesOn: a new
-- leader does not sit on old orders.
-- Last, runs that are shown: a leader (Elects), an order that is committed and handed out (Commits), handed out again after a restart (HandsAgain), a
-- second leader (Succeeds), an order of an older term that is committed with no new one (CommitsOlder), a conflict that cuts entries (Conflicts), a book of
-- two terms (TwoTerms), a torn head (StartsAgain); and what would happen if a torn step's messages left (Leaks), a box came back fresh (Forgets), the old
-- struct were kept with the new log (Loses), or an event came before the head is whole (Headless). Six must-fail edits are shown
-- false by them: any_term (`Succeeds.terms_differ`), holds_own_term (`Commits.own-term-not-held`), book_of_its_own_term_held and any_leader_holds_the_book
-- (`TwoTerms.own-term-book-not-held`, `whole-book-not-held`), torn_step_sends (`Leaks.leaks`) and restart_forgets (`Forgets.forgets`).
pub mod Proper
pub mod Endings
pub mod Grown
pub mod Next
pub mod CarryStands
pub mod CarryVotes
pub mod CarryLeads
pub mod Carry
pub mod CarriedRun
pub mod BookLaws
pub mod HandsOut
pub mod Booked
pub mod Account
pub mod ParkAccount
pub mod DisksLaws
pub mod ParkOnDisk
pub mod SiteAccount
pub mod OneLeader
pub mod OneBook
pub mod Alarms
pub mod NoAlarms
pub mod BookToday
pub mod GoesOn
pub mod Elects
pub mod Commits
pub mod HandsAgain
pub mod Succeeds
pub mod CommitsOlder
pub mod Conflicts
pub mod TwoTerms
pub mod StartsAgain
pub mod Leaks
pub mod Forgets
pub mod Loses
pub mod Headless
pub mod Demand3
pub mod SiteGoesOn
