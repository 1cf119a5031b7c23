-- Demand 3 holds of every run of a park, and of a site with its disks. Assumes nothing.
use Rattle.std.specs.Prelude.{ℕ}
use Rattle.history.specs.BeginsLaws.{begins_trans}
use Rattle.safety.specs.Book.{book}
use Rattle.safety.specs.Runs.{Runs, parks, sites}
use Rattle.safety.specs.Sent.{wider}
use Rattle.safety.proofs.BookLaws.{book-below}
use Rattle.safety.proofs.Account.{StandsAs, Further, Accounts}
use Rattle.safety.proofs.ParkAccount.{park_accounts}
use Rattle.safety.proofs.SiteAccount.{site_accounts}
use Rattle.safety.proofs.OneLeader.{one_leader}
use Rattle.safety.proofs.OneBook.{handed-agree, later-leader-holds, earlier-leader-holds, leader-holds_book, newest-leader-holds, leader-held_book}
use Rattle.safety.proofs.NoAlarms.{no_alarm}
use Rattle.safety.specs.Demand3.{Demand3}

-- It holds where each run has an account.
module _ {mask : ℕ} {R : Runs} {S : StandsAs R} (A : Accounts mask R S) where
  -- a moment, and a later one
  on : {p q : R.Moment} (r : R.Run R.first p) (u : R.Run p q) → Further mask R S (A.account r).history (book (R.changes r)) (R.both r u)
  on r u = A.further r u (A.account r)

  safe : Demand3 R
  safe =
      record {
        one_leader = λ p q r u. one_leader (A.account r) (on r u).account (on r u).later;
        one_book = λ p q r u i j s t a b. handed-agree (A.account r) (on r u).account (on r u).later i j;
        makes_book = λ p q r u i t a. begins_trans ((A.account r).booked.boxes i) (on r u).grows;
        book_grows = λ p q r u. (on r u).grows;
        book_begins = λ p r bound. book-below (A.account r).carried.facts bound (R.changes r) (A.account r).wrote;
        holds_before = λ p q r u i j s t a b l.
            later-leader-holds (A.account r) (on r u).account (on r u).later i j t (rw a.in_term l) b;
        holds_after = λ p q r u i j s t a b l.
            earlier-leader-holds (A.account r) (on r u).account (on r u).later i j s a (rw b.in_term l);
        holds_book = λ p q r u. leader-holds_book (A.account r) (on r u).account (on r u).later;
        newest_holds = λ p q r u. newest-leader-holds (A.account r) (on r u).account (on r u).later;
        held_book = λ p q r u. leader-held_book (A.account r) (on r u).account (on r u).later;
        in_book = λ p r. (A.account r).booked.boxes;
        boxes_agree = λ p q r u. handed-agree (A.account r) (on r u).account (on r u).later;
        no_alarm = λ p r i e c n o.
            no_alarm mask (A.account r).park (A.account r).reached i e (wider (A.account r).known e c) n (rw (← (A.account r).same i) o);
      }

-- **Demand 3 holds of every run of a park,**
pub park_safe : (mask : ℕ) → Demand3 (parks mask)
park_safe mask = safe (park_accounts mask)

-- **and of every run of a site with its disks.**
pub site_safe : (mask : ℕ) → Demand3 (sites mask)
site_safe mask = safe (site_accounts mask)
