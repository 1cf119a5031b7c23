-- Demand 3 of a host, in terms of the calls: whatever a host does with our calls, its disks and its network, within `Host`. Assumes nothing.
use Rattle.std.specs.Prelude.{ℕ, suc, ◌≤◌, ◌<◌, ◌≡◌, List, ◌⊎◌, length, Ok, Err}
use Rattle.std.proofs.Common.{sym, ap, subst, ◌∙◌}
use Rattle.frames.specs.declared.Entry.{Entry}
use Rattle.raft.specs.Record.{handed_out}
use Rattle.raft.specs.Journal.{head}
use Rattle.journal.specs.Longest.{longest_line, longest_messages}
use Rattle.history.specs.Begins.{Begins, OneBegins}
use Rattle.safety.specs.Book.{book, below}
use Rattle.safety.specs.Demand3.{Demand3}
use Rattle.record.specs.Calls.{handed}
use Rattle.opening.specs.declared.Opened.{Opened}
use Rattle.opening.specs.declared.Unopened.TheVariants.{NoHead}
use Rattle.host.specs.Host.{Running, on, off, Host, nothing, Call, Opening, HostRun, run_both}
use Rattle.host.specs.Seen.{Leads, log_in, handed_by, seen, turned_in, hosts}
use Rattle.host.specs.HostStands.{Runs, Stands}
use Rattle.host.proofs.SeenLaws.{hands_0, seen-seat, leads-seen, leader-log, runs_good, hands-seat}
use Rattle.host.proofs.HostRuns.{AsSite, host_theorem}
use Rattle.host.proofs.HostRecords.{hosts_safe}
use Rattle.host.proofs.Answers as answers

-- At any moment h of a host's run, and any later one k; i and j are any boxes.
pub record HostSafe (mask : ℕ) : Type 0 where
  -- No term has two structs that lead.
  pub one_leader : (h k : Host) → HostRun mask nothing h → HostRun mask h k → (i j term : ℕ) → Leads (h.box i) term → Leads (k.box j) term → i ≡ j
  -- What `handed_out` counts in the lent arrays agrees, for all boxes at all moments: of two, one is a beginning of the other;
  pub boxes_agree : (h k : Host) → HostRun mask nothing h → HostRun mask h k → (i j : ℕ) → OneBegins (handed_by (h.box i)) (handed_by (k.box j))
  -- it is a beginning of the book, which is what leaders have committed in the run, and only grows;
  pub in_book : (h : Host) (run : HostRun mask nothing h) (i : ℕ) → Begins (handed_by (h.box i)) (book (turned_in run))
  pub book_grows : (h k : Host) (run : HostRun mask nothing h) (on : HostRun mask h k) → Begins (book (turned_in run)) (book (turned_in (run_both run on)))
  -- and each later leader holds it in its arrays: what a leader handed out before, in a term up to its own, and what one of a lower term hands out later;
  pub holds_before : (h k : Host) → HostRun mask nothing h → HostRun mask h k → (i j t u : ℕ) → Leads (h.box i) t → Leads (k.box j) u → t ≤ u
      → Begins (handed_by (h.box i)) (log_in (k.box j))
  pub holds_after : (h k : Host) → HostRun mask nothing h → HostRun mask h k → (i j t u : ℕ) → Leads (h.box i) t → Leads (k.box j) u → u < t
      → Begins (handed_by (k.box j)) (log_in (h.box i))
  -- so all of the book that was written before, in terms up to its own.
  pub holds_book : (h k : Host) (run : HostRun mask nothing h) → HostRun mask h k → (j t : ℕ) → Leads (k.box j) t
      → Begins (book (below (suc t) (turned_in run))) (log_in (k.box j))
  -- The same, and the rest of what demand 3 says of the book, of the boxes' records.
  pub demand_3 : Demand3 (hosts mask)
  -- No call ever answers 6, 7, 8 or 12,
  pub no_alarm : (h : Host) → HostRun mask nothing h → (i : ℕ) (b : Running) → h.box i ≡ on b → (c : Call h.network b)
      → (c.answer.refusal ≡ 6 → ⊥) × (c.answer.refusal ≡ 7 → ⊥) × (c.answer.refusal ≡ 8 → ⊥) × (c.answer.refusal ≡ 12 → ⊥)
  -- nor 5 where room for the longest line, 119 bytes, and for the longest messages, 786, is lent;
  pub room_enough : (h : Host) → HostRun mask nothing h → (i : ℕ) (b : Running) → h.box i ≡ on b → (c : Call h.network b)
      → longest_line ≤ length c.journal → longest_messages ≤ length c.messages → c.answer.refusal ≡ 5 → ⊥
  -- `handed_out` always answers 0;
  pub hands_out : (h : Host) → HostRun mask nothing h → (i : ℕ) (b : Running) → h.box i ≡ on b → (handed b.node.state b.terms b.orders).refusal ≡ 0
  -- and whatever byte power failed at, a file opens, or no head was ever whole on it: 10 is never answered.
  pub opens : (h : Host) → HostRun mask nothing h → (i : ℕ) (disk : List ℕ) → h.box i ≡ off disk → (c : Opening i disk)
      → ((found : Opened) × (c.answer ≡ Ok found)) ⊎ ((c.answer ≡ Err NoHead) × (length disk < length (head i mask)))

-- ---- that it is so

-- At one moment.
module _ (mask : ℕ) (h : Host) (r : HostRun mask nothing h) where
  now : AsSite r
  now = host_theorem mask r

  stood : (i : ℕ) → Stands mask i (h.box i) (now.site.seat i)
  stood i = now.stands.boxes i

  running : (i : ℕ) (b : Running) → h.box i ≡ on b → Runs mask i b (now.site.seat i)
  running i b e = rw e at (stood i)

  -- What `handed_out` counts is what the box's record hands out.
  hands : (i : ℕ) → handed_by (h.box i) ≡ handed_out (seen mask i (h.box i))
  hands i =
      hands-seat mask now.site now.run i (h.box i) (stood i) ∙ ap handed_out (sym (seen-seat mask i (h.box i) (now.site.seat i) (stood i)))

  host-in_book : (i : ℕ) → Begins (handed_by (h.box i)) (book (turned_in r))
  host-in_book i = subst (λ log. Begins log (book (turned_in r))) (sym (hands i)) ((hosts_safe mask).in_book h r i)

  host-no_alarm : (i : ℕ) (b : Running) → h.box i ≡ on b → (c : Call h.network b)
      → (c.answer.refusal ≡ 6 → ⊥) × (c.answer.refusal ≡ 7 → ⊥) × (c.answer.refusal ≡ 8 → ⊥) × (c.answer.refusal ≡ 12 → ⊥)
  host-no_alarm i b e = rw now.stands.network (answers.no_alarm mask now.site now.run i b (running i b e))

  host-hands : (i : ℕ) (b : Running) → h.box i ≡ on b → (handed b.node.state b.terms b.orders).refusal ≡ 0
  host-hands i b e = hands_0 b (runs_good mask now.site now.run i b (running i b e))

-- At two.
module _ (mask : ℕ) (h k : Host) (r : HostRun mask nothing h) (v : HostRun mask h k) where
  -- what holds of what the records hand out holds of what the calls count
  of-both : (P : List Entry → List Entry → Type 0) (i j : ℕ) → P (handed_out (seen mask i (h.box i))) (handed_out (seen mask j (k.box j)))
      → P (handed_by (h.box i)) (handed_by (k.box j))
  of-both P i j p =
      subst (λ log. P log (handed_by (k.box j))) (sym (hands mask h r i))
      (subst (P (handed_out (seen mask i (h.box i)))) (sym (hands mask k (run_both r v) j)) p)

  host-one_leader : (i j term : ℕ) → Leads (h.box i) term → Leads (k.box j) term → i ≡ j
  host-one_leader i j term x y =
      (hosts_safe mask).one_leader h k r v i j term (leads-seen mask i (h.box i) term x) (leads-seen mask j (k.box j) term y)

  host-agree : (i j : ℕ) → OneBegins (handed_by (h.box i)) (handed_by (k.box j))
  host-agree i j = of-both OneBegins i j ((hosts_safe mask).boxes_agree h k r v i j)

  host-before : (i j t u : ℕ) → Leads (h.box i) t → Leads (k.box j) u → t ≤ u → Begins (handed_by (h.box i)) (log_in (k.box j))
  host-before i j t u x y l =
      of-both (λ a b. Begins a (log_in (k.box j))) i j
      (subst (Begins (handed_out (seen mask i (h.box i)))) (sym (leader-log mask j (k.box j) u y))
      ((hosts_safe mask).holds_before h k r v i j t u (leads-seen mask i (h.box i) t x) (leads-seen mask j (k.box j) u y) l))

  host-after : (i j t u : ℕ) → Leads (h.box i) t → Leads (k.box j) u → u < t → Begins (handed_by (k.box j)) (log_in (h.box i))
  host-after i j t u x y l =
      of-both (λ a b. Begins b (log_in (h.box i))) i j
      (subst (Begins (handed_out (seen mask j (k.box j)))) (sym (leader-log mask i (h.box i) t x))
      ((hosts_safe mask).holds_after h k r v i j t u (leads-seen mask i (h.box i) t x) (leads-seen mask j (k.box j) u y) l))

  host-holds_book : (j t : ℕ) → Leads (k.box j) t → Begins (book (below (suc t) (turned_in r))) (log_in (k.box j))
  host-holds_book j t y =
      subst (Begins (book (below (suc t) (turned_in r)))) (sym (leader-log mask j (k.box j) t y))
      ((hosts_safe mask).holds_book h k r v j t (leads-seen mask j (k.box j) t y))

-- **Demand 3 holds of every run of a host.**
pub host_safe : (mask : ℕ) → HostSafe mask
host_safe mask =
    record {
      one_leader = host-one_leader mask;
      boxes_agree = host-agree mask;
      in_book = host-in_book mask;
      book_grows = (hosts_safe mask).book_grows;
      holds_before = host-before mask;
      holds_after = host-after mask;
      holds_book = host-holds_book mask;
      demand_3 = hosts_safe mask;
      no_alarm = host-no_alarm mask;
      room_enough = λ h r i b e c. answers.no_5 c (runs_good mask _ (now mask h r).run i b (running mask h r i b e));
      hands_out = host-hands mask;
      opens = λ h r i disk e. answers.opens-or-not mask i disk (h.box i) (now mask h r).site e (stood mask h r i);
    }
