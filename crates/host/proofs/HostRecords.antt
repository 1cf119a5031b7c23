-- **Demand 3 of a host's runs, of the boxes' records and the run's book:** each is a site's run with the same records, the same frames and the same book, so what
-- `safety/specs/Demand3` claims of sites it claims of hosts. Assumes nothing.
use Rattle.std.specs.Prelude.{ℕ, suc, ◌≤◌, ◌<◌, ◌≡◌}
use Rattle.std.proofs.Common.{sym, subst}
use Rattle.raft.specs.Record.{State, handed_out}
use Rattle.raft.specs.Outcome.{refuse}
use Rattle.raft.specs.Event.{Event, step}
use Rattle.history.specs.Begins.{Begins, OneBegins}
use Rattle.safety.specs.Park.{Comes, Leads}
use Rattle.safety.specs.Disks.{goes_both}
use Rattle.safety.specs.Book.{book, below, NoneAbove}
use Rattle.safety.specs.Runs.{happened_in}
use Rattle.safety.specs.Demand3.{Demand3}
use Rattle.safety.proofs.Demand3.{site_safe}
use Rattle.host.specs.Host.{Host, nothing, HostRun, run_both}
use Rattle.host.specs.Seen.{seen, turned_in, hosts}
use Rattle.host.proofs.SeenLaws.{seen-seat}
use Rattle.host.proofs.HostRuns.{AsSite, Later, later, host_theorem}

-- At one moment.
module _ (mask : ℕ) (h : Host) (r : HostRun mask nothing h) where
  x : AsSite r
  x = host_theorem mask r

  -- a box's record is its seat's
  here : (i : ℕ) → seen mask i (h.box i) ≡ (x.site.seat i).now
  here i = seen-seat mask i (h.box i) (x.site.seat i) (x.stands.boxes i)

  leads-here : (i t : ℕ) → Leads (seen mask i (h.box i)) t → Leads (x.site.seat i).now t
  leads-here i t = subst (λ s. Leads s t) (here i)

  from-begins : (bound : ℕ) → Begins (book (below bound (turned_in r))) (book (turned_in r))
  from-begins bound =
      subst (λ cs. Begins (book (below bound cs)) (book cs)) (sym x.told) ((site_safe mask).book_begins x.site x.run bound)

  from-in_book : (i : ℕ) → Begins (handed_out (seen mask i (h.box i))) (book (turned_in r))
  from-in_book i =
      subst (λ cs. Begins (handed_out (seen mask i (h.box i))) (book cs)) (sym x.told)
      (subst (λ s. Begins (handed_out s) (book (happened_in x.run))) (sym (here i)) ((site_safe mask).in_book x.site x.run i))

  from-no_alarm : (i : ℕ) (e : Event) → Comes h.network e → (n : ℕ) → step e (seen mask i (h.box i)) ≡ refuse n
      → (n ≡ 6 → ⊥) × (n ≡ 7 → ⊥) × (n ≡ 8 → ⊥)
  from-no_alarm i e c n o =
      (site_safe mask).no_alarm x.site x.run i e (subst (λ sent. Comes sent e) x.stands.network c) n
      (subst (λ s. step e s ≡ refuse n) (here i) o)

  -- At two.
  module _ (k : Host) (v : HostRun mask h k) where
    y : Later r x v
    y = later mask r x v

    there : (j : ℕ) → seen mask j (k.box j) ≡ (y.site.seat j).now
    there j = seen-seat mask j (k.box j) (y.site.seat j) (y.stands.boxes j)

    leads-there : (j t : ℕ) → Leads (seen mask j (k.box j)) t → Leads (y.site.seat j).now t
    leads-there j t = subst (λ s. Leads s t) (there j)

    -- what holds of the two seats holds of the two records
    of-both : (P : State → State → Type 0) (i j : ℕ) → P (x.site.seat i).now (y.site.seat j).now → P (seen mask i (h.box i)) (seen mask j (k.box j))
    of-both P i j p = subst (λ s. P s (seen mask j (k.box j))) (sym (here i)) (subst (P (x.site.seat i).now) (sym (there j)) p)

    from-one_leader : (i j term : ℕ) → Leads (seen mask i (h.box i)) term → Leads (seen mask j (k.box j)) term → i ≡ j
    from-one_leader i j term a b =
        (site_safe mask).one_leader x.site y.site x.run y.run i j term (leads-here i term a) (leads-there j term b)

    from-agree : (i j : ℕ) → OneBegins (handed_out (seen mask i (h.box i))) (handed_out (seen mask j (k.box j)))
    from-agree i j =
        of-both (λ s t. OneBegins (handed_out s) (handed_out t)) i j ((site_safe mask).boxes_agree x.site y.site x.run y.run i j)

    from-makes_book : (i t : ℕ) → Leads (seen mask i (h.box i)) t → Begins (handed_out (seen mask i (h.box i))) (book (turned_in (run_both r v)))
    from-makes_book i t a =
        subst (λ cs. Begins (handed_out (seen mask i (h.box i))) (book cs)) (sym y.told)
        (subst (λ s. Begins (handed_out s) (book (happened_in (goes_both x.run y.run)))) (sym (here i))
        ((site_safe mask).makes_book x.site y.site x.run y.run i t (leads-here i t a)))

    from-grows : Begins (book (turned_in r)) (book (turned_in (run_both r v)))
    from-grows =
        subst (λ cs. Begins (book (turned_in r)) (book cs)) (sym y.told)
        (subst (λ cs. Begins (book cs) (book (happened_in (goes_both x.run y.run)))) (sym x.told)
        ((site_safe mask).book_grows x.site y.site x.run y.run))

    from-before : (i j t u : ℕ) → Leads (seen mask i (h.box i)) t → Leads (seen mask j (k.box j)) u → t ≤ u
        → Begins (handed_out (seen mask i (h.box i))) (seen mask j (k.box j)).log
    from-before i j t u a b l =
        of-both (λ s z. Begins (handed_out s) z.log) i j
        ((site_safe mask).holds_before x.site y.site x.run y.run i j t u (leads-here i t a) (leads-there j u b) l)

    from-after : (i j t u : ℕ) → Leads (seen mask i (h.box i)) t → Leads (seen mask j (k.box j)) u → u < t
        → Begins (handed_out (seen mask j (k.box j))) (seen mask i (h.box i)).log
    from-after i j t u a b l =
        of-both (λ s z. Begins (handed_out z) s.log) i j
        ((site_safe mask).holds_after x.site y.site x.run y.run i j t u (leads-here i t a) (leads-there j u b) l)

    from-holds_book : (j t : ℕ) → Leads (seen mask j (k.box j)) t → Begins (book (below (suc t) (turned_in r))) (seen mask j (k.box j)).log
    from-holds_book j t b =
        subst (λ s. Begins (book (below (suc t) (turned_in r))) s.log) (sym (there j))
        (subst (λ cs. Begins (book (below (suc t) cs)) (y.site.seat j).now.log) (sym x.told)
        ((site_safe mask).holds_book x.site y.site x.run y.run j t (leads-there j t b)))

    from-newest : (j t : ℕ) → NoneAbove t (turned_in r) → Leads (seen mask j (k.box j)) t → Begins (book (turned_in r)) (seen mask j (k.box j)).log
    from-newest j t none b =
        subst (λ s. Begins (book (turned_in r)) s.log) (sym (there j))
        (subst (λ cs. Begins (book cs) (y.site.seat j).now.log) (sym x.told)
        ((site_safe mask).newest_holds x.site y.site x.run y.run j t (subst (NoneAbove t) x.told none) (leads-there j t b)))

    from-held : (i t : ℕ) → Leads (seen mask i (h.box i)) t → Begins (book (below t (turned_in (run_both r v)))) (seen mask i (h.box i)).log
    from-held i t a =
        subst (λ s. Begins (book (below t (turned_in (run_both r v)))) s.log) (sym (here i))
        (subst (λ cs. Begins (book (below t cs)) (x.site.seat i).now.log) (sym y.told)
        ((site_safe mask).held_book x.site y.site x.run y.run i t (leads-here i t a)))

-- **Demand 3 holds of every run of a host.**
pub hosts_safe : (mask : ℕ) → Demand3 (hosts mask)
hosts_safe mask =
    record {
      one_leader = λ p q r v. from-one_leader mask p r q v;
      one_book = λ p q r v i j t u a b. from-agree mask p r q v i j;
      makes_book = λ p q r v. from-makes_book mask p r q v;
      book_grows = λ p q r v. from-grows mask p r q v;
      book_begins = λ p r. from-begins mask p r;
      holds_before = λ p q r v. from-before mask p r q v;
      holds_after = λ p q r v. from-after mask p r q v;
      holds_book = λ p q r v. from-holds_book mask p r q v;
      newest_holds = λ p q r v. from-newest mask p r q v;
      held_book = λ p q r v. from-held mask p r q v;
      in_book = λ p r. from-in_book mask p r;
      boxes_agree = λ p q r v. from-agree mask p r q v;
      no_alarm = λ p r. from-no_alarm mask p r;
    }
