-- What no call answers in a host's run: 6, 7, 8 and 12; 5 where room enough is lent; of openings 10. Assumes nothing.
use Rattle.std.specs.Prelude.{ℕ, ◌≤◌, ◌<◌, ◌≡◌, refl, Bool, true, false, cond, List, ◌⊎◌, length, Ok, Err}
use Rattle.std.proofs.Common.{arith, sym, ap, ◌∙◌, true≢false, inl, inr, length-take, le-ltb}
use Rattle.frames.specs.Message.{Message}
use Rattle.raft.specs.Record.{State, good}
use Rattle.raft.specs.Journal.{head, journaled}
use Rattle.raft.specs.Sends.{texts}
use Rattle.raft.specs.Outcome.{Outcome, done, refuse}
use Rattle.raft.specs.Event.{Event, step}
use Rattle.journal.specs.Opening.{opening}
use Rattle.journal.specs.Longest.{longest_line, longest_messages}
use Rattle.journal.proofs.LongestLaws.{step-longest}
use Rattle.safety.specs.Park.{Comes}
use Rattle.safety.specs.Disks.{Site, built, Goes}
use Rattle.safety.proofs.Demand3.{site_safe}
use Rattle.record.specs.declared.Record.{Record}
use Rattle.record.specs.Calls.{Called, untouched, fit, written, run, call}
use Rattle.record.specs.ExactlyWhen.{Asked, no_frame, state, overflows, breaks_a_rule}
use Rattle.record.specs.ExactlyWhenLaws.{given_exactly_when}
use Rattle.opening.specs.declared.Opened.{Opened}
use Rattle.opening.specs.declared.Unopened.TheVariants.{NoHead}
use Rattle.host.specs.Host.{Running, Box, on, off, Call, Opening}
use Rattle.host.specs.CallLaws.{record_of_box, asked, answered, open_found, open_headless}
use Rattle.host.specs.HeadLaws.{torn-headless}
use Rattle.host.specs.HostStands.{Runs, Stands}
use Rattle.host.proofs.SeenLaws.{runs_good}

-- ---- what a number says of the step

-- Any number but 0 and 5 is the step's own.
told-refusal : (o : Outcome) (b : Record) (terms orders journal messages : List ℕ) (n : ℕ) → (n ≡ 0 → ⊥) → (n ≡ 5 → ⊥)
    → (run o b terms orders journal messages).answer.refusal ≡ n → o ≡ refuse n
unfolding run written
told-refusal (done t sent) b terms orders journal messages n z f = go (fit _ (texts sent) journal messages) _ refl
  where
    go : (c : Bool) (x : Called) → x.answer.refusal ≡ 0 → (cond c x (untouched 5 b terms orders journal messages)).answer.refusal ≡ n → done t sent ≡ refuse n
    go true x e p = absurd (z (sym p ∙ e))
    go false x e p = absurd (f (sym p))
told-refusal (refuse m) b terms orders journal messages n z f = λ p. ap refuse p

call-refusal : (e : Event) (b : Running) (journal messages : List ℕ) → good (record_of_box b) ≡ true → (n : ℕ) → (n ≡ 0 → ⊥) → (n ≡ 5 → ⊥)
    → (call e b.node.state b.terms b.orders journal messages).answer.refusal ≡ n → step e (record_of_box b) ≡ refuse n
unfolding call
call-refusal e b journal messages g n z f p =
    told-refusal (step e (record_of_box b)) b.node.state b.terms b.orders journal messages n z f (rw g at p)

-- ---- at a box that runs

-- A good record is not answered 12,
no_12 : {network : List (List ℕ)} {b : Running} (c : Call network b) → good (record_of_box b) ≡ true → c.answer.refusal ≡ 12 → ⊥
no_12 c g e =
    let broken = ((given_exactly_when (asked c)).row_12.only (answered c 12 e)).holds in
    true≢false (sym (rw g at broken))

-- and room for the longest line and the longest messages is always enough.
roomy : (a : Asked) (o : Outcome) → ((t : State) (ms : List Message) → o ≡ done t ms → (length (journaled (state a) t) ≤ length a.journal) × (length (texts ms) ≤ length a.messages))
    → overflows a o ≡ false
roomy a (done t ms) f = rw (le-ltb _ _ (f t ms refl).0, le-ltb _ _ (f t ms refl).1)
roomy a (refuse n) f = refl

-- So 5 is not answered.
pub no_5 : {network : List (List ℕ)} {b : Running} (c : Call network b) → good (record_of_box b) ≡ true
    → longest_line ≤ length c.journal → longest_messages ≤ length c.messages → c.answer.refusal ≡ 5 → ⊥
no_5 {b = b} c g l m e =
    let long = ((given_exactly_when (asked c)).row_5.only (answered c 5 e)).holds in
    let fits = roomy (asked c) (step c.event (record_of_box b)) (λ t ms o. let most = step-longest c.event (record_of_box b) g t ms o in
    (omega (arith, most.line, l), omega (arith, most.sent, m))) in
    true≢false (sym long ∙ fits)

-- No alarm sounds, and no record is found bad.
pub no_alarm : (mask : ℕ) (a : Site) → Goes mask (built mask) a → (i : ℕ) (b : Running) → Runs mask i b (a.seat i) → (c : Call a.sent b)
    → (c.answer.refusal ≡ 6 → ⊥) × (c.answer.refusal ≡ 7 → ⊥) × (c.answer.refusal ≡ 8 → ⊥) × (c.answer.refusal ≡ 12 → ⊥)
no_alarm mask a g i b r c = (
  λ e. (told 6 (λ z. omega arith) (λ z. omega arith) e).0 refl,
  λ e. (told 7 (λ z. omega arith) (λ z. omega arith) e).1 refl,
  λ e. (told 8 (λ z. omega arith) (λ z. omega arith) e).2 refl,
  no_12 c sound,
)
  where
    sound : good (record_of_box b) ≡ true
    sound = runs_good mask a g i b r

    -- bytes that are not one frame are answered 1
    noise : no_frame c.event ≡ true → c.answer.refusal ≡ 1
    noise h =
        let kept : breaks_a_rule (asked c) ≡ false = rw sound in
        ap (λ (x : Called). x.answer.refusal) c.contract ∙ (given_exactly_when (asked c)).row_1.when (record { holds = h; before = (kept, tt) })

    told : (n : ℕ) → (n ≡ 0 → ⊥) → (n ≡ 5 → ⊥) → c.answer.refusal ≡ n → (n ≡ 6 → ⊥) × (n ≡ 7 → ⊥) × (n ≡ 8 → ⊥)
    told n z f e = go c.comes
      where
        go : Comes a.sent c.event ⊎ (no_frame c.event ≡ true) → (n ≡ 6 → ⊥) × (n ≡ 7 → ⊥) × (n ≡ 8 → ⊥)
        go (inl came) =
            (site_safe mask).no_alarm a g i c.event came n
            (ap (step c.event) r.now ∙ call-refusal c.event b c.journal c.messages sound n z f (answered c n e))
        go (inr h) =
            let one : n ≡ 1 = sym e ∙ noise h in
            (λ q. omega (arith, one, q), λ q. omega (arith, one, q), λ q. omega (arith, one, q))

-- ---- at one that is off

-- A file opens, or there is less than a head on it.
pub opens-or-not : (mask i : ℕ) (disk : List ℕ) (x : Box) (a : Site) → x ≡ off disk → Stands mask i x (a.seat i) → (c : Opening i disk)
    → ((found : Opened) × (c.answer ≡ Ok found)) ⊎ ((c.answer ≡ Err NoHead) × (length disk < length (head i mask)))
opens-or-not mask i disk (on b) a e s c = absurd (let never : ◌≡◌ {A = ℕ} 0 1 = cc in omega arith)
opens-or-not mask i disk (off other) a e (inl d) c =
    let same : other ≡ disk = cc in
    let found = open_found c _ _ (rw same at d.opens) in
    inl (found.0, found.1)
opens-or-not mask i disk (off other) a e (inr u) c =
    let same : other ≡ disk = cc in
    let torn = sym same ∙ u.torn in
    inr (
      open_headless c (ap (opening i) torn ∙ torn-headless i mask u.count u.short),
      omega (arith, ap length torn, length-take u.count (head i mask), u.short),
    )
