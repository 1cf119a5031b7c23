-- What opening gives: a good record, a follower with commit 0, of the box asked for; and the bytes up to and with the last line feed.
-- Assumes nothing.
use Rattle.std.specs.Prelude.{ℕ, suc, ◌+◌, ◌≤◌, ◌≡◌, refl, Bool, true, false, cond, ◌&&◌, List, [], ◌∷◌, eqb, leb, length}
use Rattle.std.proofs.Common.{arith, sym, ◌∙◌, length-append, length-take, eqb-true, leb-true, eq-eqb, le-leb}
use Rattle.std.proofs.Math.Path.{ap}
use Rattle.digits.specs.Tests.{and_left, and_right}
use Rattle.frames.specs.Clauses.{four}
use Rattle.frames.specs.Limits.{log_limit, entry_limit}
use Rattle.frames.specs.Message.{IsSized}
use Rattle.frames.specs.Rules.{in_order}
use Rattle.raft.specs.Record.{State, follower, last_index, fresh, is_membership, is_vote, is_role, are_votes, is_progress, sends_to, good}
use Rattle.raft.specs.Journal.{head, Line}
use Rattle.raft.proofs.RecordLaws.{Good, good-facts, facts-good, fresh-good}
use Rattle.raft.proofs.StepLaws.{in_order-later, none-of_box}
use Rattle.raft.proofs.SendLaws.{All}
use Rattle.raft.proofs.FitLaws.{all_take, OrderFits, Fits}
use Rattle.raft.proofs.ReceiveLaws.{in_order-behind}
use Rattle.raft.proofs.ReceiveSends.{orders-sized, all_both}
use Rattle.journal.specs.Lines.{lines, whole_bytes, box_in, mask_in, head_shaped, line_shaped, line_in}
use Rattle.journal.proofs.LineSpelling.{line_fields, line-sized, head_exactly}
use Rattle.journal.specs.Opening.{restarted, is_of_box, term_holds, vote_is, vote_stays, kept_holds, count_holds, entries_hold, allows}
use Rattle.journal.specs.Opening.{after, Replayed, next, breaks, replayed, opened, headless, broken, go_on, replay, is_head, open_lines, opening}

-- ---- the rules of a line as facts

-- What the rules say of a line behind a record.
pub record Allowed (s : State) (l : Line) : Type 0 where
  pub box : l.box ≡ s.me
  pub least : 1 ≤ l.term
  pub rises : s.term ≤ l.term
  pub vote : is_vote s.members l.vote ≡ true
  pub stays : vote_stays s l ≡ true
  pub kept : l.kept ≤ last_index s
  pub room : l.kept + length l.entries ≤ log_limit
  pub few : length l.entries ≤ entry_limit
  pub order : entries_hold s l ≡ true

-- They say this,
pub allowed-facts : (s : State) (l : Line) → allows s l ≡ true → Allowed s l
unfolding allows
allowed-facts s l h =
    let b = four (is_of_box s l && term_holds s l && vote_is s l && vote_stays s l) (kept_holds s l) (count_holds l) (entries_hold s l) h in
    let a = four (is_of_box s l) (term_holds s l) (vote_is s l) (vote_stays s l) b.0 in
    record {
      box = eqb-true _ _ a.0;
      least = leb-true _ _ (and_left (leb 1 l.term) _ a.1);
      rises = leb-true _ _ (and_right (leb 1 l.term) _ a.1);
      vote = a.2;
      stays = a.3;
      kept = leb-true _ _ b.1;
      room = leb-true _ _ (and_left (leb (l.kept + length l.entries) log_limit) _ b.2);
      few = leb-true _ _ (and_right (leb (l.kept + length l.entries) log_limit) _ b.2);
      order = b.3;
    }

-- and no more.
pub facts-allowed : (s : State) (l : Line) → Allowed s l → allows s l ≡ true
unfolding allows
facts-allowed s l a =
    rw (
      eq-eqb _ _ a.box,
      le-leb _ _ a.least,
      le-leb _ _ a.rises,
      a.vote,
      a.stays,
      le-leb _ _ a.kept,
      le-leb _ _ a.room,
      le-leb _ _ a.few,
      a.order,
    )

-- ---- a restart

-- Where the stored part keeps its rules, a record of it alone is good;
pub good-stored : (s : State) → is_membership s.me s.members ≡ true → is_vote s.members s.vote ≡ true
    → length s.log ≤ log_limit → in_order 0 s.term s.log ≡ true → Good (restarted s)
unfolding restarted is_role are_votes is_progress sends_to
good-stored s m v r o =
    record {
      membership = m;
      vote = v;
      room = r;
      order = o;
      commit = omega arith;
      role = refl;
      votes = refl;
      sent = λ i l h. rw (none-of_box i l h);
    }

-- so a good record is good after a restart,
pub restarted-good : (s : State) → Good s → Good (restarted s)
restarted-good s g = good-stored s g.membership g.vote g.room g.order

-- and one that fits its types fits them.
pub restarted-fits : (s : State) → Fits s → Fits (restarted s)
unfolding restarted
restarted-fits s f = record { term = f.term; orders = f.orders }

-- A second restart changes nothing.
pub restarted-twice : (s : State) → restarted (restarted s) ≡ restarted s
unfolding restarted
restarted-twice s = refl

-- A fresh box is as after a restart.
pub fresh-restarted : (me members : ℕ) → restarted (fresh me members) ≡ fresh me members
unfolding restarted fresh
fresh-restarted me members = refl

-- A fresh box fits its types.
pub fresh-fits : (me members : ℕ) → Fits (fresh me members)
unfolding fresh All
fresh-fits me members = record { term = omega arith; orders = tt }

-- ---- one line

-- What a line comes to that breaks no rule.
pub record Goes (s : State) (bytes : List ℕ) (t : State) : Type 0 where
  pub shaped : line_shaped bytes ≡ true
  pub allowed : Allowed s (line_in bytes)
  pub is : after s (line_in bytes) ≡ t

-- Such a line is of a line's form and allowed.
pub replayed-goes : (s : State) (bytes : List ℕ) (t : State) → replayed s bytes ≡ next t → Goes s bytes t
unfolding replayed
replayed-goes s bytes t h = go (line_shaped bytes && allows s (line_in bytes)) refl h
  where
    go : (b : Bool) → (line_shaped bytes && allows s (line_in bytes)) ≡ b → cond b (next (after s (line_in bytes))) breaks ≡ next t → Goes s bytes t
    go true p e =
        record {
          shaped = and_left (line_shaped bytes) _ p;
          allowed = allowed-facts s (line_in bytes) (and_right (line_shaped bytes) _ p);
          is = cc;
        }
    go false p e = absurd (let never : ◌≡◌ {A = ℕ} 0 1 = cc in omega arith)

-- What is kept of a good record of a stored part alone, by every line.
pub record Sound (me members : ℕ) (s : State) : Type 0 where
  pub whole : Good s
  pub fits : Fits s
  pub bare : restarted s ≡ s
  pub mine : s.me ≡ me
  pub ours : s.members ≡ members

-- A line that is allowed leaves the record good,
pub after-good : (s : State) (l : Line) → Good s → Allowed s l → Good (after s l)
unfolding after
after-good s l g a =
    good-stored _ g.membership a.vote
    (simp (length-append, length-take) (omega (arith, a.room, a.kept)))
    (in_order-behind l.term s.log l.kept l.entries a.kept
    (in_order-later 0 s.term l.term s.log a.rises g.order) a.order)

-- and within its types, where its own numbers fit their fields.
pub after-fits : (s : State) (l : Line) → Fits s → IsSized (line_fields l) → Fits (after s l)
unfolding after restarted IsSized
after-fits s l f z =
    let (version, (kind, (box, (term, (vote, (kept, (count, entries))))))) = z in
    record {
      term = term;
      orders = all_both OrderFits _ _ (all_take OrderFits l.kept s.log f.orders) (orders-sized l.entries entries);
    }

-- So a line that is replayed keeps all of this.
pub replayed-sound : (me members : ℕ) (s : State) (bytes : List ℕ) (t : State) → Sound me members s → replayed s bytes ≡ next t → Sound me members t
unfolding after restarted
replayed-sound me members s bytes t a h =
    let g = replayed-goes s bytes t h in
    rw (← g.is)
    (record {
      whole = after-good s (line_in bytes) a.whole g.allowed;
      fits = after-fits s (line_in bytes) a.fits (line-sized bytes g.shaped);
      bare = refl;
      mine = a.mine;
      ours = a.ours;
    })

-- ---- all lines

-- A line that is replayed is followed by those behind it,
pub replay-next : (bytes : ℕ) (s : State) (number : ℕ) (line : List ℕ) (ls : List (List ℕ)) (t : State) → replayed s line ≡ next t
    → replay bytes s number (line ∷ ls) ≡ replay bytes t (suc number) ls
unfolding replay go_on
replay-next bytes s number line ls t h = rw h

-- and the first that breaks a rule is the last that is looked at.
pub replay-stops : (bytes : ℕ) (s : State) (number : ℕ) (line : List ℕ) (ls : List (List ℕ)) → replayed s line ≡ breaks
    → replay bytes s number (line ∷ ls) ≡ broken number
unfolding replay go_on
replay-stops bytes s number line ls h = rw h

-- What each line that is replayed keeps, all keep; and the count of the bytes is the one that was given.
pub replay-keeps : (P : State → Type 0) → ((s : State) (line : List ℕ) (t : State) → P s → replayed s line ≡ next t → P t)
    → (bytes : ℕ) (s : State) (number : ℕ) (ls : List (List ℕ)) (t : State) (n : ℕ) → P s → replay bytes s number ls ≡ opened t n
    → P t × (n ≡ bytes)
unfolding replay go_on
replay-keeps P each bytes s number [] t n p h =
    let same : s ≡ t = cc in
    (rw (← same) p, cc)
replay-keeps P each bytes s number (l ∷ ls) t n p h =
    go (replayed s l) refl h (λ u. replay-keeps P each bytes u (suc number) ls t n)
  where
    go : (r : Replayed) → replayed s l ≡ r → go_on r (λ u. replay bytes u (suc number) ls) number ≡ opened t n
        → ((u : State) → P u → replay bytes u (suc number) ls ≡ opened t n → P t × (n ≡ bytes)) → P t × (n ≡ bytes)
    go (next u) e q rest = rest u (each s l u p e) q
    go breaks e q rest = absurd (let never : ◌≡◌ {A = ℕ} 0 1 = cc in omega arith)

-- ---- the head

-- A line that is the head of the box asked for is the text of one, for a membership.
pub is_head_exactly : (me : ℕ) (line : List ℕ) → is_head me line ≡ true → (head me (mask_in line) ≡ line) × (is_membership me (mask_in line) ≡ true)
unfolding is_head
is_head_exactly me line h =
    let t = four true (head_shaped line) (eqb (box_in line) me) _ h in
    (ap (λ (b : ℕ). head b (mask_in line)) (sym (eqb-true _ _ t.2)) ∙ head_exactly line t.1, t.3)

-- What opening comes to that is not refused: the first line is the head of the box asked for, and the others are replayed from its fresh box.
pub record Begins (me : ℕ) (bytes : List ℕ) (s : State) (n : ℕ) : Type 0 where
  pub mask : ℕ
  pub behind : List (List ℕ)
  pub member : is_membership me mask ≡ true
  pub is : lines bytes ≡ head me mask ∷ behind
  pub rest : replay (whole_bytes bytes) (fresh me mask) 2 behind ≡ opened s n

-- Opening says this.
pub opening-begins : (me : ℕ) (bytes : List ℕ) (s : State) (n : ℕ) → opening me bytes ≡ opened s n → Begins me bytes s n
unfolding opening open_lines
opening-begins me bytes s n h = go (lines bytes) refl h
  where
    headed : (line : List ℕ) (ls : List (List ℕ)) → lines bytes ≡ line ∷ ls → (b : Bool) → is_head me line ≡ b
        → cond b (replay (whole_bytes bytes) (fresh me (mask_in line)) 2 ls) headless ≡ opened s n → Begins me bytes s n
    headed line ls e true p q =
        let h = is_head_exactly me line p in
        record { mask = mask_in line; behind = ls; member = h.1; is = rw h.0 e; rest = q }
    headed line ls e false p q = absurd (let never : ◌≡◌ {A = ℕ} 0 1 = cc in omega arith)

    go : (ls : List (List ℕ)) → lines bytes ≡ ls → open_lines me (whole_bytes bytes) ls ≡ opened s n → Begins me bytes s n
    go [] e q = absurd (let never : ◌≡◌ {A = ℕ} 0 1 = cc in omega arith)
    go (line ∷ ls) e q = headed line ls e _ refl q

-- A fresh box of a membership keeps what every line keeps.
pub fresh-sound : (me mask : ℕ) → is_membership me mask ≡ true → Sound me mask (fresh me mask)
unfolding fresh
fresh-sound me mask m =
    record {
      whole = good-facts _ (fresh-good me mask m);
      fits = fresh-fits me mask;
      bare = fresh-restarted me mask;
      mine = refl;
      ours = refl;
    }

module _ (me : ℕ) (bytes : List ℕ) (s : State) (n : ℕ) (h : opening me bytes ≡ opened s n) where
  -- what the lines behind the head come to
  ends : Sound me (opening-begins me bytes s n h).mask s × (n ≡ whole_bytes bytes)
  ends =
      let b = opening-begins me bytes s n h in
      replay-keeps (Sound me b.mask) (replayed-sound me b.mask) (whole_bytes bytes) (fresh me b.mask) 2 b.behind s n
      (fresh-sound me b.mask b.member) b.rest

  -- What is opened is a record of the box asked for, good, within its types, and as after a restart: a follower, commit 0.
  pub opened-sound : Sound me s.members s
  opened-sound = let e = ends.0 in record { whole = e.whole; fits = e.fits; bare = e.bare; mine = e.mine; ours = refl }

  -- So it is a good record,
  pub opened-good : good s ≡ true
  opened-good = facts-good s opened-sound.whole

  -- as after a restart,
  pub opened-restarted : restarted s ≡ s
  opened-restarted = opened-sound.bare

  -- a follower with commit 0,
  pub opened-follows : (s.role ≡ follower) × (s.commit ≡ 0)
  unfolding restarted
  opened-follows = (ap (λ (t : State). t.role) (sym opened-restarted), ap (λ (t : State). t.commit) (sym opened-restarted))

  -- and the number of bytes is fixed: up to and with the last line feed.
  pub opened-bytes : n ≡ whole_bytes bytes
  opened-bytes = ends.1
