-- The laws of the book: where all that was written is covered by a history, it is one book, which only grows. Assumes nothing.
use Rattle.std.specs.Prelude.{ℕ, suc, ◌≡◌, refl, true, false, ltb, length}
use Rattle.std.proofs.Common.{arith, ap, ◌∙◌, inl, inr, eq-eqb, ltb-true, ltb-false}
use mathlib.Core.List.Memᴰ
use mathlib.Core.List.{List, [], ◌∷◌}
use Rattle.frames.specs.declared.Entry.{Entry}
use Rattle.raft.specs.Record.{leader, handed_out}
use Rattle.raft.proofs.CommitLaws.{by_test}
use Rattle.history.specs.Begins.{Begins, OneBegins}
use Rattle.history.specs.BeginsLaws.{begins-long, begins_self, begins_trans, begins-whole}
use Rattle.history.specs.InForce.{Rule}
use Rattle.history.specs.History.{History, Facts}
use Rattle.history.proofs.Book.{Covered, nothing, covered_less, one_book}
use Rattle.history.proofs.Later.{Later, covered-later}
use Rattle.safety.specs.Book.{Change, by_leader, writes, longer, book, below, NoneAbove}

-- ---- the longer of two

-- It is one of them;
pub longer_either : (P : List Entry → Type 0) (a b : List Entry) → P a → P b → P (longer a b)
unfolding longer
longer_either P a b p q = by_test P (ltb (length a) (length b)) b a (λ e. q) (λ e. p)

-- and where one of two begins the other, both begin the longer.
pub longer-first : {a b : List Entry} → OneBegins a b → Begins a (longer a b)
unfolding longer
longer-first {a} {b} x = by_test (Begins a) (ltb (length a) (length b)) b a (λ e. go e x) (λ e. begins_self a)
  where
    go : ltb (length a) (length b) ≡ true → OneBegins a b → Begins a b
    go e (inl y) = y
    go e (inr y) = absurd (omega (arith, begins-long y, ltb-true (length a) (length b) e))

pub longer-second : {a b : List Entry} → OneBegins a b → Begins b (longer a b)
unfolding longer
longer-second {a} {b} x = by_test (Begins b) (ltb (length a) (length b)) b a (λ e. begins_self b) (λ e. go e x)
  where
    go : ltb (length a) (length b) ≡ false → OneBegins a b → Begins b a
    go e (inl y) = rw (begins-whole y (omega (arith, ltb-false (length a) (length b) e))) (begins_self b)
    go e (inr y) = y

-- ---- what moves write

-- What a box that leads behind a move hands out, it has written.
pub leader-writes : (c : Change) → c.behind.role ≡ leader → writes c ≡ handed_out c.behind
unfolding writes by_leader
leader-writes c e = rw (eq-eqb c.behind.role leader e)

-- What a move writes is what its box hands out, or nothing.
pub writes_either : (P : List Entry → Type 0) (c : Change) → P (handed_out c.behind) → P [] → P (writes c)
unfolding writes
writes_either P c p q = by_test P (by_leader c) (handed_out c.behind) [] (λ e. p) (λ e. q)

-- Nothing more is not longer,
longer-nothing : (log : List Entry) → log ≡ longer log []
unfolding longer
longer-nothing log = by_test (λ x. log ≡ x) (ltb (length log) 0) [] log (λ h. absurd (omega (arith, ltb-true (length log) 0 h))) (λ h. refl)

-- so a move that is no leader's leaves the book,
nothing_written : (c : Change) (log : List Entry) → (by_leader c ≡ true → ⊥) → log ≡ longer log (writes c)
unfolding writes
nothing_written c log none =
    by_test (λ x. log ≡ longer log x) (by_leader c) (handed_out c.behind) [] (λ e. absurd (none e)) (λ e. longer-nothing log)

-- and so does one behind which nothing is handed out.
pub book_silent : (c : Change) (log : List Entry) → handed_out c.behind ≡ [] → log ≡ longer log (writes c)
book_silent c log e = writes_either (λ x. log ≡ longer log x) c (rw e (longer-nothing log)) (longer-nothing log)

-- What moves have written is covered in the history, each by a term up to its own.
unfoldable pub Wrote : Rule → History → List Change → Type 0
Wrote rule h [] = Unit {0}
Wrote rule h (c ∷ earlier) = Covered rule h c.behind.term (writes c) × Wrote rule h earlier

-- Where all that a box hands out is covered, so is what it writes;
pub covered-writes : {rule : Rule} {h : History} (c : Change) → Covered rule h c.behind.term (handed_out c.behind)
    → Covered rule h c.behind.term (writes c)
covered-writes {rule} {h} c x = writes_either (Covered rule h c.behind.term) c x (nothing refl)

-- and it stays so.
pub wrote-later : {rule : Rule} {h more : History} (cs : List Change) → Facts rule h → Later h more → Wrote rule h cs → Wrote rule more cs
unfolding Wrote
wrote-later [] f l w = tt
wrote-later (c ∷ cs) f l w = (covered-later f l w.0, wrote-later cs f l w.1)

-- ---- the book

-- The book of some terms is covered by the highest of them,
pub below-covered : {rule : Rule} {h : History} (t : ℕ) (cs : List Change) → Wrote rule h cs → Covered rule h t (book (below (suc t) cs))
unfolding book below Wrote
below-covered t [] w = nothing refl
below-covered {rule} {h} t (c ∷ cs) w =
    let rest = below-covered t cs w.1 in
    by_test (λ x. Covered rule h t (book x)) (ltb c.behind.term (suc t)) (c ∷ below (suc t) cs) (below (suc t) cs)
    (λ e. longer_either (Covered rule h t) (book (below (suc t) cs)) (writes c) rest
    (covered_less w.0 (writes c) (begins_self _) t (omega (arith, ltb-true c.behind.term (suc t) e))))
    (λ e. rest)

-- (no term is below 0)
pub below-nothing : (cs : List Change) → book (below 0 cs) ≡ []
unfolding book below
below-nothing [] = refl
below-nothing (c ∷ cs) =
    by_test (λ x. book x ≡ []) (ltb c.behind.term 0) (c ∷ below 0 cs) (below 0 cs) (λ e. absurd (omega (arith, ltb-true c.behind.term 0 e)))
    (λ e. below-nothing cs)

-- (above the highest term of a leader there is nothing more)
pub below_all : (t : ℕ) (cs : List Change) → NoneAbove t cs → book (below (suc t) cs) ≡ book cs
unfolding book below
below_all t [] none = refl
below_all t (c ∷ cs) none =
    let rest = below_all t cs (λ d m. none d (Memᴰ.tail m)) in
    by_test (λ x. book x ≡ longer (book cs) (writes c)) (ltb c.behind.term (suc t)) (c ∷ below (suc t) cs) (below (suc t) cs)
    (λ e. ap (λ b. longer b (writes c)) rest)
    (λ e. rest ∙ nothing_written c (book cs) (λ h. omega (arith, ltb-false c.behind.term (suc t) e, none c (Memᴰ.head refl) h)))

-- and the whole book by some term.
record SomeTerm (rule : Rule) (h : History) (log : List Entry) : Type 0 where
  bound : ℕ
  covered : Covered rule h bound log

book-covered : {rule : Rule} {h : History} (cs : List Change) → Wrote rule h cs → SomeTerm rule h (book cs)
unfolding book Wrote
book-covered [] w = record { bound = 0; covered = nothing refl }
book-covered {rule} {h} (c ∷ cs) w =
    longer_either (SomeTerm rule h) (book cs) (writes c) (book-covered cs w.1) (record { bound = c.behind.term; covered = w.0 })

module _ {rule : Rule} {h : History} (f : Facts rule h) where
  -- What is covered, and the book, are of one book.
  book_agrees : {bound : ℕ} {log : List Entry} (cs : List Change) → Wrote rule h cs → Covered rule h bound log → OneBegins (book cs) log
  book_agrees cs w x = one_book f (book-covered cs w).covered x

  -- **So the book only grows by a move,**
  pub book_more : (c : Change) (cs : List Change) → Wrote rule h (c ∷ cs) → Begins (book cs) (book (c ∷ cs))
  unfolding book Wrote
  book_more c cs w = longer-first (book_agrees cs w.1 w.0)

  -- **holds what was written by it,**
  pub book-has : (c : Change) (cs : List Change) → Wrote rule h (c ∷ cs) → Begins (writes c) (book (c ∷ cs))
  unfolding book Wrote
  book-has c cs w = longer-second (book_agrees cs w.1 w.0)

  -- **and begins with what was committed in some terms.**
  pub book-below : (bound : ℕ) (cs : List Change) → Wrote rule h cs → Begins (book (below bound cs)) (book cs)
  unfolding book below Wrote
  book-below bound [] w = begins_self []
  book-below bound (c ∷ cs) w =
      let rest = begins_trans (book-below bound cs w.1) (book_more c cs w) in
      by_test (λ x. Begins (book x) (book (c ∷ cs))) (ltb c.behind.term bound) (c ∷ below bound cs) (below bound cs)
      (λ e. longer_either (λ x. Begins x (book (c ∷ cs))) (book (below bound cs)) (writes c) rest (book-has c cs w)) (λ e. rest)
