-- The history beside a run: what was asked, voted, won and acknowledged, the leaders' logs, and each box's present term and log. It is
-- bookkeeping; no box reads it. Then the facts of a history, from which alone the rest follows. Assumes nothing.
use Rattle.std.specs.Prelude.{ℕ, suc, ◌≤◌, ◌<◌, ◌≡◌, true, List, length, take}
use Rattle.frames.specs.declared.Entry.{Entry}
use Rattle.raft.specs.Newer.{as_new}
use Rattle.raft.specs.Record.{term_at}
use Rattle.history.specs.Begins.{Begins}
use Rattle.history.specs.Conf.{Agree, Extends}
use Rattle.history.specs.Alike.{Alike}
use Rattle.history.specs.InForce.{Rule, nearest, in_force}

-- `won t c B`: box c won term t with log B. `log t`: the leader's log of term t; it starts as B and only grows, by entries of term t.
pub record Leaders : Type 1 where
  pub won : (t c : ℕ) → List Entry → Type 0
  pub log : ℕ → List Entry

-- `asked t c B`: box c became candidate of term t with log B. `voted j t c`: box j gave its vote of term t to c. `granted j t c V`: it did
-- so while its own log was V and before c had won term t. `acked j t n`: box j said yes to index n, or a larger one, in term t; the
-- leader acks its own last index. `term j` and `log j`: where box j stands.
pub record History : Type 1 where
  pub asked : (t c : ℕ) → List Entry → Type 0
  pub voted : (j t c : ℕ) → Type 0
  pub granted : (j t c : ℕ) → List Entry → Type 0
  pub leaders : Leaders
  pub acked : (j t n : ℕ) → Type 0
  pub term : ℕ → ℕ
  pub log : ℕ → List Entry

-- ---- the words of the facts

-- Somebody won the term.
pub record Won (l : Leaders) (t : ℕ) : Type 0 where
  pub box : ℕ
  pub start : List Entry
  pub has : l.won t box start

-- The term of a log's last entry, 0 of an empty log.
abbrev pub last_of : List Entry → ℕ
last_of log = term_at log (length log)

-- The box granted to c with some log,
pub record Granted (granted : (j t c : ℕ) → List Entry → Type 0) (j t c : ℕ) : Type 0 where
  pub log : List Entry
  pub has : granted j t c log

-- and the log with which c had asked is at least as new.
pub record Fair (asked : (t c : ℕ) → List Entry → Type 0) (t c : ℕ) (own : List Entry) : Type 0 where
  pub log : List Entry
  pub has : asked t c log
  pub newer : as_new (length log) (last_of log) (length own) (last_of own) ≡ true

-- At index k: the entry's term was won, and the first k entries are the first k of that leader's log.
pub record Comes (l : Leaders) (log : List Entry) (k : ℕ) : Type 0 where
  pub won : Won l (term_at log k)
  pub begins : Begins (take k log) (l.log (term_at log k))

-- So it is at each index.
pub record Descends (l : Leaders) (log : List Entry) : Type 0 where
  pub at : (k : ℕ) → 1 ≤ k → k ≤ length log → Comes l log k

-- What a log may hold at most: no term above a bound.
pub record Within (bound : ℕ) (log : List Entry) : Type 0 where
  pub at : (k : ℕ) → 1 ≤ k → k ≤ length log → term_at log k ≤ bound

-- A won term's log: it begins with the log that won, and what it adds has the term itself.
pub record Leading (l : Leaders) (t : ℕ) (start : List Entry) : Type 0 where
  pub begins : Begins start (l.log t)
  pub added : (k : ℕ) → length start < k → k ≤ length (l.log t) → term_at (l.log t) k ≡ t

-- What is acknowledged is there.
pub record Reaches (l : Leaders) (t n : ℕ) : Type 0 where
  pub won : Won l t
  pub within : n ≤ length (l.log t)

-- A term above t and below a bound was won with a log that does not begin with the first n of t's.
pub record Lost (l : Leaders) (t n bound : ℕ) : Type 0 where
  pub term : ℕ
  pub above : t < term
  pub below : term < bound
  pub box : ℕ
  pub start : List Entry
  pub won : l.won term box start
  pub lacks : Begins (take n (l.log t)) start → ⊥

-- A log begins with the first n of t's, or such a term was won.
pub data Keeps (l : Leaders) (t n bound : ℕ) (log : List Entry) : Type 0 where
  kept : Begins (take n (l.log t)) log → Keeps l t n bound log
  lost : Lost l t n bound → Keeps l t n bound log

-- The log of t's leader up to an index.
abbrev pub first_of : History → ℕ → ℕ → List Entry
first_of h t n = take n (h.leaders.log t)

-- (t, n) is committed, with m entries in the log of t's leader: the entry at n has term t, and those who agree under the configuration in force at m
-- acknowledged it.
pub record Committed (rule : Rule) (h : History) (t n m : ℕ) : Type 0 where
  pub least : 1 ≤ n
  pub within : n ≤ m
  pub reach : m ≤ length (h.leaders.log t)
  pub own : term_at (h.leaders.log t) n ≡ t
  pub agree : Agree (in_force rule (h.leaders.log t) m) (λ j. h.acked j t n)

-- What term u committed with m entries came before entry k + 1 of term t.
pub data Before (u m t k : ℕ) : Type 0 where
  lower : u < t → Before u m t k
  sooner : u ≡ t → m ≤ k → Before u m t k

-- Index p of a log is the start, or was committed before entry k + 1 of term t.
pub data Settled (rule : Rule) (h : History) (t k p : ℕ) (log : List Entry) : Type 0 where
  none : p ≡ 0 → Settled rule h t k p log
  by : {u n m : ℕ} → Committed rule h u n m → p ≤ n → Alike p log (h.leaders.log u) → Before u m t k → Settled rule h t k p log

-- Entry k + 1 of a log, of term t, is a configuration that may be there.
pub record Follows (rule : Rule) (h : History) (t k : ℕ) (log : List Entry) : Type 0 where
  pub extends : Extends (in_force rule log k) (in_force rule log (suc k))
  pub settled : Settled rule h t k (nearest rule log k) log

-- In a leader's log, from the log that won on, each is so.
pub record Chained (rule : Rule) (h : History) (t : ℕ) (start log : List Entry) : Type 0 where
  pub at : (k : ℕ) → length start ≤ k → k < length log → nearest rule log (suc k) ≡ suc k → Follows rule h t k log

-- What a box keeps when it votes for c in term s: as `Keeps`, or somebody else won term s itself without it.
pub data Retains (l : Leaders) (t n s c : ℕ) (log : List Entry) : Type 0 where
  retains : Keeps l t n s log → Retains l t n s c log
  beaten : (d : ℕ) (start : List Entry) → l.won s d start → (d ≡ c → ⊥) → (Begins (take n (l.log t)) start → ⊥) → Retains l t n s c log

-- ---- the facts

pub record Facts (rule : Rule) (h : History) : Type 0 where
  pub one_vote : (j t c d : ℕ) → h.voted j t c → h.voted j t d → c ≡ d
  pub granted_voted : (j t c : ℕ) (log : List Entry) → h.granted j t c log → h.voted j t c
  pub asked_once : (t c : ℕ) (log other : List Entry) → h.asked t c log → h.asked t c other → log ≡ other
  pub asked_descends : (t c : ℕ) (log : List Entry) → h.asked t c log → Descends h.leaders log
  pub asked_below : (t c : ℕ) (log : List Entry) → h.asked t c log → (k : ℕ) → 1 ≤ k → k ≤ length log → term_at log k < t
  pub fair : (j t c : ℕ) (log : List Entry) → h.granted j t c log → Fair h.asked t c log
  pub won_asked : (t c : ℕ) (start : List Entry) → h.leaders.won t c start → h.asked t c start
  pub won_once : (t c d : ℕ) (start other : List Entry) → h.leaders.won t c start → h.leaders.won t d other → c ≡ d
  pub winning : (t c : ℕ) (start : List Entry) → h.leaders.won t c start
      → Agree (in_force rule start (length start)) (λ j. Granted h.granted j t c)
  pub leading : (t c : ℕ) (start : List Entry) → h.leaders.won t c start → Leading h.leaders t start
  pub granted_descends : (j t c : ℕ) (log : List Entry) → h.granted j t c log → Descends h.leaders log
  pub descends : (j : ℕ) → Descends h.leaders (h.log j)
  pub within : (j : ℕ) → Within (h.term j) (h.log j)
  pub reaches : (j t n : ℕ) → h.acked j t n → Reaches h.leaders t n
  pub lower : (j t n m : ℕ) → h.acked j t n → m ≤ n → h.acked j t m
  pub keeping : (j t n s c : ℕ) (log : List Entry) → h.acked j t n → h.granted j s c log → t < s → Retains h.leaders t n s c log
  pub keeps : (j t n : ℕ) → h.acked j t n → Keeps h.leaders t n (suc (h.term j)) (h.log j)
  pub asked_reached : (t c : ℕ) (log : List Entry) → h.asked t c log → t ≤ h.term c
  pub voted_reached : (j t c : ℕ) → h.voted j t c → t ≤ h.term j
  pub acked_reached : (j t n : ℕ) → h.acked j t n → t ≤ h.term j
  -- "A change while the last configuration is joint or uncommitted is refused"; the new one is added once "a leader's commit covers the joint entry"
  pub chain : (t c : ℕ) (start : List Entry) → h.leaders.won t c start → Chained rule h t start (h.leaders.log t)
