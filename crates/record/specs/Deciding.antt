-- What a decision says: the outcome that it stands for, and what whoever writes it down relies on. Assumes nothing.
use Rattle.std.specs.Prelude.{ℕ, ◌+◌, ◌-◌, ◌≤◌, ◌≡◌, Bool, true, List, [], ◌∷◌, ◌++◌, length, Result, MatchResult}
use Rattle.frames.specs.declared.Entry.{Entry}
use Rattle.frames.specs.Fields.{no_entry, listed}
use Rattle.frames.specs.Limits.{IsBox, log_limit, entry_limit}
use Rattle.frames.specs.Message.{Message, vote_answer, append_answer}
use Rattle.frames.specs.declared.refusal.Refusal.{Refusal}
use Rattle.frames.specs.Refusal.{number}
use Rattle.record.specs.declared.Record.{Record}
use Rattle.record.specs.declared.Send.{Send}
use Rattle.record.specs.declared.Decision.{Decision}
use Rattle.raft.specs.Record.{State, is_other}
use Rattle.raft.proofs.RecordLaws.{Good}
use Rattle.raft.specs.Sends.{append_to, vote_requests, appends}
use Rattle.raft.specs.Journal.{kept}
use Rattle.raft.specs.Outcome.{Outcome, done, refuse}
use Rattle.record.specs.Calls.{entries_of, with_entries}

-- The messages, from the next record.
unfoldable pub messages_of : Send → State → List Message
messages_of Send.Nothing t = []
messages_of Send.Requests t = vote_requests t
messages_of Send.Appends t = appends t
messages_of (Send.Append to) t = append_to t to ∷ []
messages_of (Send.VoteAnswer to reply) t = vote_answer t.me to t.term reply ∷ []
messages_of (Send.AppendAnswer to reply index) t = append_answer t.me to t.term reply index ∷ []

-- What is offered may be one entry, in the first of four places: a client's order, or a new leader's blank.
unfoldable pub one_entry : (term order : ℕ) → List Entry
one_entry term order = record { term = term; order = order } ∷ no_entry ∷ no_entry ∷ no_entry ∷ []

-- The next record's log: the entries that are kept, and behind them those of the offered ones that are new.
abbrev pub new_of : Decision → List Entry → List Entry
new_of d offered = listed offered d.first (d.count - d.first)

abbrev pub log_after : Decision → List Entry → List ℕ → List ℕ → List Entry
log_after d offered terms orders = entries_of terms orders 0 d.kept ++ new_of d offered

abbrev pub after : Decision → List Entry → List ℕ → List ℕ → State
after d offered terms orders = with_entries d.next (log_after d offered terms orders)

-- The outcome.
unfoldable pub decided : Decision → List Entry → List ℕ → List ℕ → Outcome
decided d offered terms orders = done (after d offered terms orders) (messages_of d.send (after d offered terms orders))

-- Another member.
pub record OtherBox (b : Record) (i : ℕ) : Type 0 where
  pub box : IsBox i
  pub other : is_other b.me b.members i ≡ true

-- A single append goes to another member.
unfoldable pub Aimed : Send → Record → Type 0
Aimed Send.Nothing b = Unit {0}
Aimed Send.Requests b = Unit {0}
Aimed Send.Appends b = Unit {0}
Aimed (Send.Append to) b = OtherBox b to
Aimed (Send.VoteAnswer to reply) b = Unit {0}
Aimed (Send.AppendAnswer to reply index) b = Unit {0}

-- A decision stands for an outcome at a box whose log has so many entries: "Kept = entries before the first cut or added one, or all".
pub record Decides (last : ℕ) (d : Decision) (offered : List Entry) (terms orders : List ℕ) (o : Outcome) : Type 0 where
  pub comes : decided d offered terms orders ≡ o
  pub low : d.kept ≤ last
  pub part : d.first ≤ d.count
  pub few : d.count ≤ entry_limit
  pub there : d.first ≤ d.kept
  pub held : d.count ≤ length offered
  pub sum : d.next.last ≡ d.kept + (d.count - d.first)
  pub room : d.next.last ≤ log_limit
  pub told : kept (entries_of terms orders 0 last) (log_after d offered terms orders) ≡ d.kept
  pub aimed : Aimed d.send d.next

-- An event that decides, or refuses: its decision stands for the outcome, or its refusal is the outcome.
abbrev pub DecidesOrRefuses : ℕ → Result Decision Refusal → List Entry → List ℕ → List ℕ → Outcome → Type 0
DecidesOrRefuses last r offered terms orders o = MatchResult r (λ d. Decides last d offered terms orders o) (λ e. refuse (number e) ≡ o)

-- What whoever finishes a step relies on: the log is lent whole, the decision stands for its outcome, and the next record is good.
pub record Sound (n : Record) (d : Decision) (offered : List Entry) (terms orders : List ℕ) : Type 0 where
  pub terms_long : length terms ≡ log_limit
  pub orders_long : length orders ≡ log_limit
  pub last : n.last ≤ log_limit
  pub decides : Decides n.last d offered terms orders (decided d offered terms orders)
  pub next_good : Good (after d offered terms orders)

-- The same where no entry is added, whatever was offered.
pub record AddsNone (n : Record) (d : Decision) (terms orders : List ℕ) : Type 0 where
  pub offered : List Entry
  pub sound : Sound n d offered terms orders
  pub none : d.first ≡ d.count

-- ---- changes of a struct

-- A struct becomes another by a change of its record that leaves the log alone.
pub record Becomes (b next : Record) (change : State → State) : Type 0 where
  pub state : (log : List Entry) → length log ≡ b.last → with_entries next log ≡ change (with_entries b log)
  pub last : next.last ≡ b.last

-- A number that is found in a record, whatever its log's entries are,
abbrev pub Found : Record → ℕ → (State → ℕ) → Type 0
Found b n look = (log : List Entry) → length log ≡ b.last → n ≡ look (with_entries b log)

-- and a test of it.
abbrev pub Tested : Record → Bool → (State → Bool) → Type 0
Tested b r test = (log : List Entry) → length log ≡ b.last → r ≡ test (with_entries b log)
