-- What is seen of a host's boxes, by the struct's fields, the lent arrays and the calls' answers: who leads, what a box's log is, what it hands out; and a host's runs as
-- demand 3 speaks of runs (`safety/specs/Runs`), with what each turn did to a record, of which the run's book is made. Assumes nothing.
use Rattle.std.specs.Prelude.{ℕ, ◌≡◌, List, [], ◌∷◌}
use Rattle.frames.specs.declared.Entry.{Entry}
use Rattle.raft.specs.Record.{State, leader, fresh}
use Rattle.journal.specs.Opening.{Opened, opened, headless, broken, opening}
use Rattle.safety.specs.Book.{Change}
use Rattle.safety.specs.Runs.{Runs}
use Rattle.record.specs.Calls.{state_of, entries_of, handed}
use Rattle.host.specs.Host.{Box, on, off, Host, nothing, Turns, turns, HostRun, stays, goes, run_both}

-- A box leads in a term: by the fields of its struct. One that is off does not.
abbrev pub Leads : Box → ℕ → Type 0
Leads (on b) term = (b.node.state.role ≡ leader) × (b.node.state.term ≡ term)
Leads (off disk) term = ⊥

-- A box's log: so many entries of the lent arrays as the struct says.
abbrev pub log_in : Box → List Entry
log_in (on b) = entries_of b.terms b.orders 0 b.node.state.last
log_in (off disk) = []

-- What it hands out, 8: so many entries of the lent arrays as `handed_out` counts.
abbrev pub handed_by : Box → List Entry
handed_by (on b) = entries_of b.terms b.orders 0 (handed b.node.state b.terms b.orders).count
handed_by (off disk) = []

-- ---- a run, as safety has it

-- What a file's opening finds, or else a record that is given.
abbrev pub found_or : Opened → State → State
found_or (opened s n) none = s
found_or headless none = none
found_or (broken line) none = none

-- The record of a box: where it runs, that of its struct and arrays; where it is off, what its file opens with, and the fresh box's where it does not open.
abbrev pub seen : (mask i : ℕ) → Box → State
seen mask i (on b) = state_of b.node.state b.terms b.orders
seen mask i (off disk) = found_or (opening i disk) (fresh i mask)

-- What a turn did to its box's record, whatever it was,
unfoldable pub turned : {mask : ℕ} {h k : Host} → Turns mask h k → Change
turned {mask} {h = h} (turns i b frames act) = record { before = seen mask i (h.box i); behind = seen mask i b }

-- and those of a run, the latest first. `book` of them is the book of the run (`safety/specs/Book`): the longest of what leaders have committed by them.
unfoldable pub turned_in : {mask : ℕ} {h k : Host} → HostRun mask h k → List Change
turned_in stays = []
turned_in (goes r t) = turned t ∷ turned_in r

-- The runs of a host, beside those of a park and of a site.
abbrev pub hosts : ℕ → Runs
hosts mask =
    record {
      Moment = Host;
      first = nothing;
      Run = HostRun mask;
      both = run_both;
      changes = turned_in;
      box = λ h i. seen mask i (h.box i);
      sent = λ h. h.network;
    }
