-- A host, and all that it may do with its boxes: our calls, as their contracts say them, its disks and its network. The numbers are those of docs/HOST.md, which
-- asks for what stands beside them. Assumes nothing.
use Rattle.std.specs.Prelude.{ℕ, ◌+◌, ◌≡◌, true, List, [], ◌++◌, ◌⊎◌, take, drop, Result, Ok}
use Rattle.digits.specs.Room.{over}
use Rattle.raft.specs.Event.{Event}
use Rattle.journal.specs.Lines.{lines}
use Rattle.history.specs.Put.{put}
use Rattle.safety.specs.Park.{Comes}
use Rattle.record.specs.declared.Record.{Record}
use Rattle.record.specs.ExactlyWhen.{no_frame}
use Rattle.node.specs.declared.Node.{Node}
use Rattle.node.specs.Outside.{Answer, Started, Starts, Calls}
use Rattle.opening.specs.declared.Opened.{Opened}
use Rattle.opening.specs.declared.Unopened.{Unopened}
use Rattle.opening.specs.Calls.{told_open, Opens}
use Rattle.host.specs.Pieces.{Passed}

-- ---- what a host has

-- Of a box that runs: the struct, the two arrays that are lent for its log, its file's bytes, and the place in them at which the next line is written. (The arrays have
-- 256 places, and their numbers fit their types: nothing here needs that.)
pub record Running : Type 0 where
  pub node : Node
  pub terms : List ℕ
  pub orders : List ℕ
  pub disk : List ℕ
  pub place : ℕ

-- A box runs; or all there is of it is its file: it was not started yet, or power was lost.
pub data Box : Type 0 where
  on : Running → Box
  off : (disk : List ℕ) → Box

-- 1: "One box for each number." And the bytes of every frame that ever left one of them.
pub record Host : Type 0 where
  pub box : ℕ → Box
  pub network : List (List ℕ)

-- Before anything was done: empty files, and nothing was sent. (A file that is lost later is no part of this: 10, "A lost journal is not a fresh box".)
unfoldable pub nothing : Host
nothing = record { box = λ i. off []; network = [] }

-- ---- a call

-- A call of an event at a box that runs, whatever it answers. The event is one that may come: by 7 a timeout or a prompt at any time; an order of 8 bytes; by 9 any
-- frame that ever left a box, or any bytes that are not one frame. Any room is lent for the line and the messages, whatever it holds; the answer, and all that was lent
-- as the call leaves it, are what the contract says.
pub record Call (network : List (List ℕ)) (b : Running) : Type 0 where
  pub event : Event
  pub comes : Comes network event ⊎ (no_frame event ≡ true)
  pub journal : List ℕ
  pub messages : List ℕ
  pub answer : Answer
  pub terms_left : List ℕ
  pub orders_left : List ℕ
  pub journal_left : List ℕ
  pub messages_left : List ℕ
  pub contract : Calls event b.node b.terms b.orders journal messages answer terms_left orders_left journal_left messages_left

-- The line that is handed over,
abbrev pub line_in : {network : List (List ℕ)} {b : Running} → Call network b → List ℕ
line_in c = take c.answer.line c.journal_left

-- and the frames: the messages, cut at their line feeds.
abbrev pub frames_in : {network : List (List ℕ)} {b : Running} → Call network b → List (List ℕ)
frames_in c = lines (take c.answer.sent c.messages_left)

-- A start, with any room for the head, and what it writes.
pub record Start (mask i : ℕ) : Type 0 where
  pub journal : List ℕ
  pub answer : Started
  pub journal_left : List ℕ
  pub contract : Starts i mask journal answer journal_left

-- The head that is handed over.
abbrev pub head_in : {mask i : ℕ} → Start mask i → List ℕ
head_in c = take c.answer.bytes c.journal_left

-- An opening of a file, into any arrays, whatever they hold.
pub record Opening (i : ℕ) (disk : List ℕ) : Type 0 where
  pub terms : List ℕ
  pub orders : List ℕ
  pub answer : Result Opened Unopened
  pub terms_left : List ℕ
  pub orders_left : List ℕ
  pub contract : Opens i disk terms orders answer terms_left orders_left

-- What a host has from a file, where it comes back: the struct, the arrays and the place, by `open` of the whole, or in pieces until no whole line is left.
pub data Back (i : ℕ) (disk : List ℕ) : Record → (terms orders : List ℕ) → (place : ℕ) → Type 0 where
  at_once : (c : Opening i disk) (found : Opened) → c.answer ≡ Ok found → Back i disk found.state c.terms_left c.orders_left found.bytes
  in_pieces : (b : Record) (terms orders : List ℕ) (place count : ℕ) → Passed i disk b terms orders place count → lines (drop place disk) ≡ []
      → Back i disk b terms orders place

-- ---- what may become of a box

-- Box i, where all are started with one mask and these frames are in the network: the box before, behind it, and the frames that leave.
pub data Acts (mask i : ℕ) (network : List (List ℕ)) : Box → Box → List (List ℕ) → Type 0 where
  -- 2, 10: a file that opens with 11 has no head; the box is started, and the head is the file's first line. Any arrays are lent to it from then on.
  starts : (disk : List ℕ) (o : Opening i disk) → (told_open o.answer).refusal ≡ 11 → (c : Start mask i) → c.answer.refusal ≡ 0 → (terms orders : List ℕ)
      → Acts mask i network (off disk) (on (record {
        node = c.answer.node;
        terms = terms;
        orders = orders;
        disk = over disk 0 (head_in c);
        place = c.answer.bytes;
      })) []
  -- Power fails when so many bytes of the head are written.
  start_fails : (disk : List ℕ) (o : Opening i disk) → (told_open o.answer).refusal ≡ 11 → (c : Start mask i) → c.answer.refusal ≡ 0 → (k : ℕ)
      → Acts mask i network (off disk) (off (over disk 0 (take k (head_in c)))) []
  -- Before a head is written on such a file, what is on it may be cut off, or a part of it.
  clears : (disk : List ℕ) (o : Opening i disk) → (told_open o.answer).refusal ≡ 11 → (c : Start mask i) → c.answer.refusal ≡ 0 → (k : ℕ)
      → Acts mask i network (off disk) (off (take k disk)) []
  -- 3: "The line first, then the state, then the messages": a call that answers 0, its line whole.
  steps : (b : Running) (c : Call network b) → c.answer.refusal ≡ 0
      → Acts mask i network (on b) (on (record {
        node = c.answer.node;
        terms = c.terms_left;
        orders = c.orders_left;
        disk = over b.disk b.place (line_in c);
        place = b.place + c.answer.line;
      })) (frames_in c)
  -- 3: power fails when so many bytes of the line are written, or "the line cannot be made whole": struct and arrays are dropped, and nothing leaves.
  step_fails : (b : Running) (c : Call network b) → c.answer.refusal ≡ 0 → (k : ℕ)
      → Acts mask i network (on b) (off (over b.disk b.place (take k (line_in c)))) []
  -- 4: "On a refusal, nothing", whatever the number: the struct is kept. (In the arrays is what the call left there.)
  is_refused : (b : Running) (c : Call network b) → (c.answer.refusal ≡ 0 → ⊥)
      → Acts mask i network (on b) (on (record {
        node = b.node;
        terms = c.terms_left;
        orders = c.orders_left;
        disk = b.disk;
        place = b.place;
      })) []
  -- Power fails between steps.
  fails : (b : Running) → Acts mask i network (on b) (off b.disk) []
  -- 10: "After power was lost, open the journal and go on at the byte count".
  comes_back : (disk : List ℕ) (b : Record) (terms orders : List ℕ) (place : ℕ) → Back i disk b terms orders place
      → Acts mask i network (off disk) (on (record {
        node = record { state = b };
        terms = terms;
        orders = orders;
        disk = disk;
        place = place;
      })) []
  -- 10: "cut the file there": whole, or in part where power fails in that.
  trims : (b : Running) (k : ℕ)
      → Acts mask i network (on b) (on (record {
        node = b.node;
        terms = b.terms;
        orders = b.orders;
        disk = take (b.place + k) b.disk;
        place = b.place;
      })) []

-- ---- runs

-- One box does something.
pub data Turns (mask : ℕ) (h : Host) : Host → Type 0 where
  turns : (i : ℕ) (b : Box) (frames : List (List ℕ)) → Acts mask i h.network (h.box i) b frames
      → Turns mask h (record { box = put h.box i b; network = frames ++ h.network })

-- From one moment to a later one.
pub data HostRun (mask : ℕ) (h : Host) : Host → Type 0 where
  stays : HostRun mask h h
  goes : {k l : Host} → HostRun mask h k → Turns mask k l → HostRun mask h l

-- One run behind the other.
unfoldable pub run_both : {mask : ℕ} {h k l : Host} → HostRun mask h k → HostRun mask k l → HostRun mask h l
run_both r stays = r
run_both r (goes u t) = goes (run_both r u) t
