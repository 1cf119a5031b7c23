-- How long a step's line and messages are, from the struct alone, what the code writes them from, and the step's answer. Assumes nothing.
use Rattle.std.specs.Prelude.{ℕ, zero, suc, ◌+◌, ◌-◌, ◌*◌, ◌≤◌, min, ◌≡◌, Bool, true, cond, ◌&&◌, List, [], eqb, leb, length, Result, Ok, Err}
use Rattle.frames.specs.Limits.{boxes, IsBox, entry_limit}
use Rattle.frames.specs.declared.refusal.Refusal.{Refusal}
use Rattle.frames.specs.declared.refusal.Refusal.TheVariants.{NoRoom}
use Rattle.record.specs.declared.Record.{Record}
use Rattle.record.specs.declared.Send.{Send}
use Rattle.record.specs.declared.Decision.{Decision}
use Rattle.record.specs.declared.Sizes.{Sizes}
use Rattle.raft.specs.Record.{of_box, is_other}
use Rattle.raft.specs.Journal.{line_text}
use Rattle.record.specs.Calls.{entries_of}
use Rattle.record.specs.Deciding.{OtherBox, Aimed}

-- ---- the journal line

-- Neither term, vote nor log changes.
unfoldable pub is_silent : Record → Decision → Bool
is_silent n d =
    eqb n.term d.next.term && eqb n.vote d.next.vote && eqb d.kept n.last && eqb d.kept d.next.last

-- The line's bytes, from the lent log that the next record has, or none.
unfoldable pub line_bytes : Record → Decision → List ℕ → List ℕ → List ℕ
line_bytes n d terms orders =
    cond (is_silent n d) []
    (line_text
    (record {
      box = d.next.me;
      term = d.next.term;
      vote = d.next.vote;
      kept = d.kept;
      entries = entries_of terms orders d.kept (d.next.last - d.kept);
    }))

unfoldable pub line_size : Record → Decision → ℕ
line_size n d = cond (is_silent n d) 0 (23 + 24 * (d.next.last - d.kept))

-- ---- the messages

-- One box's share: its message's length, where it gets one.
abbrev pub share : Record → (ℕ → ℕ) → ℕ → ℕ
share b size i = cond (is_other b.me b.members i) (size i) 0

-- The shares of boxes 1 to k.
unfoldable pub shares : Record → (ℕ → ℕ) → ℕ → ℕ
shares b size zero = 0
shares b size (suc k) = shares b size k + share b size (suc k)

-- A vote request is 29 bytes.
abbrev pub request_size : ℕ → ℕ
request_size i = 29

-- "Previous index = next - 1", "up to 4 entries from next on"
abbrev pub previous : Record → ℕ → ℕ
previous b i = of_box b.lead.next i - 1

abbrev pub entry_count : ℕ → ℕ → ℕ
entry_count last previous = min entry_limit (last - previous)

abbrev pub append_size : Record → ℕ → ℕ
append_size b i = 35 + 24 * entry_count b.last (previous b i)

unfoldable pub sent_size : Send → Record → ℕ
sent_size Send.Nothing b = 0
sent_size Send.Requests b = shares b request_size boxes
sent_size Send.Appends b = shares b (append_size b) boxes
sent_size (Send.Append to) b = append_size b to
sent_size (Send.VoteAnswer to reply) b = 19
sent_size (Send.AppendAnswer to reply index) b = 23

-- ---- what must hold where they are written: that they can be made,

-- A record whose line can be written: its log is lent, and at most four entries of it stand behind those that were kept.
pub record Tellable (next : Record) (kept : ℕ) (terms orders : List ℕ) : Type 0 where
  pub low : kept ≤ next.last
  pub few : next.last - kept ≤ entry_limit
  pub in_terms : next.last ≤ length terms
  pub in_orders : next.last ≤ length orders

-- A record whose appends can be made: the log is lent, and next is at most one past its end.
pub record Sendable (b : Record) (terms orders : List ℕ) : Type 0 where
  pub in_terms : b.last ≤ length terms
  pub in_orders : b.last ≤ length orders
  pub next : (i : ℕ) → IsBox i → is_other b.me b.members i ≡ true → of_box b.lead.next i ≤ b.last + 1

-- ---- and that there is room for them

-- So many entries of the lent log from a place of it on, and room for them beside so many other bytes.
pub record Loggable (terms orders : List ℕ) (from count beside : ℕ) (room : List ℕ) : Type 0 where
  pub in_terms : from + count ≤ length terms
  pub in_orders : from + count ≤ length orders
  pub in_room : beside + 24 * count ≤ length room

-- A line,
pub record LineFits (next : Record) (kept : ℕ) (terms orders room : List ℕ) : Type 0 where
  pub tellable : Tellable next kept terms orders
  pub in_room : 23 + 24 * (next.last - kept) ≤ length room

-- or perhaps none, where it has no bytes.
pub record MayFit (line : ℕ) (next : Record) (kept : ℕ) (terms orders room : List ℕ) : Type 0 where
  pub tellable : Tellable next kept terms orders
  pub in_room : (line ≡ 0 → ⊥) → 23 + 24 * (next.last - kept) ≤ length room

-- One box's share of what all get, from a place on.
pub record ShareFits (b : Record) (size : ℕ → ℕ) (i at : ℕ) (room : List ℕ) : Type 0 where
  pub box : IsBox i
  pub in_room : at + share b size i ≤ length room

-- The append to one box, which is another member,
pub record AppendFits (b : Record) (i : ℕ) (terms orders room : List ℕ) : Type 0 where
  pub to : OtherBox b i
  pub sendable : Sendable b terms orders
  pub in_room : append_size b i ≤ length room

-- its append or nothing, where appends go to all others,
pub record AppendFitsAt (b : Record) (i at : ℕ) (terms orders room : List ℕ) : Type 0 where
  pub sendable : Sendable b terms orders
  pub fits : ShareFits b (append_size b) i at room

-- and all of them.
pub record AppendsFit (b : Record) (terms orders room : List ℕ) : Type 0 where
  pub sendable : Sendable b terms orders
  pub in_room : shares b (append_size b) boxes ≤ length room

-- Whatever is sent.
pub record MessagesFit (send : Send) (b : Record) (terms orders room : List ℕ) : Type 0 where
  pub aimed : Aimed send b
  pub sendable : Sendable b terms orders
  pub in_room : sent_size send b ≤ length room

-- ---- a step's answer

-- A line and messages of these lengths fit the journal and the room.
unfoldable pub roomy : (line journal sent messages : ℕ) → Bool
roomy line journal sent messages = leb line journal && leb sent messages

-- What is known of a step before anything is written: how long line and messages are, or 5, "the head, journal line or messages are longer than the room left".
unfoldable pub measured : Record → Decision → (journal messages : ℕ) → Result Sizes Refusal
measured n d journal messages =
    cond (roomy (line_size n d) journal (sent_size d.send d.next) messages)
    (Ok (record { line = line_size n d; sent = sent_size d.send d.next }))
    (Err NoRoom)

-- A decision whose line and messages have a length.
pub record Measurable (d : Decision) : Type 0 where
  pub low : d.kept ≤ d.next.last
  pub aimed : Aimed d.send d.next
