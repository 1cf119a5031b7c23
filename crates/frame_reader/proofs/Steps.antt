-- The laws that the reader's functions are proved by: each names them as one set.
use Rattle.frames.proofs.ReadingLaws.{length-entries, entry-there, entry_past, line-run, no_line, line_split, size-lt, size-grows, readable-long, unreadable}
use Rattle.frames.proofs.ReadingLaws.{headed_kind, form, room_for, room_for_entries, read-few, read-frame, read_disobeys, read_unreadable}

pub ruleset steps = (
  length-entries,
  entry-there,
  entry_past,
  line-run,
  no_line,
  line_split,
  size-lt,
  size-grows,
  readable-long,
  unreadable,
  headed_kind,
  form,
  room_for,
  room_for_entries,
  read-few,
  read-frame,
  read_disobeys,
  read_unreadable,
)
