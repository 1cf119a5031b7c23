-- The laws that some of the writer's functions are proved by, as one set.
use Rattle.frames.specs.WritingLaws.{stored_one, put-none, put-entry-next, whole, text-bytes, written-not, written-short, written-whole}
use Rattle.frame_writer.specs.Writable.{room_of}

pub ruleset steps = (stored_one, put-none, put-entry-next, whole, text-bytes, written-not, written-short, written-whole, room_of)
