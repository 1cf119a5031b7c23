-- What the writer knows once it has looked at the fields and the room.
pub mod Writable
