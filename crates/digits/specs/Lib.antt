-- What text is made of: digits, fields of 1, 2, 4 and 8 bytes, and room that a caller lends; and what is proved of them.
pub mod Digits
pub mod Room
pub mod Tests
pub mod Laws
pub mod RoomLaws
