-- A message and a box's record as plain numbers.
pub mod Message
pub mod Box
pub mod Taken
