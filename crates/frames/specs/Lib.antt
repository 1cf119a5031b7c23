-- 01's frames: the limits, the four messages, their text, the rules, reading and writing; and that a frame has one spelling.
pub mod Limits
pub mod Refusal
pub mod RefusalLaws
pub mod Message
pub mod Rules
pub mod Reading
pub mod Fields
pub mod Writing
pub mod Clauses
pub mod Laws
pub mod WritingLaws
