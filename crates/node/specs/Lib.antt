-- The outside calls, as their contracts say them, and that an answer is known by what they say of it; what looking at a record comes to; and that what a call leaves
-- is the next record of the definitions.
pub mod Outside
pub mod TellingLaws
pub mod LookLaws
pub mod NextRecord
