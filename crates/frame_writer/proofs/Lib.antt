-- The set of laws for the functions' own proofs, and what holds of the contracts.
pub mod Steps
mod OneAnswer
mod ReadBack
