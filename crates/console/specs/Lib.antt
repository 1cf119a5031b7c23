-- A session: what a box on lines of text prints; the calls; then what the code's proofs use.
pub mod Session
pub mod Calls
pub mod LineLaws
pub mod GoodLaws
pub mod AnswerLaws
pub mod BeginLaws
pub mod BlockLaws
