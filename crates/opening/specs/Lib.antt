-- Opening as calls: the structs, the lent log, and what each call leaves; then what the code's proofs use.
pub mod Calls
pub mod ToldLaws
pub mod CodeLaws
pub mod ReplayCode
pub mod BlockLaws
pub mod OpenCode
pub mod BlockCode
pub mod OpenedExactly
