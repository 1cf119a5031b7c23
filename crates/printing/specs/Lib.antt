-- What is printed of a number, a refusal and a record; then what the code's proofs use.
pub mod Text
pub mod Putting
pub mod Looking
pub mod TextLaws
pub mod LookingLaws
