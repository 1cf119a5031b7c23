-- What the messages' code requires inside, and what its proofs use: the votes, an append, an append answer, and any message.
pub mod Required
pub mod VoteLaws
pub mod AppendLaws
pub mod AnswerLaws
pub mod DeliverLaws
