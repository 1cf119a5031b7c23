-- What is proved of a session (specs/Session); and that an answer is the only one.
mod OneAnswer
pub mod SessionLaws
pub mod RunLaws
