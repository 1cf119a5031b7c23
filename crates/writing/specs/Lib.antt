-- What the writing for several boxes is.
pub mod Others
