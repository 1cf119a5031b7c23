-- What the rules require, and what their proofs use.
pub mod Required
pub mod RecordLaws
pub mod SearchLaws
pub mod SliceLaws
