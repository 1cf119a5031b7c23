-- What the changes of a record require.
pub mod Required
