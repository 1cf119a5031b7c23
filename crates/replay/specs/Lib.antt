-- What the functions of the program require.
pub mod Required
