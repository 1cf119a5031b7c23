-- What the reader knows of a text at each step, for the contracts of its inner functions.
pub mod Known
