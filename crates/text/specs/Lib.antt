-- Bytes as lines: where a line ends, and bytes copied one by one.
pub mod Lines
pub mod LinesLaws
pub mod Copying
