-- Standard input in blocks.
pub mod Blocks
