-- The journal on opening: its lines, the rules of each, what opening comes to, and a box's life as its journal sees it; then what is proved of
-- them: one spelling, a good record, exact answers, replay, and what a power loss leaves.
pub mod Lines
pub mod Opening
pub mod Runs
pub mod KeptLaws
pub mod StepMoves
pub mod Longest
pub mod Readings
