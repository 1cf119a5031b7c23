-- The calls of a box: the struct, the lent log and the room, and what each call leaves in them; what an event decides; then what is proved.
pub mod Calls
pub mod Deciding
pub mod Sizes
pub mod GoodLaws
pub mod SizeLaws
pub mod WrittenLaws
pub mod DecidingLaws
pub mod ChangeLaws
pub mod SameLaws
pub mod TellingLaws
pub mod ExactlyWhen
pub mod ExactlyWhenLaws
pub mod NextRecord
