-- What follows from History's Facts alone: ConfLaws and Views, which configurations agree; Lineage, LeaderComplete and Book (one leader a term, one
-- book, every leader holds it); that each step of a growing history keeps the facts (GrowLeaders to Steps); what is handed out, what a sent frame tells, an
-- election, a leader's commit and the alarms, as `safety` needs them, which is at `fixed`; and four examples: that the facts can hold, what they
-- do not say, a change of membership, and why a vote that is given late does not count.
pub mod ConfLaws
pub mod Views
pub mod Descent
pub mod Lineage
pub mod LeaderComplete
pub mod Book
pub mod Later
pub mod GrowVotes
pub mod GrowLeaders
pub mod Join
pub mod GrowBoxes
pub mod Steps
pub mod Handed
pub mod Told
pub mod Election
pub mod Settled
pub mod Alarms
pub mod Example
pub mod ExampleLost
pub mod ExampleChange
pub mod ExampleLate
