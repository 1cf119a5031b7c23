-- What is proved of the box's rules (specs/).
pub mod JoinLaws
pub mod RecordLaws
pub mod MajorityLaws
pub mod CommitLaws
pub mod StepLaws
pub mod WinningLaws
pub mod SendLaws
pub mod FitLaws
pub mod ReceiveLaws
pub mod ReceiveSends
pub mod RefusalLaws
pub mod EventLaws
pub mod CommitRises
