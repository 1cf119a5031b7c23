-- What is proved of the calls beyond specs/.
pub mod RefusalLaws
