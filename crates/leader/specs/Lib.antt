-- What a leader's functions require, and what is proved of the struct that begins to lead.
pub mod Required
pub mod LeadLaws
