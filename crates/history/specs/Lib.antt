-- The history of a park: what its boxes asked, voted, won and acknowledged, with no box's record in sight. In the order in which it is read:
-- what a beginning and a majority are; configurations, and which is in force in a log (Conf, InForce), by a rule: `fixed` where the membership is,
-- `changing` where entries name it. Then History and its Facts, from which alone one leader a term and one book follow (proofs/); and how a history grows
-- (Put, Grow).
pub mod Begins
pub mod BeginsLaws
pub mod Conf
pub mod Alike
pub mod InForce
pub mod History
pub mod Put
pub mod PutLaws
pub mod Grow
