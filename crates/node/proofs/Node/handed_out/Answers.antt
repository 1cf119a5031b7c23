-- 12 where the record breaks a rule; otherwise up to commit.
use borrow.Author.Rules.{rules}
use Rattle.node.specs.LookLaws.{hands}
use Rattle.node.proofs.Node.handed_out.Goals as goal

pub returns : goal.returns
returns c = search (rules, hands)
