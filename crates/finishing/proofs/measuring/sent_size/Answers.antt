-- Case by case, as the definition.
use Rattle.record.specs.Deciding.{Aimed}
use Rattle.record.specs.Sizes.{sent_size}
use Rattle.finishing.proofs.measuring.sent_size.Goals as goal

pub append_size-requires : goal.append_size-requires
unfolding Aimed
append_size-requires c =
    (rw c.in-Append.is at c.requires).box

pub returns-in-Nothing : goal.returns-in-Nothing
unfolding sent_size
returns-in-Nothing c = rw c.in-Nothing.is

pub returns-in-Requests : goal.returns-in-Requests
unfolding sent_size
returns-in-Requests c =
    rw c.in-Requests.is c.requests_size.ensures

pub returns-in-Appends : goal.returns-in-Appends
unfolding sent_size
returns-in-Appends c =
    rw c.in-Appends.is c.appends_size.ensures

pub returns-in-Append : goal.returns-in-Append
unfolding sent_size
returns-in-Append c =
    rw c.in-Append.is c.append_size.ensures.value

pub returns-in-VoteAnswer : goal.returns-in-VoteAnswer
unfolding sent_size
returns-in-VoteAnswer c =
    rw c.in-VoteAnswer.is

pub returns-in-AppendAnswer : goal.returns-in-AppendAnswer
unfolding sent_size
returns-in-AppendAnswer c =
    rw c.in-AppendAnswer.is
