-- Case by case, as the definition.
use native.Mathlib.Omega.{arith}
use mathlib.Core.Path.{ap, ◌∙◌}
use Rattle.digits.specs.Room.{over}
use Rattle.record.specs.Deciding.{messages_of, Aimed}
use Rattle.record.specs.Sizes.{sent_size}
use Rattle.record.specs.SizeLaws.{over_none, texts-one, asked}
use Rattle.finishing.proofs.bytes.put_messages.Goals as goal

pub put_requests-requires : goal.put_requests-requires
unfolding sent_size
put_requests-requires c =
    rw c.in-Requests.is at c.requires.in_room

pub put_appends-requires : goal.put_appends-requires
unfolding sent_size
put_appends-requires c =
    record { sendable = c.requires.sendable; in_room = rw c.in-Appends.is at c.requires.in_room }

pub put_append-requires : goal.put_append-requires
unfolding sent_size Aimed
put_append-requires c =
    record {
      to = rw c.in-Append.is at c.requires.aimed;
      sendable = c.requires.sendable;
      in_room = rw c.in-Append.is at c.requires.in_room;
    }

pub put_vote_answer-requires : goal.put_vote_answer-requires
unfolding sent_size
put_vote_answer-requires c =
    rw c.in-VoteAnswer.is at c.requires.in_room

pub put_append_answer-requires : goal.put_append_answer-requires
unfolding sent_size
put_append_answer-requires c =
    rw c.in-AppendAnswer.is at c.requires.in_room

pub returns-in-Nothing : goal.returns-in-Nothing
unfolding messages_of
returns-in-Nothing c = rw c.in-Nothing.is (over_none _ 0)

pub returns-in-Requests : goal.returns-in-Requests
unfolding messages_of
returns-in-Requests c =
    let term = c.term_at.ensures c.args.orders.now c.args.next.last (omega arith) in
    rw c.in-Requests.is (c.put_requests.ensures ∙ ap (over c.args.messages.now 0) (asked c.args.next c.args.terms.now c.args.orders.now _ term))

pub returns-in-Appends : goal.returns-in-Appends
unfolding messages_of
returns-in-Appends c =
    rw c.in-Appends.is c.put_appends.ensures

pub returns-in-Append : goal.returns-in-Append
unfolding messages_of
returns-in-Append c =
    rw (c.in-Append.is, texts-one) c.put_append.ensures

pub returns-in-VoteAnswer : goal.returns-in-VoteAnswer
unfolding messages_of
returns-in-VoteAnswer c =
    rw (c.in-VoteAnswer.is, texts-one) c.put_vote_answer.ensures

pub returns-in-AppendAnswer : goal.returns-in-AppendAnswer
unfolding messages_of
returns-in-AppendAnswer c =
    rw (c.in-AppendAnswer.is, texts-one) c.put_append_answer.ensures
