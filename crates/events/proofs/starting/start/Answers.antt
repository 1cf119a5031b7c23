-- 12 first, then 5, then the head: the order of the definition.
use native.Mathlib.Omega.{arith}
use mathlib.Core.Path.{sym, ◌∙◌}
use lib.ListN.{length}
use borrow.Author.Tests.{le-leb, lt-leb}
use Rattle.raft.specs.Journal.{head}
use Rattle.record.specs.Calls.{begun}
use Rattle.record.specs.WrittenLaws.{head-long}
use Rattle.events.proofs.starting.start.Goals as goal

pub returns-then-not-is_membership : goal.returns-then-not-is_membership
unfolding begun
returns-then-not-is_membership c = rw (sym c.is_membership.ensures ∙ c.if-not-is_membership.true)

pub returns-then-journal-lt9 : goal.returns-then-journal-lt9
unfolding begun
returns-then-journal-lt9 c =
    let long = head-long c.args.me c.args.mask in
    rw (
      sym c.is_membership.ensures ∙ c.if-not-is_membership.false,
      lt-leb (length (head c.args.me c.args.mask)) (length c.args.journal.now) (omega (arith, long, c.if-journal-lt9.true)),
    )

pub returns : goal.returns
unfolding begun
returns c =
    let long = head-long c.args.me c.args.mask in
    rw (
      sym c.is_membership.ensures ∙ c.if-not-is_membership.false,
      c.fresh.ensures,
      c.put_head.ensures,
      le-leb (length (head c.args.me c.args.mask)) (length c.args.journal.now) (omega (arith, long, c.if-journal-lt9.false)),
      long,
    )
