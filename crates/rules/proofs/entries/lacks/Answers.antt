-- The tests are the definition's own, on the lent entry (`term-there`).
use Rattle.std.proofs.Common.{◌-◌, ◌≤◌, ◌<◌, ◌≡◌, length, get_or, sym, arith}
use Rattle.std.proofs.lemmas.List.{get_or_read}
use borrow.Author.Tests.{le-leb, lt-leb, ltb-true, ltb-false}
use Rattle.raft.specs.Append.{lacks}
use Rattle.raft.specs.LentLaws.{length-entries_of, term-there}
use Rattle.rules.proofs.entries.lacks.Goals as goal

pub returns-then-index-eq0 : goal.returns-then-index-eq0
unfolding lacks
returns-then-index-eq0 c = λ orders. rw c.if-index-eq0.true

pub returns-in-None : goal.returns-in-None
unfolding lacks
returns-in-None c =
    let past : length c.args.terms.now ≤ c.args.index - 1 = ltb-false _ _ (sym c.in-None.ensures.lookup.0) in
    λ orders. rw (le-leb 1 c.args.index (omega arith), length-entries_of, lt-leb c.args.index (length c.args.terms.now) (omega arith))

pub returns-in-Some : goal.returns-in-Some
unfolding lacks
returns-in-Some c =
    let there : c.args.index - 1 < length c.args.terms.now = ltb-true _ _ (sym c.in-Some.ensures.lookup.0) in
    let held : c.in-Some.held.now ≡ get_or c.args.terms.now (c.args.index - 1) 0 = get_or_read c.args.terms.now _ _ there c.in-Some.ensures.lookup.1 0 in
    λ orders. rw (
      le-leb 1 c.args.index (omega arith),
      length-entries_of,
      le-leb c.args.index (length c.args.terms.now) (omega arith),
      term-there c.args.terms.now orders (length c.args.terms.now) c.args.index (omega arith) (omega arith),
      held,
    )
