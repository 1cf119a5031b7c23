-- The sixteens in front have no line feed (`plain-passed`); the first one is found behind them, or there is none.
use native.Mathlib.Omega.{arith}
use mathlib.Core.Path.{sym, ◌∙◌}
use lib.ListN.{drop}
use Rattle.std.proofs.lemmas.List.{take_rest}
use Rattle.text.specs.LinesLaws.{plain-passed, feed-found, feed-none}
use Rattle.text.proofs.line_end.Goals as goal

pub returns-in-Some : goal.returns-in-Some
returns-in-Some c =
    let plain = plain-passed (drop c.args.at c.args.bytes.now) (simp take_rest at c.as_chunks.ensures.front) c.plain_front-plain.ensures in
    let found = feed-found plain c.in-Some.more (simp take_rest at (sym c.line_feed.ensures ∙ c.in-Some.is)) in
    omega (arith, found)

pub returns-in-None : goal.returns-in-None
returns-in-None c =
    let plain = plain-passed (drop c.args.at c.args.bytes.now) (simp take_rest at c.as_chunks.ensures.front) c.plain_front-plain.ensures in
    let none = feed-none plain (simp take_rest at (sym c.line_feed.ensures ∙ c.in-None.is)) in
    omega (arith, none)
