-- The library's bytes are the definition's (`written-high_first`).
use mathlib.Core.Path.{◌∙◌}
use Rattle.abi.specs.OrderLaws.{written-high_first}
use Rattle.abi.proofs.orders.order_to_bytes.Goals as goal

pub returns : goal.returns
returns c = c.to_be_bytes.ensures ∙ written-high_first 8 c.args.order
