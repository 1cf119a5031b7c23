-- The rule over all entries is the rule over those that are left, from the last term passed.
use Rattle.std.proofs.Common.{◌≡◌, drop}
use Rattle.frames.specs.Rules.{in_order}
use Rattle.frames.proofs.frame_rules.in_order.Given as goal

abbrev pub invariant-loop-e : goal.invariant-loop-e
invariant-loop-e l =
    in_order l.previous l.term l.entries ≡ in_order l.last l.term (drop l.e-index l.entries)
