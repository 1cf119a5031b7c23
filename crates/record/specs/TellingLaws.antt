-- What is told of how many entries are handed out leaves one answer only: two that are told alike are one. (`node/specs/TellingLaws` has the same of a step and a start.)
-- Assumes nothing.
use Rattle.std.specs.Prelude.{ℕ, ◌≡◌, Result, Ok, Err}
use Rattle.std.proofs.Common.{sym, ap}
use Rattle.frames.specs.declared.refusal.Refusal.{Refusal}
use Rattle.frames.specs.RefusalLaws.{not_0, one_number}
use Rattle.record.specs.Calls.{HandedTold, handed_told}

pub handed_told_one : (x y : Result ℕ Refusal) → handed_told x ≡ handed_told y → x ≡ y
handed_told_one (Ok x) (Ok y) e = ap (λ (t : HandedTold). Ok t.count) e
handed_told_one (Ok x) (Err s) e = absurd (not_0 s (sym (ap (λ (t : HandedTold). t.refusal) e)))
handed_told_one (Err r) (Ok y) e = absurd (not_0 r (ap (λ (t : HandedTold). t.refusal) e))
handed_told_one (Err r) (Err s) e = ap (λ (q : Refusal). Err q) (one_number r s (ap (λ (t : HandedTold). t.refusal) e))
