-- What is told of a box's answer leaves one answer only: two that are told alike are one. Assumes nothing.
use Rattle.std.specs.Prelude.{◌≡◌, Result, Ok, Err}
use Rattle.std.proofs.Common.{sym, ap}
use Rattle.frames.specs.declared.refusal.Refusal.{Refusal}
use Rattle.frames.specs.RefusalLaws.{not_0, one_number}
use Rattle.record.specs.declared.Step.{Step}
use Rattle.record.specs.declared.Started as declared
use Rattle.node.specs.declared.Node.{Node}
use Rattle.node.specs.Outside.{Answer, told, Started, start_told}

pub told_one : (n : Node) (x y : Result (Step Node) Refusal) → told n x ≡ told n y → x ≡ y
told_one n (Ok x) (Ok y) e = ap (λ (t : Answer). Ok (record { next = t.node; line = t.line; sent = t.sent })) e
told_one n (Ok x) (Err s) e = absurd (not_0 s (sym (ap (λ (t : Answer). t.refusal) e)))
told_one n (Err r) (Ok y) e = absurd (not_0 r (ap (λ (t : Answer). t.refusal) e))
told_one n (Err r) (Err s) e = ap (λ (q : Refusal). Err q) (one_number r s (ap (λ (t : Answer). t.refusal) e))

pub start_told_one : (x y : Result (declared.Started Node) Refusal) → start_told x ≡ start_told y → x ≡ y
start_told_one (Ok x) (Ok y) e = ap (λ (t : Started). Ok (record { fresh = t.node; bytes = t.bytes })) e
start_told_one (Ok x) (Err s) e = absurd (not_0 s (sym (ap (λ (t : Started). t.refusal) e)))
start_told_one (Err r) (Ok y) e = absurd (not_0 r (ap (λ (t : Started). t.refusal) e))
start_told_one (Err r) (Err s) e = ap (λ (q : Refusal). Err q) (one_number r s (ap (λ (t : Started). t.refusal) e))
