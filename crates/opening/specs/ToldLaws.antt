-- What is told of an answer is told of no other: so a promise of what is told leaves one answer. Assumes nothing.
use Rattle.std.specs.Prelude.{◌≡◌, Result, Ok, Err}
use Rattle.std.proofs.Common.{arith, refl, sym, ap, ◌∙◌}
use Rattle.frames.specs.declared.refusal.Refusal.{Refusal}
use Rattle.frames.specs.Refusal.{code}
use Rattle.frames.specs.RefusalLaws.{not_0, one_number}
use Rattle.record.specs.declared.Record.{Record}
use Rattle.opening.specs.declared.Opened.{Opened}
use Rattle.opening.specs.declared.Unopened.{Unopened}
use Rattle.opening.specs.declared.Unopened.TheVariants.{NoHead, BadLine}
use Rattle.opening.specs.declared.Block.{Block}
use Rattle.opening.specs.Calls.{ReplayedTold, told_replay, OpenedTold, told_open, BlockTold, told_block}

pub not_opened : (why : Unopened) → (told_open (Err why)).refusal ≡ 0 → ⊥
not_opened NoHead e = omega (arith, e)
not_opened (BadLine line) e = omega (arith, e)

-- a line's answer, and a head's
pub told_replay-one : (b : Record) (r s : Result Record Refusal) → told_replay b r ≡ told_replay b s → r ≡ s
told_replay-one b (Ok n) (Ok m) e = ap Ok (ap (λ (x : ReplayedTold). x.state) e)
told_replay-one b (Ok n) (Err q) e = absurd (not_0 q (sym (ap (λ (x : ReplayedTold). x.refusal) e)))
told_replay-one b (Err p) (Ok m) e = absurd (not_0 p (ap (λ (x : ReplayedTold). x.refusal) e))
told_replay-one b (Err p) (Err q) e = ap Err (one_number p q (ap (λ (x : ReplayedTold). x.refusal) e))

-- an opening's
pub told_open-one : (r s : Result Opened Unopened) → told_open r ≡ told_open s → r ≡ s
told_open-one (Ok a) (Ok b) e = ap (λ (x : OpenedTold). Ok (record { state = x.state; bytes = x.bytes })) e
told_open-one (Ok a) (Err why) e = absurd (not_opened why (sym (ap (λ (x : OpenedTold). x.refusal) e)))
told_open-one (Err why) (Ok b) e = absurd (not_opened why (ap (λ (x : OpenedTold). x.refusal) e))
told_open-one (Err NoHead) (Err NoHead) e = refl
told_open-one (Err NoHead) (Err (BadLine n)) e = absurd (omega (arith, ap (λ (x : OpenedTold). x.refusal) e))
told_open-one (Err (BadLine n)) (Err NoHead) e = absurd (omega (arith, ap (λ (x : OpenedTold). x.refusal) e))
told_open-one (Err (BadLine n)) (Err (BadLine m)) e = ap (λ k. Err (BadLine k)) (ap (λ (x : OpenedTold). x.fault) e)

-- a block's
code-one : (r s : Result Unit Refusal) → code r ≡ code s → r ≡ s
code-one (Ok a) (Ok b) e = refl
code-one (Ok a) (Err q) e = absurd (not_0 q (sym e))
code-one (Err p) (Ok b) e = absurd (not_0 p e)
code-one (Err p) (Err q) e = ap Err (one_number p q e)

pub told_block-one : (r s : Block) → told_block r ≡ told_block s → r ≡ s
told_block-one r s e =
    ap (λ end. record { end = end; state = r.state; bytes = r.bytes; lines = r.lines }) (code-one r.end s.end (ap (λ (x : BlockTold). x.refusal) e))
    ∙ ap (λ (x : BlockTold). record { end = s.end; state = x.state; bytes = x.bytes; lines = x.lines }) e
