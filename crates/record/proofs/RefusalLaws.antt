-- What a refusal leaves: all as it was, also where a function hands it on by `?`. (It stands here, since edits of what a refusal tells break it.) Assumes nothing.
use Rattle.std.specs.Prelude.{ℕ, ◌≡◌, List, Result, Err, IsErrAnd}
use Rattle.std.proofs.lemmas.Result.{err_from_is_err_and}
use Rattle.frames.specs.declared.refusal.Refusal.{Refusal}
use Rattle.frames.specs.Refusal.{number}
use Rattle.raft.specs.Outcome.{Outcome, refuse}
use Rattle.record.specs.declared.Record.{Record}
use Rattle.record.specs.declared.Step.{Step}
use Rattle.record.specs.Calls.{run, Runs}

-- What is refused leaves all as it was.
pub refusal-leaves : (n : Record) (r : Refusal) {terms orders journal messages : List ℕ} {o : Outcome} → refuse (number r) ≡ o
    → Runs o n terms orders journal messages (Err r) terms orders journal messages
unfolding run
refusal-leaves n r e = rw (← e)

-- So does a function that hands a refusal on, by `?`.
pub exit-leaves : (n : Record) (r : Refusal) {terms orders journal messages : List ℕ} {o : Outcome} (answer : Result (Step Record) Refusal)
    → IsErrAnd answer (λ e. e ≡ r) → refuse (number r) ≡ o → Runs o n terms orders journal messages answer terms orders journal messages
exit-leaves n r answer exits e = let p = err_from_is_err_and answer exits in rw (p.1, p.2) (refusal-leaves n r e)
