-- What holds of every step, whatever the event: a new event is a clause in each of these. Assumes nothing.
use Rattle.std.specs.Prelude.{◌≡◌, true}
use Rattle.raft.specs.Record.{State, good}
use Rattle.raft.specs.Event.{Event, times_out, takes_order, is_prompted, receives, step, Typed}
use Rattle.raft.proofs.StepLaws.{timeout-good, order-good, prompt-good}
use Rattle.raft.proofs.SendLaws.{Obey, timeout-obeys, order-obeys, prompt-obeys}
use Rattle.raft.proofs.FitLaws.{Fits, Sized, timeout-fits, order-fits, prompt-fits}
use Rattle.raft.proofs.ReceiveLaws.{Ends, receive-good}
use Rattle.raft.proofs.ReceiveSends.{receive-obeys, receive-fits}
use Rattle.raft.proofs.RefusalLaws.{Numbered, timeout-numbered, order-numbered, prompt-numbered, receive-numbered}

-- **A good record stays good.**
pub step-good : (e : Event) (s : State) → good s ≡ true → Ends (λ t ms. good t ≡ true) (step e s)
unfolding step
step-good times_out s h = timeout-good s h
step-good (takes_order o) s h = order-good o s h
step-good is_prompted s h = prompt-good s h
step-good (receives bytes) s h = receive-good bytes s h

-- **What it sends obeys 01's rules for frames,**
pub step-obeys : (e : Event) (s : State) → good s ≡ true → Ends (λ t ms. Obey ms) (step e s)
unfolding step
step-obeys times_out s h = timeout-obeys s h
step-obeys (takes_order o) s h = order-obeys o s h
step-obeys is_prompted s h = prompt-obeys s h
step-obeys (receives bytes) s h = receive-obeys bytes s h

-- **and fits its fields; so does the next record.**
pub step_fits : (e : Event) (s : State) → good s ≡ true → Fits s → Typed e → Ends (λ t ms. Fits t × Sized ms) (step e s)
unfolding step
step_fits times_out s h f y = timeout-fits s h f
step_fits (takes_order o) s h f y = order-fits o s h f y
step_fits is_prompted s h f y = prompt-fits s h f
step_fits (receives bytes) s h f y = receive-fits bytes s h f

-- **A refusal has a number.**
pub step-numbered : (e : Event) (s : State) → Numbered (step e s)
unfolding step
step-numbered times_out s = timeout-numbered s
step-numbered (takes_order o) s = order-numbered o s
step-numbered is_prompted s = prompt-numbered s
step-numbered (receives bytes) s = receive-numbered bytes s
