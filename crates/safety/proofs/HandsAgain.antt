-- That a box may hand out again after a restart: box 2 of Commits comes back, hands out nothing, and an append that was sent before comes once more.
-- Assumes nothing.
use Rattle.std.proofs.Common.{arith}
use Rattle.std.specs.Prelude.{◌≡◌, refl, [], ◌∷◌}
use mathlib.Core.List.Memᴰ
use Rattle.frames.specs.Message.{append_answer}
use Rattle.raft.specs.Record.{State, handed_out}
use Rattle.raft.specs.Append.{joining}
use Rattle.journal.specs.Opening.{restarted}
use Rattle.safety.specs.Park.{Park, after, Move, restarts, moves, Reached}
use Rattle.safety.proofs.Elects.{gets}
use Rattle.safety.proofs.Commits.{opens, page, news, handing, eighth, commits}

-- Box 2 loses its power and comes back,
abbrev back : State
back = restarted handing

abbrev ninth : Park
ninth = after eighth 2 back []

to-ninth : Move 7 eighth ninth
unfolding opens
to-ninth = restarts 2 refl

-- and the leader's append, which it had heard before, comes again.
abbrev again : State
again = joining back 2 2 []

abbrev tenth : Park
tenth = after ninth 2 again (append_answer 2 1 1 1 2 ∷ [])

to-tenth : Move 7 ninth tenth
unfolding opens restarted
to-tenth =
    gets 2 refl news (Memᴰ.tail (Memᴰ.head refl)) again (append_answer 2 1 1 1 2 ∷ []) refl (omega arith) refl

-- **It hands out nothing, and then the same again.**
pub hands-again : Reached 7 tenth × (handed_out (ninth.box 2) ≡ []) × (handed_out (tenth.box 2) ≡ page)
unfolding opens restarted
hands-again = (moves (moves commits.0 to-ninth) to-tenth, refl, refl)
