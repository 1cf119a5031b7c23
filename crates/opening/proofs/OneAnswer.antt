-- One answer only. `open`, `replay`, `replay_head` and `replay_lines` require nothing, and two answers that both meet the promise, from the same arguments, are
-- the same answer and leave the same in the lent log. Stated over the contracts themselves: `Pre` and `Post` are what a function's `requires` and `ensures`
-- say; r is an answer, and s the parameters as the call leaves them, `s.0` the first, `s.1.0` the second, and so on. Assumes nothing.
use mathlib.Core.Path.{◌≡◌, sym, ap, ◌∙◌}
use Rattle.opening.specs.Calls.{Opening, Replaying, Blocks, none}
use Rattle.opening.specs.ToldLaws.{told_open-one, told_replay-one, told_block-one}
use Rattle.opening.proofs.whole.open.Reads as opens
use Rattle.opening.proofs.blocks.replay.Reads as replay
use Rattle.opening.proofs.blocks.replay_head.Reads as replay-head
use Rattle.opening.proofs.blocks.replay_lines.Reads as replay-lines

-- ---- `open`: the answer, and the log's terms and orders

pub open_requires_nothing : (κs : _) (a : _) → opens.Pre κs a
open_requires_nothing κs a = tt

pub open_one_answer : (κs : _) (a : _) (r r' : _) (s s' : _) → opens.Post κs a r s → opens.Post κs a r' s'
    → (r ≡ r') × (s.1.1.0.now ≡ s'.1.1.0.now) × (s.1.1.1.0.now ≡ s'.1.1.1.0.now)
open_one_answer κs a r r' s s' p q =
    let same = p ∙ sym q in
    (told_open-one r r' (ap (λ (x : Opening). x.answer) same), ap (λ (x : Opening). x.terms) same, ap (λ (x : Opening). x.orders) same)

-- ---- `replay`: the same

pub replay_requires_nothing : (κs : _) (a : _) → replay.Pre κs a
replay_requires_nothing κs a = tt

pub replay_one_answer : (κs : _) (a : _) (r r' : _) (s s' : _) → replay.Post κs a r s → replay.Post κs a r' s'
    → (r ≡ r') × (s.1.1.0.now ≡ s'.1.1.0.now) × (s.1.1.1.0.now ≡ s'.1.1.1.0.now)
replay_one_answer κs a r r' s s' p q =
    let same = p ∙ sym q in
    (told_replay-one a.0 r r' (ap (λ (x : Replaying). x.answer) same), ap (λ (x : Replaying). x.terms) same, ap (λ (x : Replaying). x.orders) same)

-- ---- `replay_head`: the answer

pub replay_head_requires_nothing : (κs : _) (a : _) → replay-head.Pre κs a
replay_head_requires_nothing κs a = tt

pub replay_head_one_answer : (κs : _) (a : _) (r r' : _) (s s' : _) → replay-head.Post κs a r s → replay-head.Post κs a r' s' → r ≡ r'
replay_head_one_answer κs a r r' s s' p q = told_replay-one none r r' (p ∙ sym q)

-- ---- `replay_lines`: the answer, and the log's terms and orders

pub replay_lines_requires_nothing : (κs : _) (a : _) → replay-lines.Pre κs a
replay_lines_requires_nothing κs a = tt

pub replay_lines_one_answer : (κs : _) (a : _) (r r' : _) (s s' : _) → replay-lines.Post κs a r s → replay-lines.Post κs a r' s'
    → (r ≡ r') × (s.1.1.0.now ≡ s'.1.1.0.now) × (s.1.1.1.0.now ≡ s'.1.1.1.0.now)
replay_lines_one_answer κs a r r' s s' p q =
    let same = p.leaves ∙ sym q.leaves in
    (told_block-one r r' (ap (λ (x : Blocks). x.answer) same), ap (λ (x : Blocks). x.terms) same, ap (λ (x : Blocks). x.orders) same)
