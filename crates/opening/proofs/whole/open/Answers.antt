-- No head, a line that breaks a rule, or the log handed over (`opens-found`).
use native.Mathlib.Omega.{arith}
use lib.ListN.{length-take}
use Rattle.std.specs.Prelude.{◌≤◌}
use Rattle.frames.specs.Limits.{log_limit}
use Rattle.text.specs.LinesLaws.{first-most}
use Rattle.opening.specs.CodeLaws.{headed, unheaded}
use Rattle.opening.specs.OpenCode.{open_headless, block-room, block_few, block_opens, block_breaks, opens-headless, opens-broken, opens-found}
use Rattle.opening.proofs.whole.open.Goals as goal

pub slice_bounds-replay_head-end : goal.slice_bounds-replay_head-end
slice_bounds-replay_head-end c =
    simp length-take (omega (arith, c.line_end-head.ensures, first-most c.args.bytes.now))

pub returns-in_default : goal.returns-in_default
returns-in_default c =
    let none = unheaded c.args.me _ c.in_default.field-0 c.in_default.ensures in
    let headless = open_headless c.args.me c.args.bytes.now c.line_end-head.ensures none in
    opens-headless c.args.me c.args.bytes.now c.args.terms.now c.args.orders.now headless

pub slice_bounds-replay_lines-count : goal.slice_bounds-replay_lines-count
slice_bounds-replay_lines-count c =
    omega (arith, c.line_end-head.ensures, first-most c.args.bytes.now)

pub slice_bounds-replay_lines-start : goal.slice_bounds-replay_lines-start
slice_bounds-replay_lines-start c =
    omega (arith, c.line_end-head.ensures, first-most c.args.bytes.now)

pub overflow_add-result : goal.overflow_add-result
overflow_add-result c =
    let (head, made) = headed c.args.me _ c.in-Ok.start c.in-Ok.ensures in
    let few = block_few c.args.me c.args.bytes.now c.line_end-head.ensures head made c.replay_lines-behind.ensures in
    omega (arith, few, c.well_formed)

pub returns-in_default-end : goal.returns-in_default-end
returns-in_default-end c =
    let (head, made) = headed c.args.me _ c.in-Ok.start c.in-Ok.ensures in
    let broken = block_breaks c.args.me c.args.bytes.now c.line_end-head.ensures head made c.replay_lines-behind.ensures in
    opens-broken c.args.me c.args.bytes.now c.args.terms.now c.args.orders.now _ (broken _ c.in_default-end.is)

pub hand_over-requires : goal.hand_over-requires
hand_over-requires c =
    let (head, made) = headed c.args.me _ c.in-Ok.start c.in-Ok.ensures in
    let fits = block-room c.args.me c.args.bytes.now c.line_end-head.ensures head made c.replay_lines-behind.ensures in
    record { in_terms = omega (arith, fits); in_orders = omega (arith, fits); in_terms_made = omega (arith, fits); in_orders_made = omega (arith, fits) }

pub returns : goal.returns
returns c =
    let behind = c.replay_lines-behind in
    let (head, made) = headed c.args.me _ c.in-Ok.start c.in-Ok.ensures in
    let fits : behind.result.state.last ≤ log_limit =
    block-room c.args.me c.args.bytes.now c.line_end-head.ensures head made behind.ensures in
    let opens = block_opens c.args.me c.args.bytes.now c.line_end-head.ensures head made behind.ensures c.in-Ok-end.is in
    opens-found c.args.me c.args.bytes.now c.args.terms.now c.args.orders.now behind.result.state behind.new.terms behind.new.orders _ opens
    (omega (arith, fits)) (omega (arith, fits)) c.hand_over.ensures.terms_after c.hand_over.ensures.orders_after
