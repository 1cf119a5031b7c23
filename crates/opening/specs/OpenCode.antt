-- Opening a whole journal, as the code comes to it. Assumes nothing.
use Rattle.std.specs.Prelude.{ℕ, ◌+◌, ◌-◌, ◌≤◌, ◌≡◌, Bool, ◌&&◌, List, [], ◌∷◌, ◌++◌, length, drop, Ok, Err}
use Rattle.std.proofs.Math.Nat.{zero-add}
use Rattle.std.proofs.Common.{arith, subst, ◌∙◌, true≢false, length-take, take_all, length-drop, eqb-true}
use mathlib.Core.List.{append-nil}
use Rattle.std.proofs.Math.Path.{refl, sym, ap}
use Rattle.std.proofs.Math.Bool.{true, false}
use Rattle.std.proofs.Math.Dec.{eqb}
use Rattle.std.proofs.Math.ListN.{take}
use Rattle.std.proofs.lemmas.Bool.{eqb-false}
use Rattle.digits.specs.Room.{over}
use Rattle.digits.specs.Tests.{and_left, and_right}
use Rattle.frames.specs.Limits.{boxes, log_limit}
use Rattle.frames.specs.declared.refusal.Refusal.{Refusal}
use Rattle.frames.specs.Refusal.{code}
use Rattle.text.specs.Lines.{first_line}
use Rattle.text.specs.LinesLaws.{first-most}
use Rattle.raft.specs.Majority.{holds}
use Rattle.raft.specs.Record.{State, fresh}
use Rattle.raft.proofs.RecordLaws.{at-box, member-facts}
use Rattle.raft.specs.Lent.{entries_of}
use Rattle.raft.specs.LentLaws.{length-entries_of, terms_are, orders_are}
use Rattle.record.specs.declared.Record.{Record}
use Rattle.record.specs.Calls.{state_of, record_of}
use Rattle.record.specs.SameLaws.{record_same}
use Rattle.journal.specs.Lines.{lines, whole_bytes, box_in, mask_in, head_shaped}
use Rattle.journal.proofs.LinesLaws.{lines-whole, whole-lines, whole-most}
use Rattle.journal.specs.Opening.{opened, headless, broken, replay, is_head, open_lines, opening}
use Rattle.opening.specs.declared.Unopened.TheVariants.{NoHead, BadLine}
use Rattle.opening.specs.declared.Block.{Block}
use Rattle.opening.specs.Calls.{opening_by, opens, Opens, Blocks, told_block, replay_each, replaying_lines, ReplaysLines}
use Rattle.frames.specs.RefusalLaws.{not_0}
use Rattle.opening.specs.CodeLaws.{head_nine_long}
use Rattle.opening.specs.ReplayCode.{lines_end, lines_next}
use Rattle.opening.specs.BlockLaws.{AllPassed, all_passed, OneBreaks, one-breaks, lines_few}

-- nobody is in an empty mask
held_none : (i : ℕ) → 1 ≤ i → i ≤ boxes → holds 0 i ≡ false
unfolding holds
held_none = at-box (λ i. holds 0 i ≡ false) refl refl refl refl refl refl refl

-- so a head's mask is not 0
pub head-mask : (me : ℕ) (s : List ℕ) → is_head me s ≡ true → mask_in s ≡ 0 → ⊥
unfolding is_head
head-mask me s h e =
    let m = member-facts me (mask_in s) (and_right (head_shaped s && eqb (box_in s) me) _ h) in
    true≢false (sym m.held ∙ rw e (held_none me m.least m.most))

module _ (me : ℕ) (bytes : List ℕ) {end : ℕ} (e : end ≡ 0 + first_line (drop 0 bytes)) where
  -- no head
  pub open_headless : is_head me (take end bytes) ≡ false → opening me bytes ≡ headless
  unfolding opening open_lines
  open_headless q = go (eqb (first_line bytes) 0) refl
    where
      go : (x : Bool) → eqb (first_line bytes) 0 ≡ x → open_lines me (whole_bytes bytes) (lines bytes) ≡ headless
      go true p = rw (lines_end bytes 0 (omega arith) (eqb-true (first_line bytes) 0 p)).0
      go false p =
          rw ((lines_next bytes 0 (omega arith) (eqb-false (first_line bytes) 0 p)).0, ← zero-add (first_line bytes), ← e, q)

  -- a head, and the lines behind it
  module _ (is : is_head me (take end bytes) ≡ true) where
    abbrev mask : ℕ
    mask = mask_in (take end bytes)

    nine : length (take end bytes) ≡ 9
    unfolding is_head
    nine =
        let front = and_left (head_shaped (take end bytes) && eqb (box_in (take end bytes)) me) _ is in
        head_nine_long (take end bytes) (and_left (head_shaped (take end bytes)) _ front)

    head_end : (2 ≤ end) × (end ≤ length bytes)
    head_end = omega (arith, nine, length-take end bytes, e, first-most bytes)

    open_head : opening me bytes ≡ replay (end + whole_bytes (drop end bytes)) (fresh me mask) 2 (lines (drop end bytes))
    unfolding opening open_lines
    open_head = rw (all_lines, all-bytes, is)
      where
        here : first_line bytes ≡ end
        here = omega (arith, e)

        some : first_line bytes ≡ 0 → ⊥
        some z = omega (arith, head_end.0, here, z)

        all_lines : lines bytes ≡ take end bytes ∷ lines (drop end bytes)
        all_lines = (lines_next bytes 0 (omega arith) some).0 ∙ rw (zero-add, here)

        all-bytes : whole_bytes bytes ≡ end + whole_bytes (drop end bytes)
        all-bytes = (lines_next bytes 0 (omega arith) some).1 ∙ rw (zero-add, here)

    -- the lines behind it begin with the fresh record's struct, whatever log is lent
    module _ {n : Record} (g : n ≡ record_of (fresh me mask)) where
      fresh-state : (terms orders : List ℕ) → state_of n terms orders ≡ fresh me mask
      unfolding fresh entries_of
      fresh-state terms orders = rw g

      fresh-fits : n.last ≤ log_limit
      unfolding fresh
      fresh-fits = rw g (omega arith)

      -- and are one block of whole lines.
      module _ {terms₀ orders₀ : List ℕ} {r : Block} {terms orders : List ℕ}
          (given : ReplaysLines n (take (length bytes - end) (drop end bytes)) terms₀ orders₀ r terms orders) where
        c : ReplaysLines n (drop end bytes) terms₀ orders₀ r terms orders
        c =
            subst (λ l. ReplaysLines n l terms₀ orders₀ r terms orders)
            (take_all (length bytes - end) (drop end bytes) (omega (arith, length-drop end bytes))) given

        abbrev behind : List (List ℕ)
        behind = lines (drop end bytes)

        abbrev begun : Blocks
        begun = record { answer = record { refusal = 0; state = n; bytes = 0; lines = 0 }; terms = terms₀; orders = orders₀ }

        abbrev ended : Blocks
        ended = record { answer = told_block r; terms = terms; orders = orders }

        leaves : replay_each begun behind ≡ ended
        unfolding replaying_lines
        leaves = sym c.leaves

        abbrev whole : ℕ
        whole = end + whole_bytes (drop end bytes)

        from_here : opening me bytes ≡ replay whole (state_of n terms₀ orders₀) 2 (behind ++ [])
        from_here =
            open_head ∙ ap (λ (s : State). replay whole s 2 behind) (sym (fresh-state terms₀ orders₀))
            ∙ ap (replay whole (state_of n terms₀ orders₀) 2) (sym (append-nil behind))

        -- It fits what is lent, and its lines are no more than its bytes.
        pub block-room : r.state.last ≤ log_limit
        block-room = c.room fresh-fits

        pub block_few : r.lines ≤ length bytes
        block_few =
            let few = subst (λ (y : Blocks). y.answer.lines + 0 ≤ y.answer.bytes + 0) leaves (lines_few begun behind (lines-whole (drop end bytes))) in
            omega (arith, few, c.inside, length-drop end bytes)

        pub block_inside : end + r.bytes ≤ length bytes
        block_inside = omega (arith, c.inside, head_end.1, length-drop end bytes)

        -- All were good,
        pub block_opens : r.end ≡ Ok tt → opening me bytes ≡ opened (state_of r.state terms orders) (end + r.bytes)
        unfolding replay
        block_opens z =
            let passed =
            subst (λ y. AllPassed begun y behind) leaves
            (all_passed begun behind (ap (λ (y : Blocks). y.answer.refusal) leaves ∙ ap code z)) in
            let counted = ap length (whole-lines (drop end bytes)) in
            from_here ∙ passed.on whole 2 []
            ∙ ap (opened (state_of r.state terms orders))
            (omega (arith, passed.bytes, counted, length-take (whole_bytes (drop end bytes)) (drop end bytes), whole-most (drop end bytes)))

        -- or one breaks a rule, and is named.
        pub block_breaks : (why : Refusal) → r.end ≡ Err why → opening me bytes ≡ broken (2 + r.lines)
        block_breaks why z =
            let stop =
            subst (λ y. OneBreaks begun y behind) leaves
            (one-breaks begun behind refl (λ q. not_0 why (sym (ap code z) ∙ sym (ap (λ (y : Blocks). y.answer.refusal) leaves) ∙ q))) in
            from_here ∙ stop.on whole 2 [] ∙ ap broken (omega (arith, stop.number))

-- ---- the answer

module _ (me : ℕ) (bytes terms orders : List ℕ) where
  -- no head
  pub opens-headless : opening me bytes ≡ headless → Opens me bytes terms orders (Err NoHead) terms orders
  unfolding opens opening_by
  opens-headless e = rw e

  -- a line that breaks a rule
  pub opens-broken : (line : ℕ) → opening me bytes ≡ broken line → Opens me bytes terms orders (Err (BadLine line)) terms orders
  unfolding opens opening_by
  opens-broken line e = rw e

  -- all lines were good: the log that was made is handed over
  pub opens-found : (b : Record) (made-terms made-orders : List ℕ) (n : ℕ) → opening me bytes ≡ opened (state_of b made-terms made-orders) n
      → b.last ≤ length made-terms → b.last ≤ length made-orders → {terms' orders' : List ℕ}
      → terms' ≡ over terms 0 (take b.last made-terms) → orders' ≡ over orders 0 (take b.last made-orders)
      → Opens me bytes terms orders (Ok (record { state = b; bytes = n })) terms' orders'
  unfolding opens opening_by
  opens-found b made-terms made-orders n e p q t o =
      let long = length-entries_of made-terms made-orders 0 b.last in
      let te = terms_are made-terms made-orders 0 b.last (omega arith) in
      let od = orders_are made-terms made-orders 0 b.last (omega arith) in
      rw (e, t, o, te, od, ← record_same b (entries_of made-terms made-orders 0 b.last) long) refl
