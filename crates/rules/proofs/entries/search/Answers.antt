-- What was passed and what is passing yet make the whole search (`Passed`); it stops where nothing more passes.
use Rattle.std.proofs.Common.{ℕ, List, ◌≡◌, ◌<◌, length, get_or, sym, ap, ◌∙◌, arith}
use Rattle.frames.specs.declared.Entry.{Entry}
use Rattle.frames.specs.Fields.{no_entry}
use Rattle.raft.specs.Lent.{entries_of}
use Rattle.raft.specs.LentLaws.{length-entries_of, entry_of}
use Rattle.rules.specs.SearchLaws.{passed_first, passed_next, stops_end, stops-past, stops_differs}
use Rattle.rules.proofs.entries.search.Goals as goal

-- the log's entry at a place has the term that is lent there
term_of : (terms orders : List ℕ) (at : ℕ) → at < length terms → (get_or (entries_of terms orders 0 (length terms)) at no_entry).term ≡ get_or terms at 0
term_of terms orders at h = ap (λ (e : Entry). e.term) (entry_of terms orders 0 (length terms) at h) ∙ ap (λ (k : ℕ). get_or terms k 0) (omega arith)

pub loop-at-init : goal.loop-at-init
loop-at-init c = record { least = omega arith; most = omega arith; held = omega arith; passed = λ orders. passed_first _ _ _ }

pub loop-at-preserved : goal.loop-at-preserved
loop-at-preserved c =
    let terms = c.args.terms.now in
    record {
      least = omega arith;
      most = omega arith;
      held = omega arith;
      passed = λ orders.
          passed_next (entries_of terms orders 0 (length terms)) c.args.index c.args.offered.now c.loop-at.at (omega arith)
          (omega (arith, length-entries_of terms orders 0 (length terms))) (omega arith)
          (term_of terms orders c.loop-at.at (omega arith) ∙ c.if-terms-at.false) (c.loop-at.invariant.passed orders);
    }

pub returns-then-at-end-clause-by_index : goal.returns-then-at-end-clause-by_index
returns-then-at-end-clause-by_index c =
    let terms = c.args.terms.now in
    λ orders. stops_end (entries_of terms orders 0 (length terms)) c.args.index c.args.offered.now c.loop-at.at (omega arith) (c.loop-at.invariant.passed orders)

pub returns-then-at-terms-clause-by_index : goal.returns-then-at-terms-clause-by_index
returns-then-at-terms-clause-by_index c =
    let terms = c.args.terms.now in
    λ orders. stops-past (entries_of terms orders 0 (length terms)) c.args.index c.args.offered.now c.loop-at.at
    (omega (arith, length-entries_of terms orders 0 (length terms))) (c.loop-at.invariant.passed orders)

pub returns-then-terms-at-clause-by_index : goal.returns-then-terms-at-clause-by_index
returns-then-terms-at-clause-by_index c =
    let terms = c.args.terms.now in
    λ orders. stops_differs (entries_of terms orders 0 (length terms)) c.args.index c.args.offered.now c.loop-at.at (omega arith)
    (omega (arith, length-entries_of terms orders 0 (length terms))) (omega arith)
    (λ e. c.if-terms-at.true (sym (term_of terms orders c.loop-at.at (omega arith)) ∙ e)) (c.loop-at.invariant.passed orders)
