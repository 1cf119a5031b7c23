-- Each field is read from its place (`fields-line`).
use Rattle.journal.specs.Lines.{count_in}
use Rattle.opening.specs.CodeLaws.{fields-line}
use Rattle.opening.proofs.lines.line_fields.Goals as goal

pub returns-clause-result_value : goal.returns-clause-result_value
unfolding count_in
returns-clause-result_value c =
    fields-line c.args.s.now _ _ _ _ _ _ c.get.ensures c.get-2.ensures c.get-3.ensures c.get-4.ensures c.get-count.ensures
    c.entries-entries.ensures c.requires.few
