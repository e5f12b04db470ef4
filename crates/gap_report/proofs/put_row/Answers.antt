-- `gap_report::put_row` meets its contract: three numbers, two spaces, and the end of the line.
use Rattle.text.proofs.Pages.{and_then}
use Rattle.gap_report.specs.Report.{row_text}
use Rattle.gap_report.proofs.put_row.Goals as goal

pub returns : goal.returns
unfolding row_text
returns c =
    and_then _ _ _
    (and_then _ _ _
    (and_then _ _ _
    (and_then _ _ _ (and_then _ _ _ c.put_number-at.ensures c.put_text-at.ensures) c.put_number-at-2.ensures)
    c.put_text-at-2.ensures)
    c.put_number-at-3.ensures)
    c.put_text.ensures
