-- `gap_report::put_total` meets its contract: a name and a number.
use Rattle.text.proofs.Pages.{and_then}
use Rattle.gap_report.specs.Report.{total_text}
use Rattle.gap_report.proofs.put_total.Goals as goal

pub returns : goal.returns
unfolding total_text
returns c =
    and_then _ _ _ c.put_text-at.ensures c.put_number.ensures
