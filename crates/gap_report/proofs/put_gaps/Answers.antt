-- `gap_report::put_gaps` meets its contract: the rows that were listed, and the end of the walk.
use mathlib.Core.Path.{ap, ◌∙◌}
use Rattle.text.specs.Page.{laid}
use Rattle.text.proofs.Pages.{and_then}
use Rattle.gap_report.proofs.Body.{gaps-text}
use Rattle.gap_report.proofs.put_gaps.Goals as goal

pub returns : goal.returns
returns c =
    and_then _ _ _ c.put_rows-at.ensures c.put_end.ensures ∙ ap (laid _) (gaps-text _ _ _ _ c.list_gaps-found.ensures)
