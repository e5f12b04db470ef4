-- `gap_report::put_end` meets its contract: the totals, or the number of the refusal.
use mathlib.Core.Path.{ap, ◌∙◌}
use Rattle.text.specs.Page.{laid}
use Rattle.text.proofs.Pages.{and_then}
use Rattle.gap_report.proofs.Body.{end-totals, end_refused}
use Rattle.gap_report.proofs.put_end.Goals as goal

pub returns-in-Ok : goal.returns-in-Ok
returns-in-Ok c =
    and_then _ _ _ (and_then _ _ _ (and_then _ _ _ c.put_total-at.ensures c.put_total-at-in-Ok.ensures) c.put_total-at-in-Ok-2.ensures) c.put_text.ensures
    ∙ ap (laid _) (end-totals _ _ c.in-Ok.is)

pub returns-in-Err : goal.returns-in-Err
returns-in-Err c =
    and_then _ _ _ c.put_number-at.ensures c.put_text-in-Err.ensures
    ∙ ap (laid _) (end_refused _ _ _ c.in-Err.is c.number.ensures)
