-- `tracker_history::reported` meets its contract: a report after any calls is answered as the history says.
use Rattle.tracker_history.proofs.Calls.{report-follows}
use Rattle.tracker_history.proofs.reported.Goals as goal

pub returns : goal.returns
returns c =
    report-follows _ _ _ _ c.report.ensures
