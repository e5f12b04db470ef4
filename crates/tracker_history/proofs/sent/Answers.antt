-- `tracker_history::sent` meets its contract: a sending after any calls is answered as the history says.
use Rattle.tracker_history.proofs.Calls.{sent-follows}
use Rattle.tracker_history.proofs.sent.Goals as goal

pub returns : goal.returns
returns c =
    sent-follows _ _ _ c.send.ensures
