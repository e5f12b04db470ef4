-- `tracker_history::in_a_row` meets its contract: each call follows the history of those before it, and what is open then is what the history says.
use Rattle.tracker_history.specs.History.{start, ◌▸◌, sent, reported}
use Rattle.tracker_history.specs.Answers.{run}
use Rattle.tracker_history.proofs.Calls.{sent-follows, report-follows, asked-exactly}
use Rattle.tracker_history.proofs.in_a_row.Goals as goal

pub returns : goal.returns
unfolding run
returns c =
    let a = c.args in
    let one = start ▸ sent a.first.now in
    let two = one ▸ reported a.time_len a.report.now in
    let p = (sent-follows _ _ _ c.send.ensures start c.new-tracker.ensures).runs in
    let q = (report-follows _ _ _ _ c.report.ensures one p).runs in
    let r = (sent-follows _ _ _ c.send-2.ensures two q).runs in
    asked-exactly _ a.id _ (two ▸ sent a.second.now) c.is_open.ensures r
