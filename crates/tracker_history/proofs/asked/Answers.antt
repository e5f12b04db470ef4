-- `tracker_history::asked` meets its contract: what is open after any calls is what the history says.
use mathlib.Core.Path.{ap, ◌∙◌}
use Rattle.tracker.specs.Open.{is_open}
use Rattle.tracker_history.proofs.Calls.{asked-exactly}
use Rattle.tracker_history.proofs.Histories.{open-as-history}
use Rattle.tracker_history.proofs.asked.Goals as goal

pub returns : goal.returns
returns c =
    let id = c.args.id in
    let e = c.is_open.ensures in λ h q. (e ∙ ap (λ t. is_open t id) q ∙ open-as-history h id, asked-exactly _ id _ h e q)
