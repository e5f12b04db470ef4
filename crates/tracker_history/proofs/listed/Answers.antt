-- `tracker_history::listed` meets its contract: the open requests are the history's, in its order.
use mathlib.Core.Path.{ap, ◌∙◌}
use Rattle.tracker.specs.Open.{open_of, request_at}
use Rattle.tracker_history.proofs.Histories.{ids-held}
use Rattle.tracker_history.proofs.listed.Goals as goal

pub returns : goal.returns
returns c =
    let i = c.args.i in
    λ h q. c.open_at.ensures ∙ ap (λ t. request_at (open_of t) i) q ∙ ap (λ l. request_at l i) (ids-held h)
