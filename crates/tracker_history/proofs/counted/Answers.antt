-- `tracker_history::counted` meets its contract: as many are open as by the history, at most 32 and all distinct.
use mathlib.Core.Path.{ap, ◌∙◌}
use lib.ListN.{length}
use Rattle.tracker.specs.Open.{open_of}
use Rattle.tracker_history.proofs.Distinct.{open-few}
use Rattle.tracker_history.proofs.Histories.{ids-held}
use Rattle.tracker_history.proofs.counted.Goals as goal

pub returns : goal.returns
returns c =
    λ h q. (c.open_count.ensures ∙ ap (λ t. length (open_of t)) q ∙ ap length (ids-held h), open-few h)
