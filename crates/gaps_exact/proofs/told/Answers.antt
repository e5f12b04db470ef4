-- `gaps_exact::told` meets its contract: the call answers what `Listed` says, of which `tells` speaks.
use Rattle.gaps_exact.proofs.Tells.{tells}
use Rattle.gaps_exact.proofs.told.Goals as goal

pub returns : goal.returns
returns c =
    tells _ _ _ _ c.list_gaps.ensures
