-- `PusTcSecondaryHeader::write_to_slice_in` meets its contract: what passed the checks can be put.
use mathlib.Core.Path.{sym}
use Rattle.tc_header.proofs.Checks.{asked-put}
use Rattle.tc_header.proofs.PusTcSecondaryHeader.write_to_slice_in.Goals as goal

pub put-requires : goal.put-requires
put-requires c =
    asked-put _ _ _ (sym c.in_ok-check.ensures)
