-- `Reservation::finalize_no_checksum` meets its contract: the total has room for the checksum once the check passed.
use Rattle.std.proofs.Common.{arith, sym}
use Rattle.reserve.proofs.Reserved.{holds-in}
use Rattle.reserve.proofs.Reservation.finalize_no_checksum.Goals as goal

pub overflow_sub-result : goal.overflow_sub-result
overflow_sub-result c =
    let q = (holds-in _ _ _ (sym c.in_ok-check_in.ensures)).0 in omega arith
