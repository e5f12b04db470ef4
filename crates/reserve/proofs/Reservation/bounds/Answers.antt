-- `Reservation::bounds` meets its contract: the end cannot fall below 0 once the check passed.
use Rattle.std.proofs.Common.{arith, sym}
use Rattle.reserve.proofs.Reserved.{bounds-give, holds-in}
use Rattle.reserve.proofs.Reservation.bounds.Goals as goal

pub overflow_sub-result : goal.overflow_sub-result
overflow_sub-result c =
    let q = (holds-in _ _ _ (sym c.in_ok-check_in.ensures)).0 in omega arith

pub returns : goal.returns
returns c =
    bounds-give _ c.args.self _ _ (sym c.in_ok-check_in.ensures) c.trailer_len.ensures
