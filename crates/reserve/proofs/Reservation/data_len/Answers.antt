-- `Reservation::data_len` meets its contract: the length cannot fall below 0 once the check passed.
use Rattle.std.proofs.Common.{arith, sym}
use Rattle.reserve.proofs.Reserved.{data-len-gives, holds-is}
use Rattle.reserve.proofs.Reservation.data_len.Goals as goal

pub overflow_sub-result : goal.overflow_sub-result
overflow_sub-result c =
    let q = holds-is _ _ (sym c.in_ok-check.ensures) in omega arith

pub overflow_sub-result-2 : goal.overflow_sub-result-2
overflow_sub-result-2 c =
    let q = holds-is _ _ (sym c.in_ok-check.ensures) in omega arith

pub returns : goal.returns
returns c =
    data-len-gives _ c.args.self _ (sym c.in_ok-check.ensures) c.trailer_len.ensures
