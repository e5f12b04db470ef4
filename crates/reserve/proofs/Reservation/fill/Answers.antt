-- `Reservation::fill` meets its contract: what the fill of the middle answers, put back in its place.
use Rattle.std.proofs.Common.{arith, sym}
use Rattle.reserve.proofs.Reserved.{bounds-are}
use Rattle.reserve.proofs.Filled.{fill-wrote}
use Rattle.reserve.proofs.Reservation.fill.Goals as goal

pub slice_bounds-fill-count : goal.slice_bounds-fill-count
slice_bounds-fill-count c =
    let q = bounds-are _ _ _ _ (sym c.in_ok-at.ensures) in omega arith

pub slice_bounds-fill-start : goal.slice_bounds-fill-start
slice_bounds-fill-start c =
    let q = bounds-are _ _ _ _ (sym c.in_ok-at.ensures) in omega arith

pub slice_bounds-fill-end : goal.slice_bounds-fill-end
slice_bounds-fill-end c =
    let q = bounds-are _ _ _ _ (sym c.in_ok-at.ensures) in omega arith

pub returns : goal.returns
returns c =
    let a = c.args in fill-wrote a.start a.self a.buf.now a.«data».now _ _ _ (bounds-are _ _ _ _ (sym c.in_ok-at.ensures)) c.fill.ensures
