-- `frame::checked` meets its contract: a total that the frame gives has room for the checksum.
use Rattle.std.proofs.Common.{arith, sym}
use Rattle.ecss.proofs.Frames.{frame-total}
use Rattle.ecss.proofs.frame.checked.Goals as goal

pub overflow_sub-total : goal.overflow_sub-total
overflow_sub-total c =
    let q = frame-total _ _ _ _ (sym c.in_ok-total.ensures) in omega arith
