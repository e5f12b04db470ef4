-- `frame::front` meets its contract: fewer octets than are asked for are all of them.
use mathlib.Core.Path.{refl, sym}
use native.Mathlib.Omega.{arith}
use lib.Seq.{take_all, length-take-le}
use Rattle.ecss.proofs.frame.front.Goals as goal

pub returns-then-s-n : goal.returns-then-s-n
returns-then-s-n c =
    record { result_value = sym (take_all c.args.n c.args.s.now (omega arith)); ref_ptr_value = refl }

pub slice_bounds-result-end : goal.slice_bounds-result-end
slice_bounds-result-end c =
    sym (length-take-le c.args.n c.args.s.now (omega arith))
