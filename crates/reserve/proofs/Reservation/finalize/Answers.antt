-- `Reservation::finalize` meets its contract: sealed where there is a checksum.
use mathlib.Core.Path.{sym, ap}
use native.Mathlib.Omega.{arith}
use Rattle.ecss.specs.Frame.{trailer}
use Rattle.reserve.proofs.Reserved.{holds-in}
use Rattle.reserve.proofs.Filled.{finish-sealed}
use Rattle.reserve.proofs.Reservation.finalize.Goals as goal

pub overflow_sub-self : goal.overflow_sub-self
overflow_sub-self c =
    let q = (holds-in _ _ _ (sym c.in_ok-check_in.ensures)).0 in omega (arith, ap trailer c.if-self.true)

pub overflow_sub-self-then-self : goal.overflow_sub-self-then-self
overflow_sub-self-then-self c =
    let q = (holds-in _ _ _ (sym c.in_ok-check_in.ensures)).0 in omega (arith, ap trailer c.if-self.true)

pub returns-then-self : goal.returns-then-self
returns-then-self c =
    let a = c.args in finish-sealed a.start a.self a.buf.now _ _ (sym c.in_ok-check_in.ensures) c.if-self.true (omega arith) c.seal.ensures
