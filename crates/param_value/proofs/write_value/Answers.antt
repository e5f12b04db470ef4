-- `param_value::write_value` meets its contract: what is lent to `put_number` has the octets of the type.
use native.Mathlib.Omega.{arith}
use lib.ListN.{length-take}
use Rattle.param_value.proofs.Types.{octets_le}
use Rattle.param_value.proofs.write_value.Goals as goal

pub put_number-requires : goal.put_number-requires
put_number-requires c =
    let a = c.args in
    let k = c.octets_for-octets.result in
    omega (arith, octets_le a.ptc a.pfc, length-take k a.buf.now, c.octets_for-octets.ensures)
