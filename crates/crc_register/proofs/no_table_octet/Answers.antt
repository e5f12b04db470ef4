-- `crc_register::no_table_octet` meets its contract: the shifts give the step.
use native.Mathlib.Omega.{arith}
use Rattle.crc_register.specs.Crc.{◌⊕◌}
use Rattle.crc_register.proofs.Octet.{shifts, by-shifts}
use Rattle.crc_register.proofs.no_table_octet.Goals as goal

pub returns : goal.returns
unfolding ◌⊕◌ shifts
returns c =
    rw c.from.ensures (by-shifts c.args.r c.args.b (omega arith) (omega arith))
