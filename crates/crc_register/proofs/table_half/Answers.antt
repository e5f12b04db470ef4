-- `crc_register::table_half` meets its contract: the table has the entry.
use native.Mathlib.Omega.{arith}
use Rattle.crc_register.specs.Crc.{◌⊕◌}
use Rattle.crc_register.proofs.Octet.{by-entry, half_lt}
use Rattle.crc_register.proofs.table_half.Goals as goal

pub table_entry-requires : goal.table_entry-requires
unfolding ◌⊕◌
table_entry-requires c =
    rw c.from.ensures (half_lt c.args.r c.args.h (omega arith) c.requires)

pub returns : goal.returns
unfolding ◌⊕◌
returns c =
    by-entry c.args.r c.args.h c.requires (rw c.from.ensures at c.table_entry.ensures)
