-- `crc::Digest::update_no_table` meets its contract: the register after the octets, with no table, in a digest.
use mathlib.Core.Path.{ap}
use Rattle.crc.proofs.Parts.{holding}
use Rattle.crc.proofs.Digest.update_no_table.Goals as goal

pub returns : goal.returns
returns c =
    ap holding c.no_table_from.ensures
