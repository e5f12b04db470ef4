-- `crc::Digest::update` meets its contract: the register after the octets, by the table, in a digest.
use mathlib.Core.Path.{ap}
use Rattle.crc.proofs.Parts.{holding}
use Rattle.crc.proofs.Digest.update.Goals as goal

pub returns : goal.returns
returns c =
    ap holding c.table_from.ensures
