-- `crc::Digest::new` meets its contract: no octets leave the register as it began.
use Rattle.crc.proofs.Parts.{digest-none}
use Rattle.crc.proofs.Digest.new.Goals as goal

pub returns : goal.returns
returns c =
    digest-none
