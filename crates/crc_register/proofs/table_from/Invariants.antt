-- The register has taken in the octets so far.
use Rattle.std.proofs.Common.{◌≡◌, take}
use Rattle.crc_register.specs.Crc.{crc_from}
use Rattle.crc_register.proofs.table_from.Given as goal

abbrev pub invariant-loop-octet : goal.invariant-loop-octet
invariant-loop-octet l =
    l.r ≡ crc_from l.register (take l.octet-index l.data)
