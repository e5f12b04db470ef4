-- A checksum on its way, by the octets taken so far.
use Rattle.std.specs.Prelude.{List, ℕ}
use Rattle.crc_register.specs.Crc.{crc_from, crc_of}
use Rattle.crc.specs.declared.Digest.{Digest}

-- the digest of the octets l
abbrev pub digest_of : List ℕ → Digest
digest_of l = record { register = crc_of l }

-- a digest once it has taken the octets s too
abbrev pub taken : Digest → List ℕ → Digest
taken d s = record { register = crc_from d.register s }

-- there is no final inversion: the register is the checksum
abbrev pub checksum_held : Digest → ℕ
checksum_held d = d.register
