-- The digest's law: a list in two parts gives what the whole gives.
use mathlib.Core.Path.{◌≡◌, sym, ap}
use mathlib.Core.List.{List, [], ◌++◌}
use Prim.Native.Nat.{ℕ}
use Rattle.crc.specs.Digest.{digest_of, taken}
use Rattle.crc.specs.declared.Digest.{Digest}
use Rattle.crc_register.proofs.Linear.{crc_from-nil, crc_from-++}

-- a digest by its register
abbrev pub holding : ℕ → Digest
holding r = record { register = r }

pub digest-none : holding 65535 ≡ digest_of []
digest-none = ap holding (sym (crc_from-nil 65535))

-- the octets s after the octets l
pub digest-parts : (l s : List ℕ) → taken (digest_of l) s ≡ digest_of (l ++ s)
digest-parts l s = ap holding (sym (crc_from-++ 65535 l s))
