-- The one fact about the checksum from which three changed bits of a packet are refused.
use Rattle.std.specs.Prelude.{◌≡◌, List, ℕ, ◌≤◌, length}
use Rattle.crc_register.specs.Crc.{bits_of, crc_of}
use Rattle.crc_register.specs.Added.{add_octets}
use Rattle.detect.specs.Errors.{UpToThree, near_octets}

-- octets that verify, at most 4,095 of them, do not with one, two or three of their bits changed: those that an error e sets
abbrev pub ThreeBits : Type 0
ThreeBits = (s e : List ℕ) → length s ≡ length e → crc_of s ≡ 0 → length s ≤ near_octets → UpToThree (bits_of e) → crc_of (add_octets s e) ≡ 0 → ⊥
