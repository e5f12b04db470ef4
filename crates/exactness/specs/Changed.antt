-- Bits of a packet changed on its way, none of them in the length field. Bits count from the most significant bit of
-- octet 0, in the order of transmission: bit k of octet i, from its most significant, is bit 8 * i + k.
use Rattle.std.specs.Prelude.{ℕ, ◌≤◌, ◌≡◌, Bool, List, get_or, take}
use Rattle.crc_register.specs.Crc.{bits_of}
use Rattle.crc_register.specs.Added.{add_bits}
use Rattle.detect.specs.Errors.{Detected, UpToThree, near_octets}

-- the row of bits that is set where the bits of two rows of octets differ
abbrev pub differences : List ℕ → List ℕ → List Bool
differences s s' = add_bits (bits_of s) (bits_of s')

-- s' agrees with s in octets 4 and 5, and the bits in which it differs from it inside the first t octets, or as many as it has, are as
-- D says; what follows them is free
pub record ChangedIn (D : List Bool → Type 0) (s s' : List ℕ) (t : ℕ) : Type 0 where
  pub four : get_or s' 4 0 ≡ get_or s 4 0
  pub five : get_or s' 5 0 ≡ get_or s 5 0
  pub bits : D (differences (take t s) (take t s'))

-- bits that the checksum detects, in a packet of any length
abbrev pub Changed : List ℕ → List ℕ → ℕ → Type 0
Changed = ChangedIn Detected

-- one, two or three bits, in a packet of at most 4,095 octets
pub record UpToThreeChanged (s s' : List ℕ) (t : ℕ) : Type 0 where
  pub at_most : t ≤ near_octets
  pub changed : ChangedIn UpToThree s s' t
