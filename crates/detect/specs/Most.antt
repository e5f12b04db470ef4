-- What is detected is the most that can be said so: the generator x^16 + x^12 + x^5 + 1, added to a message as an error, is four bits, an
-- even number, within a run of 17, and is not detected; nor are two bits 32,767 places apart, as 4,096 octets have them.
use Rattle.std.specs.Prelude.{◌≡◌, false, List, [], ◌∷◌, ◌++◌, ℕ, ◌+◌, ◌-◌, length, replicate}
use Rattle.crc_register.specs.Crc.{bits_of, crc_of}
use Rattle.crc_register.specs.Added.{add_octets}
use Rattle.detect.specs.Errors.{ones, Within, longest, reach, near_octets}
use Rattle.detect.specs.Order.{power_and_one}

-- its 17 bits, 1 0001 0000 0010 0001, in three octets
abbrev pub generator : List ℕ
generator = 0x01 ∷ 0x10 ∷ 0x21 ∷ []

-- two bits, the first and the last of one octet more than have none so far apart
abbrev pub far_pair : List ℕ
far_pair = 0x80 ∷ (replicate (near_octets - 1) 0 ++ (0x01 ∷ []))

pub record Most : Type 0 where
  -- octets that verify still do
  pub undetected : (s : List ℕ) → length s ≡ 3 → crc_of s ≡ 0 → crc_of (add_octets s generator) ≡ 0
  -- its bits are four, and so even in number
  pub four : ones (bits_of generator) ≡ 4
  -- they lie within a run of one bit more than is detected, and in no shorter one
  pub one_more : Within (longest + 1) 7 (bits_of generator)
  pub no-fewer : (first : ℕ) → Within longest first (bits_of generator) → ⊥
  -- two bits as far apart as the order of the generator, wherever they stand, are not detected
  pub far : (s e : List ℕ) (i j : ℕ) → length s ≡ length e → bits_of e ≡ replicate i false ++ (power_and_one reach ++ replicate j false) → crc_of s ≡ 0 → crc_of (add_octets s e) ≡ 0
  -- and of 4,096 octets the first and the last bit are so far apart
  pub far-octets : length far_pair ≡ near_octets + 1
  pub far-bits : bits_of far_pair ≡ power_and_one reach
