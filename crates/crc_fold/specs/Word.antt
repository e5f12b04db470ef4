-- Words, by their octets. Only private contracts cite this: a reader of the public ones can pass it by.
use Rattle.std.specs.Prelude.{◌≡◌, List, [], ◌∷◌, reverse, ℕ, zero, suc, ◌*◌, ◌/◌, ◌%◌, ◌^◌, ◌≤◌, length, drop}
use Rattle.crc_register.specs.Crc.{crc_from}

-- the n low octets of a number, the most significant first
unfoldable pub octs : ℕ → ℕ → List ℕ
octs zero w = []
octs (suc n) w = w / 2 ^ (n * 8) % 256 ∷ octs n w

-- the octets of a word, the least significant first
unfoldable pub lows : ℕ → List ℕ
lows w = reverse (octs 8 w)

-- the octets of s from i on are still to come, and will make t of the register r
pub record Left (s : List ℕ) (t i r : ℕ) : Type 0 where
  pub within : i ≤ length s
  pub will : crc_from r (drop i s) ≡ t
