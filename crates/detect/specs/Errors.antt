-- The errors that the checksum detects, by the bits that they change. An error is a row of octets as long as the
-- message: its set bits are the places that it changes, counted from the most significant bit of the first octet.
use Rattle.std.specs.Prelude.{◌≡◌, Bool, true, false, List, [], ◌∷◌, ℕ, suc, ◌+◌, ◌%◌, ◌≤◌, ◌<◌, get_or}

-- how many bits are set
unfoldable pub ones : List Bool → ℕ
ones [] = 0
ones (true ∷ bs) = suc (ones bs)
ones (false ∷ bs) = ones bs

-- all bits that are set lie within the run of n consecutive bits from `first` on
abbrev pub Within : ℕ → ℕ → List Bool → Type 0
Within n first bs = (k : ℕ) → get_or bs k false ≡ true → (first ≤ k) × (k < first + n)

-- as many bits as the checksum has
abbrev pub longest : ℕ
longest = 16

-- one or more bits are set, and all of them lie within one such run
pub record Burst (bs : List Bool) : Type 0 where
  pub first : ℕ
  pub within : Within longest first bs
  pub place : ℕ
  pub set : get_or bs place false ≡ true

-- the order of the generator (Order.antt)
abbrev pub reach : ℕ
reach = 32767

-- two bits are set, and both lie within one run of so many: they are fewer places apart than that
pub record Pair (bs : List Bool) : Type 0 where
  pub two : ones bs ≡ 2
  pub first : ℕ
  pub within : Within reach first bs

-- an odd number of bits, or one or more bits all within a run of 16 consecutive bits, or two bits within a run of 32,767
pub data Detected (bs : List Bool) : Type 0 where
  odd : ones bs % 2 ≡ 1 → Detected bs
  burst : Burst bs → Detected bs
  pair : Pair bs → Detected bs

-- one, two or three bits are set, wherever they stand
pub record UpToThree (bs : List Bool) : Type 0 where
  pub one : 1 ≤ ones bs
  pub three : ones bs ≤ 3

-- so many octets have no two bits as far apart as `reach`
abbrev pub near_octets : ℕ
near_octets = 4095
