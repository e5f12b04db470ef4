-- Numbers as rows of bits, the most significant first, as the standards draw their fields.
use Rattle.std.specs.Prelude.{ℕ, zero, suc, ◌/◌, ◌%◌, ◌^◌, ◌*◌, ◌+◌, Bool, true, false, List, [], ◌∷◌, ◌++◌, get_or, eqb}

-- one choice for every type
abbrev pub pick : {A : Type 0} → Bool → A → A → A
pick true a b = a
pick false a b = b

-- the lowest bit of a number
abbrev pub lowest : ℕ → Bool
lowest n = eqb (n % 2) 1

-- the w lowest bits of a number
unfoldable pub bits : ℕ → ℕ → List Bool
bits zero v = []
bits (suc w) v = lowest (v / 2 ^ w) ∷ bits w v

-- the bits of a row of octets
unfoldable pub row : List ℕ → List Bool
row [] = []
row (o ∷ s) = bits 8 o ++ row s

-- a flag as a number
abbrev pub flag_number : Bool → ℕ
flag_number true = 1
flag_number false = 0

-- sixteen bits in two octets, the higher first
abbrev pub be16 : ℕ → List ℕ
be16 w = w / 256 ∷ w % 256 ∷ []

-- the sixteen bits that stand in the octets at `at` and after it
abbrev pub word : List ℕ → ℕ → ℕ
word s at = get_or s at 0 * 256 + get_or s (at + 1) 0
