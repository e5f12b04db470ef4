-- Numbers in octets, the most significant first; and octets that are to be written.
use Rattle.std.specs.Prelude.{ℕ, zero, suc, ◌+◌, ◌*◌, ◌/◌, ◌%◌, ◌<◌, List, [], ◌∷◌, ◌++◌, length, get_or}
use Rattle.space_packet.specs.Answer.{Answer, gives, refuses, ◌then◌, in_buffer}

-- each is an octet
abbrev pub Octets : List ℕ → Type 0
Octets s = (i : ℕ) → get_or s i 0 < 256

-- the number that octets stand for, behind those of a
unfoldable pub number_from : ℕ → List ℕ → ℕ
number_from a [] = a
number_from a (o ∷ s) = number_from (a * 256 + o) s

abbrev pub number_of : List ℕ → ℕ
number_of s = number_from 0 s

-- the k lowest octets of a number
unfoldable pub octets_of : ℕ → ℕ → List ℕ
octets_of zero v = []
octets_of (suc k) v = octets_of k (v / 256) ++ (v % 256 ∷ [])

-- ---- octets that an answer gives

-- their number, where a buffer of m octets has room for them; what the answer refuses, then 1
unfoldable pub size_in : Answer (List ℕ) → ℕ → Answer ℕ
size_in a m = a then λ l. in_buffer m (length l)

-- the octets, none where it refuses
abbrev pub given_by : Answer (List ℕ) → List ℕ
given_by (gives l) = l
given_by (refuses e) = []
