-- The frame of a packet, over `start`, the octet at which its data starts: 11 for a PUS-C telecommand.
use Rattle.std.specs.Prelude.{ℕ, ◌+◌, ◌-◌, ◌≤◌, ◌<◌, ◌≡◌, Bool, true, false, not, ◌&&◌, List, [], ◌∷◌, ◌++◌, length, get_or, take, drop, ltb, eqb, Option, Some, None}
use Rattle.space_packet.specs.Bits.{be16, word}
use Rattle.space_packet.specs.Answer.{Numbers, Answer, Passed, refusal, gives, refuses, refuse_if, ◌then◌}
use Rattle.crc_register.specs.Crc.{crc_of}

-- numbers that are octets
abbrev pub Octets : List ℕ → Type 0
Octets s = (i : ℕ) → get_or s i 0 < 256

-- ---- the packet error control of the user data field, ECSS-E-ST-70-41C, 7.4.3 and 7.4.4: the last two octets, where there is one

abbrev pub trailer : Bool → ℕ
trailer true = 2
trailer false = 0

-- octets with their checksum behind them
unfoldable pub sealed : List ℕ → List ℕ
sealed l = l ++ be16 (crc_of l)

-- a packet that has a checksum, or has none
abbrev pub closed : Bool → List ℕ → List ℕ
closed true l = sealed l
closed false l = l

-- annex B: octets verify where the checksum over all of them, the last two included, is 0
abbrev pub verifies : List ℕ → Bool
verifies s = eqb (crc_of s) 0

-- all but the last two octets
abbrev pub unsealed : List ℕ → List ℕ
unsealed s = take (length s - 2) s

-- or are refused: with 2 where they are fewer than two; else with the number that is handed in and the checksum of those before the
-- last two
abbrev pub verified : List ℕ → ℕ → Passed
verified s stored =
    refuse_if (ltb (length s) 2) (refusal 2 (length s ∷ 2 ∷ []))
    (refuse_if (not (verifies s)) (refusal 4 (stored ∷ crc_of (unsealed s) ∷ [])) (gives tt))

-- ---- reading

-- CCSDS 133.0-B-2, 4.1.3.5, packet data length: the total that the length field states
abbrev pub stated_of : List ℕ → ℕ
stated_of s = word s 4 + 7

-- and the largest that its 16 bits can state
abbrev pub max_total : ℕ
max_total = 65542

-- with a checksum, the total has room for it behind the headers
abbrev pub checksum_fits : ℕ → Bool → ℕ → Answer ℕ
checksum_fits start true n = refuse_if (ltb n (start + 2)) (refusal 2 ((n - 2) ∷ start ∷ [])) (gives n)
checksum_fits start false n = gives n

-- the reader's order: fewer octets than the headers have; fewer than the stated total; a stated total below the
-- headers; with a checksum, no room for it. The answer is the total.
unfoldable pub frame_of : ℕ → List ℕ → Bool → Answer ℕ
frame_of start s b =
    refuse_if (ltb (length s) start) (refusal 2 (length s ∷ start ∷ []))
    (refuse_if (ltb (length s) (stated_of s)) (refusal 2 (length s ∷ stated_of s ∷ []))
    (refuse_if (ltb (stated_of s) start) (refusal 2 (stated_of s ∷ start ∷ [])) (checksum_fits start b (stated_of s))))

-- the checksum that a packet of n octets stores, and the one of its octets before that
abbrev pub stored_of : List ℕ → ℕ → ℕ
stored_of s n = word s (n - 2)

abbrev pub computed_of : List ℕ → ℕ → ℕ
computed_of s n = crc_of (unsealed (take n s))

-- all reader checks with checksum: octets after the stated total count for nothing
unfoldable pub checked_of : ℕ → List ℕ → Answer ℕ
checked_of start s = frame_of start s true then λ n. verified (take n s) (stored_of s n) then λ _. gives n

-- what 4 tells of a packet of n octets: both checksums, which differ
pub record BothChecksums (s : List ℕ) (n : ℕ) (e : Numbers) : Type 0 where
  pub told : e ≡ refusal 4 (stored_of s n ∷ computed_of s n ∷ [])
  pub differ : stored_of s n ≡ computed_of s n → ⊥

-- and what a refusal of octets tells where it is 4
abbrev pub Told : List ℕ → Numbers → Type 0
Told s e = e.number ≡ 4 → BothChecksums s (stated_of s) e

-- the same behind a check that comes before all others
unfoldable pub frame_after : Passed → ℕ → List ℕ → Bool → Answer ℕ
frame_after first start s b = first then λ _. frame_of start s b

unfoldable pub checked_after : Passed → ℕ → List ℕ → Answer ℕ
checked_after first start s = first then λ _. checked_of start s

-- octets that hold a packet of n octets, where that check passes
pub record Framed (first : Passed) (start : ℕ) (b : Bool) (s : List ℕ) (n : ℕ) : Type 0 where
  pub good : first ≡ gives tt
  pub room : start + trailer b ≤ n
  pub fits : n ≤ length s

-- the checksum of a packet of n octets, where it is taken
abbrev pub crc_taken : Bool → List ℕ → ℕ → Option ℕ
crc_taken true s n = Some (stored_of s n)
crc_taken false s n = None

abbrev pub has_crc : Option ℕ → Bool
has_crc (Some n) = true
has_crc None = false

-- the packet that is handed out, and its data, without a copy; where it is refused, the empty part
abbrev pub raw_part : Answer ℕ → List ℕ → List ℕ
raw_part (refuses e) s = []
raw_part (gives n) s = take n s

abbrev pub data_part : ℕ → Bool → Answer ℕ → List ℕ → List ℕ
data_part start b (refuses e) s = []
data_part start b (gives n) s = take (n - trailer b - start) (drop start s)

-- how far into the octets that data begins; the packet begins where they do, and so does the empty part where it is refused
abbrev pub data_at : ℕ → Answer ℕ → ℕ
data_at start (refuses e) = 0
data_at start (gives n) = start

-- ---- octets compared

unfoldable pub same_octets : List ℕ → List ℕ → Bool
same_octets [] [] = true
same_octets [] (y ∷ t) = false
same_octets (x ∷ s) [] = false
same_octets (x ∷ s) (y ∷ t) = eqb x y && same_octets s t

-- two packets that were read, by their raw octets s and t only; no, where either read is refused
abbrev pub was_read : {A : Type 0} → Answer A → Bool
was_read (refuses e) = false
was_read (gives r) = true

abbrev pub same_reading : {A : Type 0} → Answer A → Answer A → List ℕ → List ℕ → Bool
same_reading a c s t = was_read a && (was_read c && same_octets s t)
