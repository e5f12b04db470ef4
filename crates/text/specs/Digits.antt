-- Numbers and octets as text.
use Rattle.std.specs.Prelude.{ℕ, zero, suc, ◌+◌, ◌*◌, ◌-◌, ◌/◌, ◌%◌, Bool, true, false, List, [], ◌∷◌, ◌++◌, eqb, ltb, length, drop, Option, Some, None, option_and_then}
use Rattle.text.specs.Pieces.{pick}

-- a hexadecimal digit's character: `0` to `9`, then `A` to `F`
unfoldable pub hex_glyph : ℕ → ℕ
hex_glyph d = pick (ltb d 10) (48 + d) (55 + d)

-- the value of `0` to `9` and of `A` to `F`, and 16 for any other character
unfoldable pub hex_value : ℕ → ℕ
hex_value c = pick (ltb c 48) 16 (pick (ltb c 58) (c - 48) (pick (ltb c 65) 16 (pick (ltb c 71) (c - 55) 16)))

-- an octet's two digits
abbrev pub hex_octet : ℕ → List ℕ
hex_octet b = hex_glyph (b / 16) ∷ hex_glyph (b % 16) ∷ []

unfoldable pub hex_text : List ℕ → List ℕ
hex_text [] = []
hex_text (b ∷ l) = hex_glyph (b / 16) ∷ hex_glyph (b % 16) ∷ hex_text l

-- the octet of two digits, or 256
unfoldable pub pair_value : ℕ → ℕ → ℕ
pair_value x y =
    pick (ltb 15 (hex_value x)) 256 (pick (ltb 15 (hex_value y)) 256 (hex_value x * 16 + hex_value y))

-- the octet that a text begins with, or 256
abbrev pub pair_of : List ℕ → ℕ
pair_of [] = 256
pair_of (x ∷ []) = 256
pair_of (x ∷ y ∷ l) = pair_value x y

-- whether a text is pairs of digits to its end
unfoldable pub are_pairs : List ℕ → Bool
are_pairs [] = true
are_pairs (x ∷ []) = false
are_pairs (x ∷ y ∷ l) = pick (ltb 255 (pair_value x y)) false (are_pairs l)

-- the octets of its pairs
unfoldable pub pair_octets : List ℕ → List ℕ
pair_octets [] = []
pair_octets (x ∷ []) = []
pair_octets (x ∷ y ∷ l) = pair_value x y ∷ pair_octets l

-- ---- decimals

-- a number of at most k digits, with no leading zeros
unfoldable pub decimal_in : ℕ → ℕ → List ℕ
decimal_in zero n = []
decimal_in (suc k) n = pick (ltb n 10) ((48 + n) ∷ []) (decimal_in k (n / 10) ++ ((48 + n % 10) ∷ []))

-- a number below 2^64, which has at most 20
unfoldable pub decimal : ℕ → List ℕ
decimal n = decimal_in 20 n

-- a number's digits and one more, where it is one and the number stays below 2^64
unfoldable pub with_digit : ℕ → ℕ → Option ℕ
with_digit n d = pick (ltb 9 d) None (pick (ltb 18446744073709551615 (n * 10 + d)) None (Some (n * 10 + d)))

unfoldable pub number_from : ℕ → List ℕ → Option ℕ
number_from n [] = Some n
number_from n (c ∷ l) = option_and_then (λ m. number_from m l) (with_digit n (hex_value c))

-- 1 to 20 digits
unfoldable pub number_of : List ℕ → Option ℕ
number_of l = pick (eqb (length l) 0) None (pick (ltb 20 (length l)) None (number_from 0 l))

-- four hexadecimal digits
unfoldable pub word_of : List ℕ → Option ℕ
word_of l =
    pick (eqb (length l) 4)
    (pick (ltb 255 (pair_of l)) None (pick (ltb 255 (pair_of (drop 2 l))) None (Some (pair_of l * 256 + pair_of (drop 2 l)))))
    None
