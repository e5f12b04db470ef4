-- The list of the mission's parameters: rows of an ID, its PTC and its PFC, the IDs strictly rising.
use Rattle.std.specs.Prelude.{ℕ, Bool, true, false, not, ◌&&◌, ◌||◌, List, [], ◌∷◌, get_or, eqb, ltb, Option, Some, None}
use Rattle.space_packet.specs.Bits.{pick}
use Rattle.space_packet.specs.Answer.{Passed, gives, refusal, refuse_if}
use Rattle.param_value.specs.Values.{octets_for}

abbrev pub Row : Type 0
Row = List ℕ

abbrev pub id_of : Row → ℕ
id_of r = get_or r 0 0

abbrev pub ptc_of : Row → ℕ
ptc_of r = get_or r 1 0

abbrev pub pfc_of : Row → ℕ
pfc_of r = get_or r 2 0

-- the octets of the parameter's values; 0 where its type is not named
abbrev pub octets_by : Row → ℕ
octets_by r = octets_for (ptc_of r) (pfc_of r)

-- the next row, if there is one, has a larger ID
abbrev pub below : Row → List Row → Bool
below r [] = true
below r (q ∷ l) = ltb (id_of r) (id_of q)

-- its type is named, and it is below the next
abbrev pub row_good : Row → List Row → Bool
row_good r l = not (eqb (octets_by r) 0) && below r l

unfoldable pub list_good : List Row → Bool
list_good [] = true
list_good (r ∷ l) = row_good r l && list_good l

-- 21
unfoldable pub list_check : List Row → Passed
list_check l = refuse_if (not (list_good l)) (refusal 21 []) (gives tt)

unfoldable pub known : List Row → ℕ → Bool
known [] id = false
known (r ∷ l) id = eqb (id_of r) id || known l id

-- the row of a parameter; zeros, which name no type, where the list has none
unfoldable pub row_of : List Row → ℕ → Row
row_of [] id = 0 ∷ 0 ∷ 0 ∷ []
row_of (r ∷ l) id = pick (eqb (id_of r) id) r (row_of l id)

-- the row of a parameter that the list has
abbrev pub row_in : List Row → ℕ → Option Row
row_in l id = pick (known l id) (Some (row_of l id)) None
