-- The set request, service 20 subtype 3: a count of one octet, then pairs of a two-octet parameter ID and a value. How it is read and how
-- it is written, by the list of the mission's parameters.
use Rattle.std.specs.Prelude.{ℕ, zero, suc, ◌+◌, Bool, true, not, ◌&&◌, List, [], ◌∷◌, ◌++◌, length, take, drop, get_or, set, replicate, ltb, Option, Some, None}
use Rattle.space_packet.specs.Answer.{Answer, Kept, gives, refuses, refusal, refuse_if, ◌then◌}
use Rattle.space_packet.specs.Bits.{pick, be16, word}
use Rattle.param_value.specs.Octets.{number_of, size_in}
use Rattle.param_value.specs.Values.{value_of, value_octets}
use Rattle.param_value.specs.declared.Value.TheVariants.{Unsigned}
use Rattle.params.specs.Parameters.{Row, ptc_of, pfc_of, octets_by, list_check, known, row_of}
use Rattle.params.specs.declared.Pair.{Pair}
use Rattle.params.specs.declared.Params.{Params}
use Rattle.params.specs.declared.Found.{Found}

-- ---- the record of the pairs

abbrev pub blank : Pair
blank = record { id = 0; value = Unsigned 0 }

-- the record of at most 255 pairs
unfoldable pub holding : List Pair → Params
holding ps = record { pairs = ps ++ drop (length ps) (replicate 255 blank); count = length ps }

abbrev pub pairs_of : Params → List Pair
pairs_of p = take p.count p.pairs

-- one pair more; of a 256th the count alone tells
abbrev pub pushed : Params → Pair → Params
pushed p x = pick (ltb p.count 255) (record { pairs = set p.pairs p.count x; count = p.count + 1 }) (record { pairs = p.pairs; count = 256 })

-- the i-th pair, from 0 on
abbrev pub pair_at : List Pair → ℕ → Option Pair
pair_at l i = pick (ltb i (length l)) (Some (get_or l i blank)) None

-- ---- reading

-- where data ended early, 2: found their length, expected where what is read would end
abbrev pub up_to : {A : Type 0} → List ℕ → ℕ → Answer A → Answer A
up_to d end k = refuse_if (ltb (length d) end) (refusal 2 (length d ∷ end ∷ [])) k

-- the octets of a parameter's values
abbrev pub octets_in : List Row → ℕ → ℕ
octets_in l id = octets_by (row_of l id)

-- the pair in data from `at` on, and where it ends
abbrev pub found_at : List Row → List ℕ → ℕ → Found
found_at l d at =
    let row : Row = row_of l (word d at) in
    record {
      pair = record { id = word d at; value = value_of (ptc_of row) (pfc_of row) (number_of (take (octets_by row) (drop (at + 2) d))) };
      end = at + 2 + octets_by row;
    }

-- the first met of 2, the ID ended early; 22; 2, the value ended early
unfoldable pub read_pair : List Row → List ℕ → ℕ → Answer Found
read_pair l d at =
    up_to d (at + 2)
    (refuse_if (not (known l (word d at))) (refusal 22 []) (up_to d (at + 2 + octets_in l (word d at)) (gives (found_at l d at))))

-- pairs that were read, and where they end
pub record Pairs : Type 0 where
  pub pairs : List Pair
  pub end : ℕ

abbrev pub behind : Pair → Pairs → Pairs
behind p r = record { pairs = p ∷ r.pairs; end = r.end }

-- n pairs from `at` on
unfoldable pub read_pairs : List Row → List ℕ → ℕ → ℕ → Answer Pairs
read_pairs l d zero at = gives (record { pairs = []; end = at })
read_pairs l d (suc n) at = read_pair l d at then λ f. read_pairs l d n f.end then λ r. gives (behind f.pair r)

-- all the data are read, or 23
unfoldable pub all_read : List ℕ → Answer Pairs → Answer (List Pair)
all_read d a = a then λ r. refuse_if (ltb r.end (length d)) (refusal 23 []) (gives r.pairs)

-- the request: 21; 2 or 22, the first met; 23
unfoldable pub read_request : List Row → List ℕ → Answer (List Pair)
read_request l d = list_check l then λ _. up_to d 1 (all_read d (read_pairs l d (get_or d 0 0) 1))

-- what is handed back: the pairs, none where it was refused
unfoldable pub kept_of : Answer (List Pair) → Kept Params
kept_of (gives ps) = record { passed = gives tt; kept = holding ps }
kept_of (refuses e) = record { passed = refuses e; kept = holding [] }

abbrev pub read_in : List Row → List ℕ → Kept Params
read_in l d = kept_of (read_request l d)

-- ---- writing

unfoldable pub ids_known : List Row → List Pair → Bool
ids_known l [] = true
ids_known l (p ∷ ps) = known l p.id && ids_known l ps

-- the octets of a pair; 24
unfoldable pub pair_octets : List Row → Pair → Answer (List ℕ)
pair_octets l p = value_octets (ptc_of (row_of l p.id)) (pfc_of (row_of l p.id)) p.value then λ o. gives (be16 p.id ++ o)

unfoldable pub pairs_octets : List Row → List Pair → Answer (List ℕ)
pairs_octets l [] = gives []
pairs_octets l (p ∷ ps) = pair_octets l p then λ o. pairs_octets l ps then λ r. gives (o ++ r)

-- the octets of a request of n pairs: 21; 22, of any pair; 24
unfoldable pub request_octets : List Row → ℕ → List Pair → Answer (List ℕ)
request_octets l n ps =
    list_check l then λ _. refuse_if (not (ids_known l ps)) (refusal 22 []) (refuse_if (ltb 255 n) (refusal 24 []) (pairs_octets l ps then λ o. gives (n ∷ o)))

abbrev pub record_octets : List Row → Params → Answer (List ℕ)
record_octets l p = request_octets l p.count (pairs_of p)

-- how many octets an answer gives
unfoldable pub length_of : Answer (List ℕ) → Answer ℕ
length_of a = a then λ o. gives (length o)

-- written into a buffer of m octets: 21, 22, 24, then 1
abbrev pub write_in : List Row → Params → ℕ → Answer ℕ
write_in l p m = size_in (record_octets l p) m
