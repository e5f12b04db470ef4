-- A row as a record: an APID and two counts, each within its width.
use Rattle.std.specs.Prelude.{ℕ, List, get_or}
use Rattle.space_packet.specs.Answer.{Answer, gives, in_range, ◌then◌}
use Rattle.gaps.specs.declared.Gap.{Gap}

abbrev pub gap_from : ℕ → ℕ → ℕ → Gap
gap_from a e f = record { apid = record { 0 = a }; expected = record { 0 = e }; found = record { 0 = f } }

-- 7 for the APID (place 2), the count that was expected and the one that was found (place 3)
unfoldable pub gap_in : ℕ → ℕ → ℕ → Answer Gap
gap_in a e f = in_range 2 2047 a then λ _. in_range 3 16383 e then λ _. in_range 3 16383 f then λ _. gives (gap_from a e f)

abbrev pub gap_of_row : List ℕ → Answer Gap
gap_of_row row = gap_in (get_or row 0 0) (get_or row 1 0) (get_or row 2 0)
