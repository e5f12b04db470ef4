-- A packet whose headers stand in a buffer, and whose data is filled in there, over `start`, where its data starts.
use Rattle.std.specs.Prelude.{ℕ, ◌+◌, ◌-◌, not, List, [], ◌++◌, take, drop, ltb, eqb}
use Rattle.space_packet.specs.Answer.{Answer, Passed, refusal, gives, refuses, refuse_if, ◌then◌, in_buffer}
use Rattle.ecss.specs.Frame.{trailer, closed, max_total}
use Rattle.reserve.specs.declared.Reservation.{Reservation}
use Rattle.reserve.specs.declared.Bounds.{Bounds}

-- where the data ends, and the checksum's place begins
abbrev pub end_of : Reservation → ℕ
end_of r = r.total - trailer r.has_checksum

-- it holds together: the data starts at `start`, the total has room for headers and checksum, and a length field states it
unfoldable pub holds : ℕ → Reservation → Passed
holds start r =
    refuse_if (not (eqb r.start start)) (refusal 8 [])
    (refuse_if (ltb r.total (start + trailer r.has_checksum)) (refusal 8 [])
    (refuse_if (ltb max_total r.total) (refusal 8 []) (gives tt)))

-- 8, then 1 for a buffer of m octets that has no room
unfoldable pub holds_in : ℕ → Reservation → ℕ → Passed
holds_in start r m = holds start r then λ _. in_buffer m r.total then λ _. gives tt

-- ---- the calls

-- how long the data is
abbrev pub data_len_of : ℕ → Reservation → Answer ℕ
data_len_of start r = holds start r then λ _. gives (end_of r - start)

-- the bounds of the data in a buffer of m octets
abbrev pub bounds_of : ℕ → Reservation → ℕ → Answer Bounds
bounds_of start r m = holds_in start r m then λ _. gives (record { start = start; end = end_of r })

-- the part of a list within bounds; where they are refused, the empty part
abbrev pub within : Answer Bounds → List ℕ → List ℕ
within (refuses e) l = []
within (gives b) l = take (b.end - b.start) (drop b.start l)

-- where that part begins, counted from the list's own place
abbrev pub begins_at : Answer Bounds → ℕ
begins_at (refuses e) = 0
begins_at (gives b) = b.start

-- n octets are filled in at the data's start: 8, 1 for the buffer, and 1 for data that is longer than was reserved
unfoldable pub fill_in : ℕ → Reservation → ℕ → ℕ → Answer ℕ
fill_in start r m n = holds_in start r m then λ _. in_buffer (end_of r - start) n

-- the octets before the data, the data d, and what stood behind it
abbrev pub filled_by : Answer ℕ → ℕ → List ℕ → List ℕ → List ℕ
filled_by (gives n) start d before = take start before ++ d ++ drop (start + n) before
filled_by (refuses e) start d before = before

-- finishing answers the total
unfoldable pub finish_in : ℕ → Reservation → ℕ → Answer ℕ
finish_in start r m = holds_in start r m then λ _. gives r.total

-- what it leaves: the octets up to the checksum's place, and where there is a checksum, the checksum over them
abbrev pub finished : Reservation → List ℕ → List ℕ
finished r before = closed r.has_checksum (take (end_of r) before)

-- finishing without a checksum answers the total less its two octets
unfoldable pub bare_in : ℕ → Reservation → ℕ → Answer ℕ
bare_in start r m = holds_in start r m then λ _. gives (end_of r)
