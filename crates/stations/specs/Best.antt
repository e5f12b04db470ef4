-- Of two captures of one telemetry packet, over the length t of its time, the one that passes the strict verdict: the first if both do.
use Rattle.std.specs.Prelude.{ℕ, List, [], take}
use Rattle.space_packet.specs.Answer.{Answer, Numbers, gives, refuses, numbers_of}
use Rattle.space_packet.specs.Part.{Address}
use Rattle.ecss.specs.Frame.{stated_of}
use Rattle.tm_strict.specs.Verdict.{strict_in}
use Rattle.stations.specs.declared.Station.{Station}
use Rattle.stations.specs.declared.Station.TheVariants as S

-- the capture that is taken; where neither passes, both refusals
pub data Choice : Type 0 where
  first : Choice
  second : Choice
  neither : Numbers → Numbers → Choice

abbrev pub choose : {A : Type 0} → Answer A → Answer A → Choice
choose (gives r) w = first
choose (refuses d) (gives r) = second
choose (refuses d) (refuses e) = neither d e

unfoldable pub chosen : ℕ → List ℕ → List ℕ → Choice
chosen t a b = choose (strict_in t a) (strict_in t b)

abbrev pub station_answer : Station → Choice
station_answer S.First = first
station_answer S.Second = second
station_answer (S.Neither d e) = neither (numbers_of d) (numbers_of e)

-- the packet that a capture begins with, as long as it states; octets after it are not in it
abbrev pub packet_in : List ℕ → List ℕ
packet_in s = take (stated_of s) s

-- the packet of the capture that is taken; where neither passes, the empty part
abbrev pub part_of : Choice → List ℕ → List ℕ → List ℕ
part_of first a b = packet_in a
part_of second a b = packet_in b
part_of (neither d e) a b = []

abbrev pub best_in : ℕ → List ℕ → List ℕ → List ℕ
best_in t a b = part_of (chosen t a b) a b

-- where it lies, for captures that lie at p and q: at the start of the one that is taken; where neither passes, of the first
abbrev pub place_of : Choice → Address → Address → Address
place_of first p q = p
place_of second p q = q
place_of (neither d e) p q = p

abbrev pub best_at : ℕ → List ℕ → List ℕ → Address → Address → Address
best_at t a b = place_of (chosen t a b)
