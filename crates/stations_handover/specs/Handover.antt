-- What is asked of the two calls at a handover, over the length t of the time: the capture that is not taken changes nothing, and the
-- part that is handed back is the packet that the other reports.
use Rattle.std.specs.Prelude.{ℕ, ◌≡◌, true, List}
use Rattle.space_packet.specs.Answer.{Answer, Numbers, gives, refuses}
use Rattle.tm_read.specs.declared.PusTmRecord.{PusTmRecord}
use Rattle.tm_strict.specs.Verdict.{strict_in}
use Rattle.stations.specs.Best.{chosen, best_in}
use Rattle.stations_handover.specs.declared.Seen.{Seen}

-- a verdict accepts, or refuses with whatever number
abbrev pub Accepts : Answer PusTmRecord → Type 0
Accepts v = (r : PusTmRecord) × (v ≡ gives r)

abbrev pub Refuses : Answer PusTmRecord → Type 0
Refuses v = (e : Numbers) × (v ≡ refuses e)

-- a capture passes the strict verdict, or is refused by it
abbrev pub Passes : ℕ → List ℕ → Type 0
Passes t s = Accepts (strict_in t s)

abbrev pub Refused : ℕ → List ℕ → Type 0
Refused t s = Refuses (strict_in t s)

-- nothing is changed in part or answer, where the captures are c and d instead of a and b
pub record Same (t : ℕ) (a b c d : List ℕ) : Type 0 where
  pub answer : chosen t a b ≡ chosen t c d
  pub part : best_in t a b ≡ best_in t c d

-- and so of the calls: one answer, and one part
pub record Alike (r : Seen) : Type 0 where
  pub answer : r.one ≡ r.other
  pub part : r.same_part ≡ true

-- v, the verdict on the part of a and b, reports what the capture that is taken reports; where neither passes it refuses
pub record Judged (t : ℕ) (a b : List ℕ) (v : Answer PusTmRecord) : Type 0 where
  pub first : Passes t a → v ≡ strict_in t a
  pub second : Refused t a → Passes t b → v ≡ strict_in t b
  pub neither : Refused t a → Refused t b → Refuses v
