-- Requests as their pairs: the octets that pairs are written as, and what a machine's values hold.
use Rattle.std.specs.Prelude.{List, [], ◌∷◌, ℕ, length}
use Rattle.space_packet.specs.Answer.{Answer}
use Rattle.param_value.specs.Values.{Held}
use Rattle.params.specs.Parameters.{Row}
use Rattle.params.specs.Request.{request_octets}
use Rattle.params.specs.declared.Pair.{Pair}

-- the octets of these pairs; 21, 22, 24
abbrev pub request_for : List Row → List Pair → Answer (List ℕ)
request_for l ps = request_octets l (length ps) ps

-- each value is one of a machine's
abbrev pub HeldAll : List Pair → Type 0
HeldAll [] = Unit {0}
HeldAll (p ∷ ps) = Held p.value × HeldAll ps
