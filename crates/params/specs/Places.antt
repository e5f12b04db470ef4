-- Room in a buffer: what the calls know of it.
use Rattle.std.specs.Prelude.{ℕ, ◌+◌, ◌≤◌, ◌≡◌, List, length}
use Rattle.space_packet.specs.Answer.{Answer, gives}

-- octets that an answer gives, with room for them in m octets behind the first k
pub record HasRoom (a : Answer (List ℕ)) (k m : ℕ) : Type 0 where
  pub octets : List ℕ
  pub are : a ≡ gives octets
  pub room : k + length octets ≤ m
