-- `space_packet::header_len` meets its contract: three words are six octets.
use mathlib.Core.Path.{refl}
use Rattle.space_packet.specs.Header.{header_octets}
use Rattle.space_packet.proofs.header_len.Goals as goal

pub returns : goal.returns
unfolding header_octets
returns c =
    λ h. refl
