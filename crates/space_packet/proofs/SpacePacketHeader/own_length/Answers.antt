-- `space_packet::SpacePacketHeader::own_length` meets its contract: as `header_len` does.
use mathlib.Core.Path.{refl}
use Rattle.space_packet.specs.Header.{header_octets}
use Rattle.space_packet.proofs.SpacePacketHeader.own_length.Goals as goal

pub returns : goal.returns
unfolding header_octets
returns c =
    λ h. refl
