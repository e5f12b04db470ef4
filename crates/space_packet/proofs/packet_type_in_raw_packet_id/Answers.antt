-- `space_packet::packet_type_in_raw_packet_id` meets its contract: the type of the bit above the lowest twelve.
use Rattle.space_packet.specs.Fields.{id_of}
use Rattle.space_packet.proofs.packet_type_in_raw_packet_id.Goals as goal

pub returns : goal.returns
unfolding id_of
returns c =
    c.new_with_raw_value.ensures
