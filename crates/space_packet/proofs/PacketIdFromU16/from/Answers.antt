-- `PacketId::from` meets its contract: the type is of its bit, and the flag and the APID are cut as in the definition.
use Rattle.space_packet.specs.Fields.{id_of}
use Prim.Native.Nat.{◌/◌, ◌%◌}
use mathlib.Core.Path.{ap, ◌∙◌}
use Rattle.space_packet.specs.Bits.{lowest}
use Rattle.space_packet.specs.Header.{id_from}
use Rattle.space_packet.proofs.PacketIdFromU16.from.Goals as goal

pub returns : goal.returns
unfolding id_of
returns c =
    let w = c.args.raw in c.new.ensures ∙ ap (λ t. id_from t (lowest (w / 2048)) (record { 0 = w % 2048 })) c.packet_type_in_raw_packet_id.ensures
