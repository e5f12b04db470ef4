-- `profile_exact::copied` meets its contract: each setter by its own.
use Rattle.profile_exact.proofs.Building.{by-setters}
use Rattle.profile_exact.proofs.copied.Goals as goal

pub returns : goal.returns
returns c =
    by-setters c.new-builder.result c.with_message_type_id.new.self c.with_source_id.new.self c.with_apid.new.self c.with_packet_sequence_control.new.self c.with_ack_flags.new.self _ _ _ c.args.report
    c.message_type_id.ensures c.source_id.ensures c.apid.ensures c.psc.ensures c.ack_flags.ensures
    c.with_message_type_id.ensures c.with_source_id.ensures c.with_apid.ensures c.with_packet_sequence_control.ensures c.with_ack_flags.ensures
