-- `SpacePacketHeader::new_from_fields` meets its contract: the packet ID and the sequence control, in a new header.
use mathlib.Core.Path.{◌∙◌}
use Rattle.space_packet.specs.Header.{header_of}
use Rattle.space_packet.proofs.SpacePacketHeader.new_from_fields.Goals as goal

pub returns : goal.returns
returns c =
    c.new-3.ensures ∙ (λ i. header_of (c.new.ensures i) (c.new-2.ensures i) c.args.data_len 0)
