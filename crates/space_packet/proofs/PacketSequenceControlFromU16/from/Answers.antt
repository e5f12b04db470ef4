-- `PacketSequenceControl::from` meets its contract: the flags of the two highest bits, and the count of the rest.
use Rattle.space_packet.specs.Fields.{psc_of}
use Prim.Native.Nat.{◌%◌}
use mathlib.Core.Path.{ap, ◌∙◌}
use Rattle.space_packet.specs.Header.{psc_from}
use Rattle.space_packet.proofs.PacketSequenceControlFromU16.from.Goals as goal

pub returns : goal.returns
unfolding psc_of
returns c =
    c.new.ensures ∙ ap (λ f. psc_from f (record { 0 = c.args.raw % 16384 })) c.new_with_raw_value.ensures
