-- The telecommand's builder.
use Rattle.std.specs.Prelude.{◌+◌, true}
use Rattle.space_packet.specs.Answer.{Kept, set_if}
use Rattle.space_packet.specs.Header.{header_of, id_from, psc_from}
use Rattle.space_packet.specs.declared.PacketType.TheVariants.{Tc}
use Rattle.space_packet.specs.declared.SequenceFlags.TheVariants.{Unsegmented}
use Rattle.ecss.specs.Version.{message_type_of}
use Rattle.tc_header.specs.Form.{form_c}
use Rattle.tc_header.specs.Header.{ack_check, ack_of, sec_from}
use Rattle.tc_header.specs.declared.AckFlags.{AckFlags}
use Rattle.tc_header.specs.declared.TcForm.{TcForm}
use Rattle.tc_write.specs.Creator.{creator_in, with_sec}
use Rattle.tc_write.specs.declared.PusTcCreator.{PusTcCreator}
use Rattle.tc_write.specs.declared.PusTcBuilder.{PusTcBuilder}

-- a creator in the making
abbrev pub builder_of : PusTcCreator → PusTcBuilder
builder_of t = record { 0 = t }

-- a telecommand of the form, with its version and these acknowledgements: packet version number 0, APID 0, unsegmented, count 0,
-- service 0, subtype 0, source 0, a checksum
abbrev pub builder_with : TcForm → AckFlags → PusTcBuilder
builder_with f a =
    builder_of
    (creator_in f (header_of (id_from Tc true (record { 0 = 0 })) (psc_from Unsegmented (record { 0 = 0 })) 0 0)
    (sec_from (message_type_of 0 0) a 0 f.version) true)

-- what a builder asks for unless it is told otherwise: acceptance 8 and completion 1
abbrev pub default_ack : AckFlags
default_ack = ack_of (8 + 1)

abbrev pub builder_in : TcForm → PusTcBuilder
builder_in f = builder_with f default_ack

abbrev pub default_builder : PusTcBuilder
default_builder = builder_in form_c

-- a builder that asks for these
abbrev pub asking : PusTcBuilder → AckFlags → PusTcBuilder
asking b a =
    builder_of
    (with_sec b.0 (sec_from b.0.sec_header.message_type_id a b.0.sec_header.source_id b.0.sec_header.version))

-- what `with_ack_flags` answers, and what it leaves of a builder
abbrev pub with_flags : PusTcBuilder → AckFlags → Kept PusTcBuilder
with_flags b a = set_if (ack_check a) b (asking b a)
