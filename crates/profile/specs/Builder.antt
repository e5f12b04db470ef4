-- The profile's commands and their builder. A command holds what a mission chooses, and nothing else can be said in it; its data d, or
-- their number n, travel beside it.
use Rattle.std.specs.Prelude.{ℕ, true, List, length, Result}
use Rattle.space_packet.specs.Answer.{Answer, gives, ◌then◌, in_buffer}
use Rattle.space_packet.specs.declared.PusError.{PusError}
use Rattle.space_packet.specs.Header.{packet_len, header_of, id_from, psc_from}
use Rattle.space_packet.specs.Wrote.{Wrote}
use Rattle.space_packet.specs.declared.Apid.{Apid}
use Rattle.space_packet.specs.declared.PacketSequenceControl.{PacketSequenceControl}
use Rattle.space_packet.specs.declared.PacketType.TheVariants.{Tc}
use Rattle.space_packet.specs.declared.SequenceFlags.TheVariants.{Unsegmented}
use Rattle.space_packet.specs.declared.SpacePacketHeader.{SpacePacketHeader}
use Rattle.ecss.specs.Kind.{Packet, packet_of}
use Rattle.ecss.specs.Version.{message_type_of, default_config}
use Rattle.ecss.specs.declared.MessageTypeId.{MessageTypeId}
use Rattle.ecss.specs.declared.PusVersion.TheVariants.{PusC}
use Rattle.ecss_write.specs.Writer.{packet_by, made_by}
use Rattle.tc_header.specs.Header.{sec_from, pus_c}
use Rattle.tc_header.specs.declared.AckFlags.{AckFlags}
use Rattle.tc_header.specs.declared.PusTcSecondaryHeader.{PusTcSecondaryHeader}
use Rattle.tc_write.specs.Builder.{default_ack}
use Rattle.tc_write.specs.Command.{command_c}
use Rattle.tc_write.specs.Creator.{new_of}
use Rattle.tc_write.specs.declared.PusTcCreator.{PusTcCreator}
use Rattle.profile.specs.Rules.{profile_rule}
use Rattle.profile.specs.declared.ProfileTc.{ProfileTc}
use Rattle.profile.specs.declared.ProfileBuilder.{ProfileBuilder}

-- ---- a command

abbrev pub command_from : Apid → PacketSequenceControl → MessageTypeId → ℕ → AckFlags → ProfileTc
command_from a p m n k =
    record { apid = a; psc = p; message_type_id = m; source_id = n; ack_flags = k }

-- its headers: packet version number 0, a telecommand with a secondary header, of PUS C; the length is that of the data it is given
abbrev pub header_for : ProfileTc → SpacePacketHeader
header_for t = header_of (id_from Tc true t.apid) t.psc 0 0

abbrev pub sec_for : ProfileTc → PusTcSecondaryHeader
sec_for t = sec_from t.message_type_id t.ack_flags t.source_id PusC

-- the packet that it is with the data d, and its octets, a checksum behind them
abbrev pub command_of : ProfileTc → List ℕ → Packet PusTcSecondaryHeader
command_of t d = packet_by (made_by command_c (header_for t) d) (sec_for t) d

abbrev pub octets_of : ProfileTc → List ℕ → List ℕ
octets_of t d = packet_of pus_c (command_of t d)

-- ---- the calls

-- with n octets of data: construction, 7 and 6, then the profile's rules, 25 to 30
unfoldable pub creator_for : ProfileTc → ℕ → Answer PusTcCreator
creator_for t n =
    new_of (header_for t) (sec_for t) n default_config
    then λ c. profile_rule c.sp_header c.sec_header then λ _. gives c

-- build
abbrev pub built_for : ProfileTc → ℕ → Answer ProfileTc
built_for t n = creator_for t n then λ _. gives t

-- the primary header that is written, and the octets in total
abbrev pub header_with : ProfileTc → ℕ → Answer SpacePacketHeader
header_with t n = creator_for t n then λ c. gives c.sp_header

abbrev pub length_with : ProfileTc → ℕ → Answer ℕ
length_with t n = header_with t n then λ h. gives (packet_len h)

-- writing into a buffer of m octets: what building asks, of the data that is written, then 1
abbrev pub write_for : ProfileTc → ℕ → ℕ → Answer ℕ
write_for t n m = length_with t n then in_buffer m

abbrev pub CommandWrote : ProfileTc → List ℕ → List ℕ → Result ℕ PusError → List ℕ → Type 0
CommandWrote t d before r after = Wrote (write_for t (length d) (length before)) (octets_of t d) before r after

-- ---- the builder

-- a command in the making
abbrev pub builder_of : ProfileTc → ProfileBuilder
builder_of t = record { 0 = t }

-- APID 0, unsegmented, count 0, service 0, subtype 0, source 0; acceptance and completion are asked for
abbrev pub default_builder : ProfileBuilder
default_builder =
    builder_of
    (command_from (record { 0 = 0 }) (psc_from Unsegmented (record { 0 = 0 })) (message_type_of 0 0) 0 default_ack)

-- with one field changed
abbrev pub with_apid : ProfileBuilder → Apid → ProfileBuilder
with_apid b a = let t = b.0 in builder_of (command_from a t.psc t.message_type_id t.source_id t.ack_flags)

abbrev pub with_psc : ProfileBuilder → PacketSequenceControl → ProfileBuilder
with_psc b p = let t = b.0 in builder_of (command_from t.apid p t.message_type_id t.source_id t.ack_flags)

abbrev pub with_type : ProfileBuilder → MessageTypeId → ProfileBuilder
with_type b m = let t = b.0 in builder_of (command_from t.apid t.psc m t.source_id t.ack_flags)

abbrev pub with_source : ProfileBuilder → ℕ → ProfileBuilder
with_source b n = let t = b.0 in builder_of (command_from t.apid t.psc t.message_type_id n t.ack_flags)

abbrev pub with_ack : ProfileBuilder → AckFlags → ProfileBuilder
with_ack b k = let t = b.0 in builder_of (command_from t.apid t.psc t.message_type_id t.source_id k)
