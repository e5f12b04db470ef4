-- What a reader holds: the packet beside its two headers and the choice of checksum.
use Rattle.std.specs.Prelude.{ℕ, Bool, false, List}
use Rattle.space_packet.specs.Answer.{Answer, gives, refuses}
use Rattle.space_packet.specs.Header.{header_of, id_from, psc_from}
use Rattle.space_packet.specs.declared.PacketType.TheVariants.{Tm}
use Rattle.space_packet.specs.declared.SequenceFlags.TheVariants.{Unsegmented}
use Rattle.space_packet.specs.declared.SpacePacketHeader.{SpacePacketHeader}
use Rattle.ecss.specs.declared.PusVersion.TheVariants.{PusC}
use Rattle.tc_header.specs.Header.{sec_from, ack_of}
use Rattle.tc_header.specs.declared.PusTcSecondaryHeader.{PusTcSecondaryHeader}
use Rattle.tc_read.specs.Read.{read_of, raw_data_of}
use Rattle.tc_read.specs.declared.PusTcRecord.{PusTcRecord}
use Rattle.tc_held.specs.declared.PusTcReader.{PusTcReader}

-- the headers that a read reports; where it is refused, the defaults
abbrev pub primary_in : Answer PusTcRecord → SpacePacketHeader
primary_in (gives r) = r.sp_header
primary_in (refuses e) = header_of (id_from Tm false (record { 0 = 0 })) (psc_from Unsegmented (record { 0 = 0 })) 0 0

abbrev pub secondary_in : Answer PusTcRecord → PusTcSecondaryHeader
secondary_in (gives r) = r.sec_header
secondary_in (refuses e) = sec_from (record { type_id = 0; subtype_id = 0 }) (ack_of 15) 0 PusC

pub record Held : Type 0 where
  pub raw : List ℕ
  pub sp_header : SpacePacketHeader
  pub sec_header : PusTcSecondaryHeader
  pub has_checksum : Bool

-- what a reader holds, without the place where its octets lie
abbrev pub held_by : PusTcReader → Held
held_by r = record {
  raw = r.raw.now;
  sp_header = r.sp_header;
  sec_header = r.sec_header;
  has_checksum = r.has_checksum;
}

-- what is held of octets: the packet that they begin with, or the empty part where the read is refused
abbrev pub held_of : List ℕ → Bool → Held
held_of s b = record {
  raw = raw_data_of s b;
  sp_header = primary_in (read_of s b);
  sec_header = secondary_in (read_of s b);
  has_checksum = b;
}
