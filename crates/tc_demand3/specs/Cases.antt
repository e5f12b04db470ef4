-- The cases at the edges, P1 to P12 of PUS C, four of PUS A, five of idle packets and nine of spare octets, as one table of what the
-- definitions answer.
use Rattle.std.specs.Prelude.{◌≡◌, true, false, List, [], ◌∷◌, ◌++◌, ℕ, ◌+◌, ◌*◌, Some, None}
use Rattle.crc_register.specs.Crc.{crc_of}
use Rattle.space_packet.specs.Answer.{gives, refuses, refusal}
use Rattle.ecss_write.specs.Write.{length_field}
use Rattle.ecss.specs.declared.PusVersion.TheVariants.{PusA, PusC}
use Rattle.tc_read.specs.Read.{read_of, checked_in, checked_read}
use Rattle.tc_read.specs.declared.PusTcRecord.{PusTcRecord}
use Rattle.space_packet.specs.declared.PacketType.TheVariants.{Tc}
use Rattle.space_packet.specs.declared.SequenceFlags.TheVariants.{Unsegmented}
use Rattle.space_packet.specs.declared.SpacePacketHeader.{SpacePacketHeader}
use Rattle.ecss.specs.Version.{message_type_of}
use Rattle.tc_header.specs.Form.{form_spare, form_a, form_c}
use Rattle.tc_header.specs.Header.{ack_of, sec_from}
use Rattle.tc_write.specs.Creator.{creator_in}
use Rattle.tc_write.specs.Builder.{builder_of}
use Rattle.tc_write.specs.declared.PusTcBuilder.{PusTcBuilder}
use Rattle.tc_write.specs.declared.PusTcCreator.{PusTcCreator}
use Rattle.tc_strict.specs.Verdict.{strict_in, strict_of}

-- a ping command's octets before the checksum, with the length field n: 19 23 C0 05 00 n 2F 11 01 00 00
abbrev pub ping : ℕ → List ℕ
ping n = 0x19 ∷ 0x23 ∷ 0xC0 ∷ 0x05 ∷ 0x00 ∷ n ∷ 0x2F ∷ 0x11 ∷ 0x01 ∷ 0x00 ∷ 0x00 ∷ []

-- what is reported of it and of the same with another APID than 291: count 5, service 17, subtype 1, and no data
abbrev pub header_for : ℕ → ℕ → SpacePacketHeader
header_for apid n = record {
  version = 0;
  packet_id = record { packet_type = Tc; sec_header_flag = true; apid = record { 0 = apid } };
  psc = record { seq_flags = Unsegmented; seq_count = record { 0 = 5 } };
  data_len = n;
}

-- with the length field n, and data from `start` up to the checksum
abbrev pub record_from : ℕ → ℕ → ℕ → ℕ → PusTcRecord
record_from apid n start crc = record {
  sp_header = header_for apid n;
  sec_header = record { message_type_id = record { type_id = 17; subtype_id = 1 }; source_id = 0; ack_flags = record { 0 = 15 }; version = PusC };
  start = start;
  end = n + 5;
  total = n + 7;
  crc16 = Some crc;
}

abbrev pub record_for : ℕ → ℕ → PusTcRecord
record_for apid crc = record_from apid 6 11 crc

abbrev pub ping_record : PusTcRecord
ping_record = record_for 291 0x616D

-- what the builder makes it of, and as it builds it
abbrev pub ping_by : ℕ → PusTcCreator
ping_by n = creator_in form_c (header_for 291 n) (sec_from (message_type_of 17 1) (ack_of 15) 0 PusC) true

abbrev pub ping_builder : PusTcBuilder
ping_builder = builder_of (ping_by 0)

abbrev pub ping_bare : PusTcRecord
ping_bare = record {
  sp_header = header_for 291 4;
  sec_header = record { message_type_id = record { type_id = 17; subtype_id = 1 }; source_id = 0; ack_flags = record { 0 = 15 }; version = PusC };
  start = 11;
  end = 11;
  total = 11;
  crc16 = None;
}

-- a ping command of PUS A without a source ID, and with the first half of octet 6: 19 23 C0 05 00 04 .F 11 01
abbrev pub ping_a : ℕ → List ℕ
ping_a half = 0x19 ∷ 0x23 ∷ 0xC0 ∷ 0x05 ∷ 0x00 ∷ 0x04 ∷ (half * 16 + 15) ∷ 0x11 ∷ 0x01 ∷ []

abbrev pub ping_record_a : PusTcRecord
ping_record_a = record {
  sp_header = header_for 291 4;
  sec_header = record { message_type_id = record { type_id = 17; subtype_id = 1 }; source_id = 0; ack_flags = record { 0 = 15 }; version = PusA };
  start = 9;
  end = 9;
  total = 11;
  crc16 = Some 0x8A99;
}

-- the ping command with the length field n, the low octet of another APID, which has the highest three bits set, and the first half of
-- octet 6: 1F .. C0 05 00 n .F 11 01 00 00
abbrev pub ping_to : ℕ → ℕ → ℕ → List ℕ
ping_to n low half = 0x1F ∷ low ∷ 0xC0 ∷ 0x05 ∷ 0x00 ∷ n ∷ (half * 16 + 15) ∷ 0x11 ∷ 0x01 ∷ 0x00 ∷ 0x00 ∷ []

pub record Cases : Type 0 where
  -- the checksum of no octets, of 00, of FF, and of FF FF
  pub p1 : crc_of [] ≡ 0xFFFF
  pub p2 : crc_of (0x00 ∷ []) ≡ 0xE1F0
  pub p3 : crc_of (0xFF ∷ []) ≡ 0xFF00
  pub p4 : crc_of (0xFF ∷ 0xFF ∷ []) ≡ 0x0000
  -- a ping command is accepted, and ending in 6C it is refused with 4, 616C and 616D
  pub p5 : strict_of (ping 6 ++ (0x61 ∷ 0x6D ∷ [])) ≡ gives ping_record
  pub p6 : strict_of (ping 6 ++ (0x61 ∷ 0x6C ∷ [])) ≡ refuses (refusal 4 (0x616C ∷ 0x616D ∷ []))
  -- ten octets, and eleven with the length field 3
  pub p7 : strict_of (0x19 ∷ 0x23 ∷ 0xC0 ∷ 0x05 ∷ 0x00 ∷ 0x06 ∷ 0x2F ∷ 0x11 ∷ 0x01 ∷ 0x00 ∷ []) ≡ refuses (refusal 2 (10 ∷ 11 ∷ []))
  pub p8 : strict_of (ping 3) ≡ refuses (refusal 2 (10 ∷ 11 ∷ []))
  -- eleven octets with the length field 4: accepted without a checksum, and checked it is found 9
  pub p9 : read_of (ping 4) false ≡ gives ping_bare
  pub p9-checked : checked_read (ping 4) ≡ refuses (refusal 2 (9 ∷ 11 ∷ []))
  -- twelve octets with the length field 5, checked
  pub p10 : checked_read (ping 5 ++ (0x61 ∷ [])) ≡ refuses (refusal 2 (10 ∷ 11 ∷ []))
  -- 65,529 octets of data have the largest length field, and 65,530 none
  pub p11 : length_field 11 true 65529 ≡ gives 65535
  pub p12 : length_field 11 true 65530 ≡ refuses (refusal 6 (65530 ∷ []))
  -- PUS A: a ping command in 11 octets is accepted; with the zero bit set it is refused, though its checksum is right; PUS C's ping
  -- is another version; and a source ID of 9 bits is refused
  pub a-ping : strict_in (form_a 0) (ping_a 1 ++ (0x8A ∷ 0x99 ∷ [])) ≡ gives ping_record_a
  pub a-nine : strict_in (form_a 0) (ping_a 9 ++ (0xB1 ∷ 0xC3 ∷ [])) ≡ refuses (refusal 3 (9 ∷ []))
  pub a-from-c : strict_in (form_a 16) (ping 6 ++ (0x61 ∷ 0x6D ∷ [])) ≡ refuses (refusal 3 (2 ∷ []))
  pub a-width : strict_in (form_a 9) (ping_a 1 ++ (0x8A ∷ 0x99 ∷ [])) ≡ refuses (refusal 32 [])
  -- APID 2,046 is accepted; 2,047 is refused, in PUS A too, but behind another PUS version; and the reader takes it
  pub before-idle : strict_of (ping_to 6 0xFE 2 ++ (0x1A ∷ 0x1A ∷ [])) ≡ gives (record_for 2046 0x1A1A)
  pub idle : strict_of (ping_to 6 0xFF 2 ++ (0x75 ∷ 0x5F ∷ [])) ≡ refuses (refusal 12 [])
  pub idle-a : strict_in (form_a 16) (ping_to 6 0xFF 1 ++ (0x79 ∷ 0xB1 ∷ [])) ≡ refuses (refusal 12 [])
  pub idle-version : strict_of (ping_to 6 0xFF 1 ++ (0x79 ∷ 0xB1 ∷ [])) ≡ refuses (refusal 3 (1 ∷ []))
  pub idle-read : checked_read (ping_to 6 0xFF 2 ++ (0x75 ∷ 0x5F ∷ [])) ≡ gives (record_for 2047 0x755F)
  -- three spare octets: a ping command in 16 octets is accepted; one that is 1 is refused, last of all, and read over; five are refused
  -- before all else; 13 octets are too few; and there is room for three octets of data less
  pub spare-three : strict_in (form_spare 3) (ping 9 ++ (0x00 ∷ 0x00 ∷ 0x00 ∷ 0x49 ∷ 0x79 ∷ [])) ≡ gives (record_from 291 9 14 0x4979)
  pub spare-not-zero : strict_in (form_spare 3) (ping 9 ++ (0x00 ∷ 0x01 ∷ 0x00 ∷ 0x7A ∷ 0x48 ∷ [])) ≡ refuses (refusal 20 [])
  pub spare-skipped : checked_in (form_spare 3) (ping 9 ++ (0x00 ∷ 0x01 ∷ 0x00 ∷ 0x7A ∷ 0x48 ∷ [])) ≡ gives (record_from 291 9 14 0x7A48)
  pub spare-idle : strict_in (form_spare 3) (ping_to 9 0xFF 2 ++ (0x00 ∷ 0x01 ∷ 0x00 ∷ 0x86 ∷ 0x1C ∷ [])) ≡ refuses (refusal 12 [])
  pub spare-five : strict_in (form_spare 5) (ping 6 ++ (0x61 ∷ 0x6C ∷ [])) ≡ refuses (refusal 19 [])
  pub spare-few : strict_in (form_spare 3) (ping 6 ++ (0x61 ∷ 0x6D ∷ [])) ≡ refuses (refusal 2 (13 ∷ 14 ∷ []))
  pub spare-most : length_field 14 true 65526 ≡ gives 65535
  pub spare-above : length_field 14 true 65527 ≡ refuses (refusal 6 (65527 ∷ []))
  -- 14 octets that two spare lengths accept: a zero that is data, or the one spare octet
  pub two-forms : (strict_of (ping 7 ++ (0x00 ∷ 0xA9 ∷ 0xE6 ∷ [])) ≡ gives (record_from 291 7 11 0xA9E6))
      × (strict_in (form_spare 1) (ping 7 ++ (0x00 ∷ 0xA9 ∷ 0xE6 ∷ [])) ≡ gives (record_from 291 7 12 0xA9E6))
