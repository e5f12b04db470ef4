-- Cases at the edges, as one table of what the definitions answer: a report with a time of 7 octets, shorter and longer times, and
-- telemetry beside telecommands.
use Rattle.std.specs.Prelude.{◌≡◌, Bool, true, false, List, [], ◌∷◌, ◌++◌, ℕ, ◌+◌, ◌-◌, ◌*◌, Some}
use Rattle.space_packet.specs.Answer.{gives, refuses, refusal}
use Rattle.space_packet.specs.declared.PacketType.{PacketType}
use Rattle.space_packet.specs.declared.PacketType.TheVariants as T
use Rattle.space_packet.specs.declared.SequenceFlags.TheVariants.{Unsegmented}
use Rattle.space_packet.specs.declared.SpacePacketHeader.{SpacePacketHeader}
use Rattle.ecss.specs.Version.{default_config}
use Rattle.ecss.specs.declared.PusVersion.TheVariants.{PusC}
use Rattle.ecss_write.specs.Write.{length_field}
use Rattle.tm_header.specs.Header.{time_check, sec_from}
use Rattle.tm_header.specs.declared.PusTmSecondaryHeader.{PusTmSecondaryHeader}
use Rattle.tm_write.specs.Creator.{creator_of, new_of}
use Rattle.tm_read.specs.Read.{start_in, checked_in, timestamp_in, source_data_in}
use Rattle.tm_read.specs.declared.PusTmRecord.{PusTmRecord}
use Rattle.tm_strict.specs.Verdict.{strict_in}
use Rattle.tc_header.specs.Form.{form_a}
use Rattle.tc_strict.specs.Verdict as Tc

-- a report's octets before the time, with the first two octets, the length field n, and the first half of octet 6:
-- .. .. C0 05 00 n .3 11 02 01 02 03 04
abbrev pub head_of : ℕ → ℕ → ℕ → ℕ → List ℕ
head_of first low n half = first ∷ low ∷ 0xC0 ∷ 0x05 ∷ 0x00 ∷ n ∷ (half * 16 + 3) ∷ 0x11 ∷ 0x02 ∷ 0x01 ∷ 0x02 ∷ 0x03 ∷ 0x04 ∷ []

-- a time of 6 octets, of 7, and of 16
abbrev pub six : List ℕ
six = 0x01 ∷ 0x02 ∷ 0x03 ∷ 0x04 ∷ 0x05 ∷ 0x06 ∷ []

abbrev pub seven : List ℕ
seven = six ++ (0x07 ∷ [])

abbrev pub sixteen : List ℕ
sixteen = seven ++ (0x08 ∷ 0x09 ∷ 0x0A ∷ 0x0B ∷ 0x0C ∷ 0x0D ∷ 0x0E ∷ 0x0F ∷ 0x10 ∷ [])

-- the report with a time of 7 octets and no data, with its checksum's octets
abbrev pub report : ℕ → ℕ → ℕ → List ℕ → List ℕ
report first low half crc = head_of first low 0x0F half ++ seven ++ crc

-- the octets of the one that is accepted
abbrev pub accepted : List ℕ
accepted = report 0x09 0x23 2 (0x3B ∷ 0x38 ∷ [])

-- what is reported of it: APID 291, count 5, service 17, subtype 2, time reference status 3, message counter 258, destination 772
abbrev pub header_as : PacketType → Bool → ℕ → ℕ → SpacePacketHeader
header_as type flag apid n = record {
  version = 0;
  packet_id = record { packet_type = type; sec_header_flag = flag; apid = record { 0 = apid } };
  psc = record { seq_flags = Unsegmented; seq_count = record { 0 = 5 } };
  data_len = n;
}

abbrev pub header_for : ℕ → ℕ → SpacePacketHeader
header_for = header_as T.Tm true

abbrev pub fields_with : ℕ → PusTmSecondaryHeader
fields_with status = sec_from PusC status (record { type_id = 17; subtype_id = 2 }) 258 772

-- with the data from `start` to `end`
abbrev pub record_for : ℕ → ℕ → ℕ → ℕ → PusTmRecord
record_for apid start end crc = record {
  sp_header = header_for apid (end + 2 - 7);
  sec_header = fields_with 3;
  start = start;
  end = end;
  total = end + 2;
  crc16 = Some crc;
}

-- a header that is handed to construction: a telecommand's, without a secondary header
abbrev pub handed : ℕ → SpacePacketHeader
handed apid = header_as T.Tc false apid 0

-- a ping command with two octets of data: 19 23 C0 05 00 08 2F 11 01 00 00 00 00
abbrev pub command : List ℕ
command = 0x19 ∷ 0x23 ∷ 0xC0 ∷ 0x05 ∷ 0x00 ∷ 0x08 ∷ 0x2F ∷ 0x11 ∷ 0x01 ∷ 0x00 ∷ 0x00 ∷ 0x00 ∷ 0x00 ∷ 0x1B ∷ 0x01 ∷ []

pub record Cases : Type 0 where
  -- a report is accepted, with its time and no data, and ending in 39 it is refused with 4, 3B39 and 3B38
  pub taken : strict_in 7 accepted ≡ gives (record_for 291 20 20 0x3B38)
  pub taken-time : timestamp_in 7 accepted true ≡ seven
  pub taken-data : source_data_in 7 accepted true ≡ []
  pub altered : strict_in 7 (report 0x09 0x23 2 (0x3B ∷ 0x39 ∷ [])) ≡ refuses (refusal 4 (0x3B39 ∷ 0x3B38 ∷ []))
  -- one octet short of the headers, one short of the total, and a total that is one short of the checksum
  pub no-headers : strict_in 7 (head_of 0x09 0x23 0x0F 2 ++ six) ≡ refuses (refusal 2 (19 ∷ 20 ∷ []))
  pub no-total : strict_in 7 (report 0x09 0x23 2 (0x3B ∷ [])) ≡ refuses (refusal 2 (21 ∷ 22 ∷ []))
  pub no-checksum : strict_in 7 (head_of 0x09 0x23 0x0E 2 ++ six ++ (0x47 ∷ 0xDD ∷ [])) ≡ refuses (refusal 2 (19 ∷ 20 ∷ []))
  -- where the mission has a time of 6 octets, the seventh is data; where it has 8, the total is short of them
  pub as-six : strict_in 6 accepted ≡ gives (record_for 291 19 20 0x3B38)
  pub as-six-data : source_data_in 6 accepted true ≡ 0x07 ∷ []
  pub as-eight : strict_in 8 accepted ≡ refuses (refusal 2 (20 ∷ 21 ∷ []))
  -- no time, the longest, and one that is longer, which is refused before all else
  pub no-time : strict_in 0 (head_of 0x09 0x23 0x08 2 ++ (0xBC ∷ 0x0F ∷ [])) ≡ gives (record_for 291 13 13 0xBC0F)
  pub longest : strict_in 16 (head_of 0x09 0x23 0x18 2 ++ sixteen ++ (0x86 ∷ 0x5C ∷ [])) ≡ gives (record_for 291 29 29 0x865C)
  pub too_long : strict_in 17 accepted ≡ refuses (refusal 14 [])
  pub too-long-alone : strict_in 17 [] ≡ refuses (refusal 14 [])
  -- packet version number 1, type bit 1, no secondary header, and PUS version 1, each with a checksum that is right
  pub version-one : strict_in 7 (report 0x29 0x23 2 (0xED ∷ 0x9E ∷ [])) ≡ refuses (refusal 9 (1 ∷ []))
  pub type-bit : strict_in 7 (report 0x19 0x23 2 (0x50 ∷ 0x6B ∷ [])) ≡ refuses (refusal 13 [])
  pub no-secondary : strict_in 7 (report 0x01 0x23 2 (0x86 ∷ 0x81 ∷ [])) ≡ refuses (refusal 11 [])
  pub nibble-one : strict_in 7 (report 0x09 0x23 1 (0x60 ∷ 0x00 ∷ [])) ≡ refuses (refusal 3 (1 ∷ []))
  -- APID 2,046 is accepted, and 2,047 refused; of another PUS version, it is that which is told; and the reader takes it
  pub before-idle : strict_in 7 (report 0x0F 0xFE 2 (0xE3 ∷ 0x4C ∷ [])) ≡ gives (record_for 2046 20 20 0xE34C)
  pub idle : strict_in 7 (report 0x0F 0xFF 2 (0x3D ∷ 0x53 ∷ [])) ≡ refuses (refusal 12 [])
  pub idle-version : strict_in 7 (report 0x0F 0xFF 1 (0x66 ∷ 0x6B ∷ [])) ≡ refuses (refusal 3 (1 ∷ []))
  pub idle-read : checked_in 7 (report 0x0F 0xFF 2 (0x3D ∷ 0x53 ∷ [])) ≡ gives (record_for 2047 20 20 0x3D53)
  -- the report as a telecommand, of both editions; a command as telemetry without a time
  pub as-command : Tc.strict_of accepted ≡ refuses (refusal 10 [])
  pub as-command-a : Tc.strict_in (form_a 8) accepted ≡ refuses (refusal 10 [])
  pub from-command : strict_in 0 command ≡ refuses (refusal 13 [])
  -- the most data, with the largest length field, and one octet more: without a time, with 7 octets of it, and with 16
  pub most-without : length_field (start_in 0) true 65527 ≡ gives 65535
  pub more-without : length_field (start_in 0) true 65528 ≡ refuses (refusal 6 (65528 ∷ []))
  pub most : length_field (start_in 7) true 65520 ≡ gives 65535
  pub more : length_field (start_in 7) true 65521 ≡ refuses (refusal 6 (65521 ∷ []))
  pub most-with : length_field (start_in 16) true 65511 ≡ gives 65535
  pub more-with : length_field (start_in 16) true 65512 ≡ refuses (refusal 6 (65512 ∷ []))
  -- a time field of 16 octets is not taken for one of 15, nor one of 15 for 16; and 17 is not a length
  pub sixteen-for-fifteen : time_check 15 16 ≡ refuses (refusal 14 [])
  pub fifteen-for-sixteen : time_check 16 15 ≡ refuses (refusal 14 [])
  pub seventeen : time_check 17 17 ≡ refuses (refusal 14 [])
  -- construction refuses in order: 14 before the fields, 7 for the APID before the time reference status, then 6; and it sets type,
  -- secondary header flag and length
  pub order-time : new_of 7 (handed 2048) (fields_with 16) six 65521 default_config ≡ refuses (refusal 14 [])
  pub order-apid : new_of 7 (handed 2048) (fields_with 16) seven 65521 default_config ≡ refuses (refusal 7 (2 ∷ 2048 ∷ []))
  pub order-status : new_of 7 (handed 291) (fields_with 16) seven 65521 default_config ≡ refuses (refusal 7 (4 ∷ 16 ∷ []))
  pub order-length : new_of 7 (handed 291) (fields_with 3) seven 65521 default_config ≡ refuses (refusal 6 (65521 ∷ []))
  pub made : new_of 7 (handed 291) (fields_with 3) seven 0 default_config ≡ gives (creator_of 7 (header_for 291 15) (fields_with 3) true)
