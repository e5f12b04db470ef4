-- The fields of the primary header, in the numbers that stand in its octets. CCSDS 133.0-B-2, 4.1.3.
use Rattle.std.specs.Prelude.{ℕ, ◌+◌, ◌*◌, ◌/◌, ◌%◌, Bool, eqb}
use Rattle.space_packet.specs.Answer.{Passed, in_range}
use Rattle.space_packet.specs.Bits.{pick, lowest, flag_number}
use Rattle.space_packet.specs.declared.Apid.{Apid}
use Rattle.space_packet.specs.declared.SeqCount.{SeqCount}
use Rattle.space_packet.specs.declared.PacketType.{PacketType}
use Rattle.space_packet.specs.declared.PacketType.TheVariants.{Tm, Tc}
use Rattle.space_packet.specs.declared.SequenceFlags.{SequenceFlags}
use Rattle.space_packet.specs.declared.SequenceFlags.TheVariants.{ContinuationSegment, FirstSegment, LastSegment, Unsegmented}
use Rattle.space_packet.specs.declared.PacketId.{PacketId}
use Rattle.space_packet.specs.declared.PacketSequenceControl.{PacketSequenceControl}

-- 4.1.3.3.4: the APID has 11 bits, and 4.1.3.4.3: the count 14. Their places in a refusal are 2 and 3.
abbrev pub apid_check : Apid → Passed
apid_check a = in_range 2 2047 a.0

abbrev pub count_check : SeqCount → Passed
count_check n = in_range 3 16383 n.0

-- 4.1.3.3.4: the APID of all ones is reserved for idle packets
abbrev pub idle_apid : Apid
idle_apid = record { 0 = 2047 }

abbrev pub is_idle : Apid → Bool
is_idle a = eqb a.0 idle_apid.0

-- 4.1.3.3.2: 0 is telemetry, 1 a telecommand
abbrev pub type_number : PacketType → ℕ
type_number Tm = 0
type_number Tc = 1

abbrev pub type_of : ℕ → PacketType
type_of n = pick (lowest n) Tc Tm

-- 4.1.3.4.2: 0 continuation, 1 first, 2 last, 3 unsegmented
abbrev pub flags_number : SequenceFlags → ℕ
flags_number ContinuationSegment = 0
flags_number FirstSegment = 1
flags_number LastSegment = 2
flags_number Unsegmented = 3

abbrev pub flags_of : ℕ → SequenceFlags
flags_of n =
    pick (lowest (n / 2)) (pick (lowest n) Unsegmented LastSegment) (pick (lowest n) FirstSegment ContinuationSegment)

-- 4.1.3.3: type 1 bit, secondary header flag 1, APID 11
unfoldable pub id_raw : PacketId → ℕ
id_raw i = type_number i.packet_type * 4096 + flag_number i.sec_header_flag * 2048 + i.apid.0 % 2048

unfoldable pub id_of : ℕ → PacketId
id_of w = record { packet_type = type_of (w / 4096); sec_header_flag = lowest (w / 2048); apid = record { 0 = w % 2048 } }

-- 4.1.3.4: sequence flags 2 bits, count 14
unfoldable pub psc_raw : PacketSequenceControl → ℕ
psc_raw p = flags_number p.seq_flags * 16384 + p.seq_count.0 % 16384

unfoldable pub psc_of : ℕ → PacketSequenceControl
psc_of w = record { seq_flags = flags_of (w / 16384); seq_count = record { 0 = w % 16384 } }

-- the packet ID with another APID
abbrev pub id_with_apid : PacketId → Apid → PacketId
id_with_apid i a = record { packet_type = i.packet_type; sec_header_flag = i.sec_header_flag; apid = a }
