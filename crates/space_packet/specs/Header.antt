-- The primary header: its row of fields, its octets, and its reading. CCSDS 133.0-B-2, 4.1.3.
use Rattle.std.specs.Prelude.{ℕ, ◌+◌, ◌*◌, ◌/◌, ◌≤◌, Bool, ◌&&◌, List, [], ◌∷◌, ◌++◌, length, drop, ltb, eqb}
use Rattle.space_packet.specs.Answer.{Answer, Passed, gives, refuses, refusal, refuse_if, ◌then◌, in_range}
use Rattle.space_packet.specs.Bits.{bits, flag_number, be16, word}
use Rattle.space_packet.specs.Fields.{apid_check, count_check, type_number, flags_number, id_raw, psc_raw, id_of, psc_of}
use Rattle.space_packet.specs.declared.Apid.{Apid}
use Rattle.space_packet.specs.declared.SeqCount.{SeqCount}
use Rattle.space_packet.specs.declared.PacketType.{PacketType}
use Rattle.space_packet.specs.declared.SequenceFlags.{SequenceFlags}
use Rattle.space_packet.specs.declared.PacketId.{PacketId}
use Rattle.space_packet.specs.declared.PacketSequenceControl.{PacketSequenceControl}
use Rattle.space_packet.specs.declared.SpacePacketHeader.{SpacePacketHeader}

-- ---- the layout

-- 4.1.3, the packet primary header: packet version number 3 bits, packet type 1, secondary header flag 1, APID 11,
-- sequence flags 2, packet sequence count 14, packet data length 16
unfoldable pub header_row : SpacePacketHeader → List Bool
header_row h =
    bits 3 h.version ++ bits 1 (type_number h.packet_id.packet_type)
    ++ bits 1 (flag_number h.packet_id.sec_header_flag) ++ bits 11 h.packet_id.apid.0
    ++ bits 2 (flags_number h.psc.seq_flags) ++ bits 14 h.psc.seq_count.0 ++ bits 16 h.data_len

-- the same in three words of 16 bits; that their bits are that row is the theorem `layout`
unfoldable pub header_octets : SpacePacketHeader → List ℕ
header_octets h = be16 (h.version * 8192 + id_raw h.packet_id) ++ be16 (psc_raw h.psc) ++ be16 h.data_len

-- the header that octets begin with
unfoldable pub read_header : List ℕ → SpacePacketHeader
read_header s =
    record { version = word s 0 / 8192; packet_id = id_of (word s 0); psc = psc_of (word s 2); data_len = word s 4 }

-- 4.1.3.5, packet data length: the number of octets after the primary header, less one
abbrev pub packet_len : SpacePacketHeader → ℕ
packet_len h = h.data_len + 7

-- ---- ranges

-- every field is within its width
pub record InRange (h : SpacePacketHeader) : Type 0 where
  pub version-fits : h.version ≤ 7
  pub apid-fits : h.packet_id.apid.0 ≤ 2047
  pub count_fits : h.psc.seq_count.0 ≤ 16383

-- the first field over its width is refused with its place
unfoldable pub header_check : SpacePacketHeader → Passed
header_check h =
    in_range 1 7 h.version then λ _. apid_check h.packet_id.apid then λ _. count_check h.psc.seq_count

-- ---- the calls

-- from_be_bytes
unfoldable pub header_read : List ℕ → Answer SpacePacketHeader
header_read s = refuse_if (ltb (length s) 6) (refusal 2 (length s ∷ 6 ∷ [])) (gives (read_header s))

-- write_to_slice, on a buffer of n octets
unfoldable pub header_write : SpacePacketHeader → ℕ → Answer ℕ
header_write h n = header_check h then λ _. refuse_if (ltb n 6) (refusal 1 (n ∷ 6 ∷ [])) (gives 6)

-- what a buffer holds after a write of the octets p: p and then what it held there, or where it was refused what it held
abbrev pub left_by : Answer ℕ → List ℕ → List ℕ → List ℕ
left_by (gives n) p before = p ++ drop n before
left_by (refuses e) p before = before

abbrev pub header_of : PacketId → PacketSequenceControl → ℕ → ℕ → SpacePacketHeader
header_of i p n v = record { version = v; packet_id = i; psc = p; data_len = n }

abbrev pub id_from : PacketType → Bool → Apid → PacketId
id_from t f a = record { packet_type = t; sec_header_flag = f; apid = a }

abbrev pub psc_from : SequenceFlags → SeqCount → PacketSequenceControl
psc_from f n = record { seq_flags = f; seq_count = n }

-- the header with one part changed
abbrev pub with_id : SpacePacketHeader → PacketId → SpacePacketHeader
with_id h i = header_of i h.psc h.data_len h.version

abbrev pub with_psc : SpacePacketHeader → PacketSequenceControl → SpacePacketHeader
with_psc h p = header_of h.packet_id p h.data_len h.version

-- every field is the same; that the headers then are equal, and only then, is the theorem `same-header`
unfoldable pub same_header : SpacePacketHeader → SpacePacketHeader → Bool
same_header g h =
    eqb g.version h.version && eqb (type_number g.packet_id.packet_type) (type_number h.packet_id.packet_type)
    && eqb (flag_number g.packet_id.sec_header_flag) (flag_number h.packet_id.sec_header_flag)
    && eqb g.packet_id.apid.0 h.packet_id.apid.0
    && eqb (flags_number g.psc.seq_flags) (flags_number h.psc.seq_flags)
    && eqb g.psc.seq_count.0 h.psc.seq_count.0 && eqb g.data_len h.data_len
