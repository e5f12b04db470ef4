-- What the checked read answers as one number.
use Rattle.std.specs.Prelude.{ℕ, ◌+◌, Option, Some, None}
use Rattle.space_packet.specs.Answer.{Answer, gives, refuses}
use Rattle.space_packet.specs.Fields.{id_raw, psc_raw}
use Rattle.tc_read.specs.declared.PusTcRecord.{PusTcRecord}

abbrev pub stored_in : Option ℕ → ℕ
stored_in (Some n) = n
stored_in None = 0

-- the sum of what a record reports, in which no field is left out
unfoldable pub sum_of : PusTcRecord → ℕ
sum_of r =
    r.sp_header.version + id_raw r.sp_header.packet_id + psc_raw r.sp_header.psc + r.sp_header.data_len
    + r.sec_header.message_type_id.type_id + r.sec_header.message_type_id.subtype_id
    + r.sec_header.ack_flags.0 + r.sec_header.source_id + stored_in r.crc16

abbrev pub read_number : Answer PusTcRecord → ℕ
read_number (gives r) = sum_of r
read_number (refuses e) = 0
