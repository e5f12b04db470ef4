-- What the checked read of telemetry answers as one number.
use Rattle.std.specs.Prelude.{ℕ, ◌+◌, Option, Some, None}
use Rattle.space_packet.specs.Answer.{Answer, gives, refuses}
use Rattle.space_packet.specs.Fields.{id_raw, psc_raw}
use Rattle.tm_read.specs.declared.PusTmRecord.{PusTmRecord}

abbrev pub stored_in : Option ℕ → ℕ
stored_in (Some n) = n
stored_in None = 0

-- the sum of what a record reports, in which no field is left out
unfoldable pub sum_of : PusTmRecord → ℕ
sum_of r =
    r.sp_header.version + id_raw r.sp_header.packet_id + psc_raw r.sp_header.psc + r.sp_header.data_len
    + r.sec_header.message_type_id.type_id + r.sec_header.message_type_id.subtype_id
    + r.sec_header.sc_time_ref_status + r.sec_header.msg_counter + r.sec_header.dest_id + stored_in r.crc16

abbrev pub read_number : Answer PusTmRecord → ℕ
read_number (gives r) = sum_of r
read_number (refuses e) = 0
