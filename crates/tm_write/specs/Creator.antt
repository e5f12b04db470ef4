-- The telemetry creator: construction, the length, and what is written. The octets l of its time, and its data d or their number n,
-- travel beside it.
use Rattle.std.specs.Prelude.{ℕ, Bool, ◌&&◌, List, eqb, length, Option, Result}
use Rattle.space_packet.specs.Answer.{Answer, Kept, gives, ◌then◌}
use Rattle.space_packet.specs.declared.PusError.{PusError}
use Rattle.space_packet.specs.Bits.{flag_number}
use Rattle.space_packet.specs.Header.{same_header}
use Rattle.space_packet.specs.Wrote.{Wrote}
use Rattle.space_packet.specs.declared.SpacePacketHeader.{SpacePacketHeader}
use Rattle.ecss.specs.Frame.{same_octets}
use Rattle.ecss.specs.Kind.{start_of}
use Rattle.ecss.specs.declared.CreatorConfig.{CreatorConfig}
use Rattle.ecss_write.specs.Write.{machine_total, checksum_with, kept_with}
use Rattle.ecss_write.specs.Writer.{content_by, octets_by, new_by, afresh_by, write_by, bare_by, own_by}
use Rattle.tm_header.specs.Header.{TmHeader, timed, tm, time_check, same_sec}
use Rattle.tm_header.specs.declared.PusTmSecondaryHeader.{PusTmSecondaryHeader}
use Rattle.tm_write.specs.Report.{report_by}
use Rattle.tm_write.specs.declared.PusTmCreator.{PusTmCreator}

abbrev pub creator_of : ℕ → SpacePacketHeader → PusTmSecondaryHeader → Bool → PusTmCreator
creator_of t h x b = record { sp_header = h; sec_header = x; has_checksum = b; time_len = t }

-- its secondary header with the time
abbrev pub header_with : PusTmCreator → List ℕ → TmHeader
header_with c l = timed c.sec_header l

-- its octets before the checksum, and with it, where it has one
abbrev pub content_for : PusTmCreator → List ℕ → List ℕ → List ℕ
content_for c l d = content_by (report_by c.time_len) c.sp_header (header_with c l) d

abbrev pub octets_for : PusTmCreator → List ℕ → List ℕ → List ℕ
octets_for c l d = octets_by (report_by c.time_len) c.sp_header (header_with c l) c.has_checksum d

-- ---- the calls

-- construction: 14, 7, and 6 where it sets the length
abbrev pub new_of : ℕ → SpacePacketHeader → PusTmSecondaryHeader → List ℕ → ℕ → CreatorConfig → Answer PusTmCreator
new_of t h x l n config =
    new_by (report_by t) h (timed x l) config.has_checksum config.set_ccsds_len n
    then λ g. gives (creator_of t g x config.has_checksum)

abbrev pub with_header : PusTmCreator → SpacePacketHeader → PusTmCreator
with_header c h = creator_of c.time_len h c.sec_header c.has_checksum

abbrev pub with_sec : PusTmCreator → PusTmSecondaryHeader → PusTmCreator
with_sec c x = creator_of c.time_len c.sp_header x c.has_checksum

-- update_ccsds_data_len: 14, 7, 6
abbrev pub updated : PusTmCreator → List ℕ → ℕ → Kept PusTmCreator
updated c l n = kept_with (with_header c) (afresh_by (report_by c.time_len) c.sp_header (header_with c l) c.has_checksum n)

-- len_written: 14, 6 for the machine size
abbrev pub length_of : PusTmCreator → List ℕ → ℕ → Answer ℕ
length_of c l n = time_check c.time_len (length l) then λ _. machine_total (start_of (tm c.time_len)) c.has_checksum n

-- the checksum over all octets before it: 14, 7, 3
abbrev pub own_checksum : PusTmCreator → List ℕ → List ℕ → Answer ℕ
own_checksum c l d = own_by (report_by c.time_len) c.sp_header (header_with c l) d

-- the checksum that is written: 14, then none, or its own
abbrev pub checksum_of : PusTmCreator → List ℕ → List ℕ → Answer (Option ℕ)
checksum_of c l d = time_check c.time_len (length l) then λ _. checksum_with c.has_checksum (own_checksum c l d)

-- writing into a buffer of m octets: 14, 7, 6 for the machine size, 1, 3
abbrev pub write_of : PusTmCreator → List ℕ → ℕ → ℕ → Answer ℕ
write_of c l n m = write_by (report_by c.time_len) c.sp_header (header_with c l) c.has_checksum n m

-- and without the checksum, for which there still must be room
abbrev pub bare_of : PusTmCreator → List ℕ → ℕ → ℕ → Answer ℕ
bare_of c l n m = bare_by (report_by c.time_len) c.sp_header (header_with c l) c.has_checksum n m

-- the packet stands over the first octets of the buffer, and its length is answered; refused, the buffer is as it was
abbrev pub PacketWrote : PusTmCreator → List ℕ → List ℕ → List ℕ → Result ℕ PusError → List ℕ → Type 0
PacketWrote c l d before r after = Wrote (write_of c l (length d) (length before)) (octets_for c l d) before r after

-- and without the checksum, whose places are left as they were
abbrev pub ContentWrote : PusTmCreator → List ℕ → List ℕ → List ℕ → Result ℕ PusError → List ℕ → Type 0
ContentWrote c l d before r after = Wrote (bare_of c l (length d) (length before)) (content_for c l d) before r after

-- the mission's time length, the headers, the time, the data and the choice of checksum are the same
unfoldable pub same_creator : PusTmCreator → List ℕ → List ℕ → PusTmCreator → List ℕ → List ℕ → Bool
same_creator c l d u m e =
    eqb c.time_len u.time_len
    && (same_header c.sp_header u.sp_header
    && (same_sec c.sec_header u.sec_header
    && (same_octets l m && (same_octets d e && eqb (flag_number c.has_checksum) (flag_number u.has_checksum)))))
