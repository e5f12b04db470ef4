-- Telemetry whose source data is filled in its buffer.
use Rattle.std.specs.Prelude.{ℕ, Bool, List, length}
use Rattle.space_packet.specs.Answer.{Answer, gives, ◌then◌}
use Rattle.space_packet.specs.declared.SpacePacketHeader.{SpacePacketHeader}
use Rattle.ecss.specs.Kind.{start_of}
use Rattle.ecss_write.specs.Writer.{reserve_by, head_by, headed_by}
use Rattle.tm_header.specs.Header.{TmHeader, tm}
use Rattle.tm_write.specs.Report.{report_by}
use Rattle.tm_reserved.specs.declared.PusTmCreatorWithReservedSourceData.{PusTmCreatorWithReservedSourceData}

abbrev pub reservation_of : ℕ → ℕ → Bool → PusTmCreatorWithReservedSourceData
reservation_of t total b = record { held = record { start = start_of (tm t); total = total; has_checksum = b }; time_len = t }

-- reserving n octets in a buffer of m: 14, 7, 6 for the machine size, 1, 6 for the packet limit, 3
abbrev pub reserve_of : ℕ → SpacePacketHeader → TmHeader → ℕ → Bool → ℕ → Answer PusTmCreatorWithReservedSourceData
reserve_of t h x n b m = reserve_by (report_by t) h x b n m then λ total. gives (reservation_of t total b)

-- what it leaves: the headers, as construction sets them, with the length; refused, what was there
abbrev pub reserved_left : ℕ → SpacePacketHeader → TmHeader → ℕ → Bool → List ℕ → List ℕ
reserved_left t h x n b before =
    headed_by (report_by t) (reserve_by (report_by t) h x b n (length before)) (head_by (report_by t) h x b n) before
