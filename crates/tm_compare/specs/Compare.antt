-- Telemetry that was read, compared: octets are read anew, without verifying; where a read is refused, the answer is no.
use Rattle.std.specs.Prelude.{ℕ, Bool, false, ◌&&◌, List, eqb}
use Rattle.space_packet.specs.Answer.{Answer, gives, refuses}
use Rattle.space_packet.specs.Header.{same_header}
use Rattle.ecss.specs.Frame.{same_octets, same_reading}
use Rattle.tm_header.specs.Header.{same_sec}
use Rattle.tm_write.specs.declared.PusTmCreator.{PusTmCreator}
use Rattle.tm_read.specs.Read.{read_in, timestamp_in, source_data_in, raw_data_in}
use Rattle.tm_read.specs.declared.PusTmRecord.{PusTmRecord}

-- a reader with a creator and the time l and data d beside it: by both headers, the time and the data
abbrev pub reports_creator : Answer PusTmRecord → List ℕ → List ℕ → PusTmCreator → List ℕ → List ℕ → Bool
reports_creator (refuses e) time user c l d = false
reports_creator (gives r) time user c l d =
    same_header r.sp_header c.sp_header
    && (same_sec r.sec_header c.sec_header && (same_octets time l && same_octets user d))

-- and by the time length, which no octet tells
abbrev pub equals_creator_in : ℕ → List ℕ → Bool → PusTmCreator → List ℕ → List ℕ → Bool
equals_creator_in t s b c l d = eqb t c.time_len && reports_creator (read_in t s b) (timestamp_in t s b) (source_data_in t s b) c l d

-- two readers: by their raw octets only
abbrev pub equals_reader_in : ℕ → List ℕ → Bool → List ℕ → Bool → Bool
equals_reader_in t s b u c = same_reading (read_in t s b) (read_in t u c) (raw_data_in t s b) (raw_data_in t u c)
