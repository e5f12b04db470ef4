-- Telemetry read, over the length t of its time: what is reported of octets, and the parts handed out.
use Rattle.std.specs.Prelude.{ℕ, ◌-◌, Bool, true, List, []}
use Rattle.space_packet.specs.Answer.{Answer, gives, refuses, ◌then◌}
use Rattle.space_packet.specs.Header.{read_header}
use Rattle.ecss.specs.Frame.{trailer, frame_after, checked_after, crc_taken, raw_part, data_part, data_at}
use Rattle.ecss.specs.Kind.{secondary_of, start_of}
use Rattle.tm_header.specs.Header.{time_limit, fields_of, time_of, tm}
use Rattle.tm_read.specs.declared.PusTmRecord.{PusTmRecord}

-- where the data starts
abbrev pub start_in : ℕ → ℕ
start_in t = start_of (tm t)

-- what is reported of a packet of n octets: both headers, where its data lies, its total, and the checksum where it is taken
unfoldable pub record_in : ℕ → List ℕ → Bool → ℕ → PusTmRecord
record_in t s b n = record {
  sp_header = read_header s;
  sec_header = fields_of (secondary_of (tm t).size s);
  start = start_in t;
  end = n - trailer b;
  total = n;
  crc16 = crc_taken b s n;
}

-- the total of the packet that octets begin with, for the choice of checksum: 14, 2; and where it is compared: 14, 2, 4
abbrev pub frame_in : ℕ → List ℕ → Bool → Answer ℕ
frame_in t s b = frame_after (time_limit t) (start_in t) s b

abbrev pub checked_frame : ℕ → List ℕ → Answer ℕ
checked_frame t s = checked_after (time_limit t) (start_in t) s

-- read with the choice of checksum, which is taken and not compared
unfoldable pub read_in : ℕ → List ℕ → Bool → Answer PusTmRecord
read_in t s b = frame_in t s b then λ n. gives (record_in t s b n)

-- read with the checksum taken and compared
unfoldable pub checked_in : ℕ → List ℕ → Answer PusTmRecord
checked_in t s = checked_frame t s then λ n. gives (record_in t s true n)

-- the time, the source data and the packet, as parts of the octets; where the read is refused, the empty part
abbrev pub time_part : ℕ → Answer ℕ → List ℕ → List ℕ
time_part t (refuses e) s = []
time_part t (gives n) s = time_of (secondary_of (tm t).size s)

abbrev pub timestamp_in : ℕ → List ℕ → Bool → List ℕ
timestamp_in t s b = time_part t (frame_in t s b) s

-- and how far into the octets it begins: where the data would with no time
abbrev pub timestamp_at : ℕ → List ℕ → Bool → ℕ
timestamp_at t s b = data_at (start_in 0) (frame_in t s b)

abbrev pub source_data_in : ℕ → List ℕ → Bool → List ℕ
source_data_in t s b = data_part (start_in t) b (frame_in t s b) s

abbrev pub source_data_at : ℕ → List ℕ → Bool → ℕ
source_data_at t s b = data_at (start_in t) (frame_in t s b)

abbrev pub raw_data_in : ℕ → List ℕ → Bool → List ℕ
raw_data_in t s b = raw_part (frame_in t s b) s
