-- Telecommands read, over their form: what is reported of octets, and the parts handed out.
use Rattle.std.specs.Prelude.{ℕ, ◌-◌, Bool, true, List}
use Rattle.space_packet.specs.Answer.{Answer, gives, ◌then◌}
use Rattle.space_packet.specs.Header.{read_header}
use Rattle.ecss.specs.Frame.{trailer, frame_after, checked_after, crc_taken, raw_part, data_part, data_at}
use Rattle.ecss.specs.Kind.{secondary_of, start_of}
use Rattle.tc_header.specs.Form.{form_c, form_check}
use Rattle.tc_header.specs.Header.{tc_of, tc}
use Rattle.tc_header.specs.declared.TcForm.{TcForm}
use Rattle.tc_read.specs.declared.PusTcRecord.{PusTcRecord}

-- where the data starts, and of PUS C with no spare octets
abbrev pub start_in : TcForm → ℕ
start_in f = start_of (tc f)

abbrev pub start_c : ℕ
start_c = start_in form_c

-- what is reported of a packet of n octets: both headers, where its data lies, its total, and the checksum where it is taken
unfoldable pub record_in : TcForm → List ℕ → Bool → ℕ → PusTcRecord
record_in f s b n = record {
  sp_header = read_header s;
  sec_header = tc_of f (secondary_of (tc f).size s);
  start = start_in f;
  end = n - trailer b;
  total = n;
  crc16 = crc_taken b s n;
}

-- the total of the packet that octets begin with, for the choice of checksum: 32, 19, 2; and where it is compared: 32, 19, 2, 4
abbrev pub frame_in : TcForm → List ℕ → Bool → Answer ℕ
frame_in f s b = frame_after (form_check f) (start_in f) s b

abbrev pub checked_frame : TcForm → List ℕ → Answer ℕ
checked_frame f s = checked_after (form_check f) (start_in f) s

-- read with the choice of checksum, which is taken and not compared
unfoldable pub read_in : TcForm → List ℕ → Bool → Answer PusTcRecord
read_in f s b = frame_in f s b then λ n. gives (record_in f s b n)

-- read with the checksum taken and compared
unfoldable pub checked_in : TcForm → List ℕ → Answer PusTcRecord
checked_in f s = checked_frame f s then λ n. gives (record_in f s true n)

-- the application data and the packet, as parts of the octets; where the read is refused, the empty part
abbrev pub app_data_in : TcForm → List ℕ → Bool → List ℕ
app_data_in f s b = data_part (start_in f) b (frame_in f s b) s

-- and how far into the octets that data begins
abbrev pub app_data_at : TcForm → List ℕ → Bool → ℕ
app_data_at f s b = data_at (start_in f) (frame_in f s b)

abbrev pub raw_data_in : TcForm → List ℕ → Bool → List ℕ
raw_data_in f s b = raw_part (frame_in f s b) s

-- ---- of PUS C with no spare octets

abbrev pub read_of : List ℕ → Bool → Answer PusTcRecord
read_of = read_in form_c

abbrev pub checked_read : List ℕ → Answer PusTcRecord
checked_read = checked_in form_c

abbrev pub app_data_of : List ℕ → Bool → List ℕ
app_data_of = app_data_in form_c

abbrev pub raw_data_of : List ℕ → Bool → List ℕ
raw_data_of = raw_data_in form_c
