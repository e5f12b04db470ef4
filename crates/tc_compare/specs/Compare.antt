-- Telecommands of a form that were read, compared: octets are read anew, without verifying; where a read is refused, the answer is no.
use Rattle.std.specs.Prelude.{ℕ, Bool, false, ◌&&◌, List}
use Rattle.space_packet.specs.Answer.{Answer, gives, refuses}
use Rattle.space_packet.specs.Header.{same_header}
use Rattle.ecss.specs.Frame.{same_octets, same_reading}
use Rattle.tc_header.specs.Form.{form_c}
use Rattle.tc_header.specs.Header.{same_sec}
use Rattle.tc_header.specs.declared.TcForm.{TcForm}
use Rattle.tc_write.specs.declared.PusTcCreator.{PusTcCreator}
use Rattle.tc_read.specs.Read.{read_in, app_data_in, raw_data_in}
use Rattle.tc_read.specs.declared.PusTcRecord.{PusTcRecord}

-- a reader with a creator: by both headers and the data
abbrev pub reports_creator : Answer PusTcRecord → List ℕ → PusTcCreator → List ℕ → Bool
reports_creator (refuses e) user t d = false
reports_creator (gives r) user t d =
    same_header r.sp_header t.sp_header && (same_sec r.sec_header t.sec_header && same_octets user d)

abbrev pub equals_creator_in : TcForm → List ℕ → Bool → PusTcCreator → List ℕ → Bool
equals_creator_in f s b t d = reports_creator (read_in f s b) (app_data_in f s b) t d

abbrev pub equals_creator : List ℕ → Bool → PusTcCreator → List ℕ → Bool
equals_creator = equals_creator_in form_c

-- two readers: by their raw octets only
abbrev pub equals_reader_in : TcForm → List ℕ → Bool → List ℕ → Bool → Bool
equals_reader_in f s b t c = same_reading (read_in f s b) (read_in f t c) (raw_data_in f s b) (raw_data_in f t c)

abbrev pub equals_reader : List ℕ → Bool → List ℕ → Bool → Bool
equals_reader = equals_reader_in form_c
