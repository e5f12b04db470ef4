-- The strict verdict on octets: accepted with what the reader reports, or refused.
use Rattle.std.specs.Prelude.{ℕ, true, List}
use Rattle.space_packet.specs.Answer.{Answer, gives, ◌then◌}
use Rattle.ecss.specs.Frame.{stated_of}
use Rattle.ecss.specs.Kind.{judge}
use Rattle.tc_header.specs.Form.{form_c, form_check}
use Rattle.tc_header.specs.Header.{tc}
use Rattle.tc_header.specs.declared.TcForm.{TcForm}
use Rattle.tc_read.specs.Read.{record_in}
use Rattle.tc_read.specs.declared.PusTcRecord.{PusTcRecord}

-- the form, all reader checks with checksum, then packet version number, type, secondary header flag, PUS version, APID, spare octets
unfoldable pub strict_in : TcForm → List ℕ → Answer PusTcRecord
strict_in f s = form_check f then λ _. judge (tc f) s then λ _. gives (record_in f s true (stated_of s))

-- of PUS C with no spare octets
abbrev pub strict_of : List ℕ → Answer PusTcRecord
strict_of = strict_in form_c
