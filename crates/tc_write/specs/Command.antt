-- The telecommand of a form as its writers take it: its kind, with what they ask of its secondary header.
use Rattle.ecss_write.specs.Writer.{Writer}
use Rattle.tc_header.specs.Form.{form_c, form_check}
use Rattle.tc_header.specs.Header.{version_in, fields_check, tc}
use Rattle.tc_header.specs.declared.PusTcSecondaryHeader.{PusTcSecondaryHeader}
use Rattle.tc_header.specs.declared.TcForm.{TcForm}

-- they ask 32 and 19 before all others, 7 for the acknowledgement flags and then the source ID, and 3 after the room
abbrev pub command_in : TcForm → Writer PusTcSecondaryHeader
command_in f = record {
  kind = tc f;
  first = λ x. form_check f;
  fields = fields_check f;
  version = λ x. version_in f x.version;
}

abbrev pub command_c : Writer PusTcSecondaryHeader
command_c = command_in form_c
