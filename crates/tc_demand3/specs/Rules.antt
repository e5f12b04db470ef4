-- What the customer asks of the strict verdict on telecommands, over the form f: what every kind is asked (`exactness`,
-- specs/Demand3.antt), with the most data and the report. The written rules are `Rules (tc f) p`, and that octets s begin with the
-- packet of p under them is `BeginsWith (tc f) s p` (`ecss`, specs/Kind.antt); p is two headers and data.
use Rattle.std.specs.Prelude.{◌+◌, ◌-◌, ◌≤◌, ◌≡◌, length, Some, Result}
use Rattle.space_packet.specs.Answer.{answer_of, gives}
use Rattle.space_packet.specs.declared.PusError.{PusError}
use Rattle.crc_register.specs.Crc.{crc_of}
use Rattle.ecss.specs.Kind.{Packet, content_of}
use Rattle.exactness.specs.Demand3.{total_for}
use Rattle.tc_header.specs.Header.{tc}
use Rattle.tc_header.specs.declared.TcForm.{TcForm}
use Rattle.tc_header.specs.declared.PusTcSecondaryHeader.{PusTcSecondaryHeader}
use Rattle.tc_read.specs.Read.{start_in}
use Rattle.tc_read.specs.declared.PusTcRecord.{PusTcRecord}

-- headers and application data
abbrev pub Telecommand : Type 0
Telecommand = Packet PusTcSecondaryHeader

module _ (f : TcForm) where
  -- the most data: of PUS C 65,529 octets less the spare ones
  abbrev pub AtMost : Telecommand → Type 0
  AtMost p = length p.user ≤ 65542 - start_in f - 2

  -- what is reported of it
  abbrev pub report_for : Telecommand → PusTcRecord
  report_for p = record {
    sp_header = p.primary;
    sec_header = p.secondary;
    start = start_in f;
    end = start_in f + length p.user;
    total = total_for (tc f) p.user;
    crc16 = Some (crc_of (content_of (tc f) p));
  }

  -- the verdict v accepts it and reports it
  abbrev pub Accepts : Result PusTcRecord PusError → Telecommand → Type 0
  Accepts v p = answer_of v ≡ gives (report_for p)
