-- What the customer asks of the strict verdict on telemetry, over the length t of its time: what every kind is asked (`exactness`,
-- specs/Demand3.antt), with the most data and the report. The written rules are `Rules (tm t) p`, and that octets s begin with the
-- packet of p under them is `BeginsWith (tm t) s p` (`ecss`, specs/Kind.antt); p is two headers, the second with its time, and data.
use Rattle.std.specs.Prelude.{ℕ, ◌+◌, ◌-◌, ◌≤◌, ◌≡◌, length, Some, Result}
use Rattle.space_packet.specs.Answer.{answer_of, Answer, gives}
use Rattle.space_packet.specs.declared.PusError.{PusError}
use Rattle.crc_register.specs.Crc.{crc_of}
use Rattle.ecss.specs.Kind.{Packet, content_of}
use Rattle.exactness.specs.Demand3.{total_for}
use Rattle.tm_header.specs.Header.{TmHeader, tm}
use Rattle.tm_read.specs.Read.{start_in}
use Rattle.tm_read.specs.declared.PusTmRecord.{PusTmRecord}

-- headers, time and source data
abbrev pub Telemetry : Type 0
Telemetry = Packet TmHeader

-- the time stands behind the primary header and seven octets
abbrev pub time_start : ℕ
time_start = 13

-- no verdict accepts what the other accepts
module _ {Q R : Type 0} where
  abbrev pub NotBoth : Answer Q → Answer R → Type 0
  NotBoth a b = (q : Q) (r : R) → a ≡ gives q → b ≡ gives r → ⊥

module _ (t : ℕ) where
  -- the most source data
  abbrev pub AtMost : Telemetry → Type 0
  AtMost p = length p.user ≤ 65527 - t

  -- what is reported of it
  abbrev pub report_for : Telemetry → PusTmRecord
  report_for p = record {
    sp_header = p.primary;
    sec_header = p.secondary.fields;
    start = start_in t;
    end = start_in t + length p.user;
    total = total_for (tm t) p.user;
    crc16 = Some (crc_of (content_of (tm t) p));
  }

  -- the verdict v accepts it and reports it
  abbrev pub Accepts : Result PusTmRecord PusError → Telemetry → Type 0
  Accepts v p = answer_of v ≡ gives (report_for p)
