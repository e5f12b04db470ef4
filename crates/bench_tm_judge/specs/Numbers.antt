-- What the strict verdict on telemetry answers as one number.
use Rattle.std.specs.Prelude.{ℕ}
use Rattle.space_packet.specs.Answer.{Answer, gives, refuses}
use Rattle.tm_read.specs.declared.PusTmRecord.{PusTmRecord}

abbrev pub total_number : Answer PusTmRecord → ℕ
total_number (gives r) = r.total
total_number (refuses e) = 0
