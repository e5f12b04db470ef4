-- What the strict verdict answers as one number.
use Rattle.std.specs.Prelude.{ℕ}
use Rattle.space_packet.specs.Answer.{Answer, gives, refuses}
use Rattle.tc_read.specs.declared.PusTcRecord.{PusTcRecord}

abbrev pub total_number : Answer PusTcRecord → ℕ
total_number (gives r) = r.total
total_number (refuses e) = 0
