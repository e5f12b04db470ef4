-- The strict verdict on octets, over the length t of the time: accepted with what the reader reports, or refused.
use Rattle.std.specs.Prelude.{ℕ, true, List}
use Rattle.space_packet.specs.Answer.{Answer, gives, ◌then◌}
use Rattle.ecss.specs.Frame.{stated_of}
use Rattle.ecss.specs.Kind.{judge}
use Rattle.tm_header.specs.Header.{time_limit, tm}
use Rattle.tm_read.specs.Read.{record_in}
use Rattle.tm_read.specs.declared.PusTmRecord.{PusTmRecord}

-- the time's length, all reader checks with checksum, then packet version number, type, secondary header flag, PUS version, idle APID
unfoldable pub strict_in : ℕ → List ℕ → Answer PusTmRecord
strict_in t s = time_limit t then λ _. judge (tm t) s then λ _. gives (record_in t s true (stated_of s))
