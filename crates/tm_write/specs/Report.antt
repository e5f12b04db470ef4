-- Telemetry with a time of t octets as its writers take it: its kind, with what they ask of its secondary header.
use Rattle.std.specs.Prelude.{ℕ}
use Rattle.ecss_write.specs.Writer.{Writer}
use Rattle.tm_header.specs.Header.{TmHeader, tm, asked_time, asked_fields, asked_version}

-- they ask 14 before all others, 7 for the time reference status, and 3 after the room
abbrev pub report_by : ℕ → Writer TmHeader
report_by t = record {
  kind = tm t;
  first = asked_time t;
  fields = asked_fields;
  version = asked_version;
}
