-- Commands and the reports on them. ECSS-E-ST-70-41C, service 1, request verification.
use Rattle.std.specs.Prelude.{ℕ, ◌+◌, ◌*◌, ◌/◌, ◌%◌, Bool, true, not, ◌&&◌, ◌||◌, List, [], length, get_or, eqb, leb}
use Rattle.std.specs.Int.Count.{ones}
use Rattle.space_packet.specs.Bits.{pick, word, lowest, flag_number}
use Rattle.space_packet.specs.Answer.{Answer, gives, refuses, refusal, refuse_if}
use Rattle.tm_read.specs.Read.{source_data_in}
use Rattle.tm_read.specs.declared.PusTmRecord.{PusTmRecord}
use Rattle.tm_strict.specs.Verdict.{strict_in}

-- ---- what a command asks for

-- the request ID: the first four octets, of a command as of a report's data; of fewer octets, those missing count as 0
abbrev pub request_of : List ℕ → ℕ
request_of s = word s 0 * 65536 + word s 2

-- the acknowledgement bits of a command: 8 acceptance, 4 start, 2 progress, 1 completion; it asks for as many kinds as there are ones
abbrev pub asked_of : List ℕ → ℕ
asked_of s = get_or s 6 0 % 16

abbrev pub asks_nothing : ℕ → Bool
asks_nothing asked = eqb (ones asked) 0

-- ---- the kinds of report, by their subtypes

-- each has a success, odd, and a failure
abbrev pub either : ℕ → ℕ → ℕ → Bool
either sub success failure = eqb sub success || eqb sub failure

abbrev pub is_acceptance : ℕ → Bool
is_acceptance sub = either sub 1 2

abbrev pub is_start : ℕ → Bool
is_start sub = either sub 3 4

abbrev pub is_progress : ℕ → Bool
is_progress sub = either sub 5 6

abbrev pub is_completion : ℕ → Bool
is_completion sub = either sub 7 8

-- closes its command, whatever that asked for: completion, and a failure of acceptance or start
unfoldable pub ends : ℕ → Bool
ends sub = is_completion sub || (eqb sub 2 || eqb sub 4)

-- 1 for a kind that has come and was asked for
abbrev pub counted : Bool → ℕ → ℕ → ℕ
counted come asked weight = flag_number (come && lowest (asked / weight))

-- how many kinds that were asked for have come; completion would have closed the command
abbrev pub kinds_come : ℕ → Bool → Bool → Bool → ℕ
kinds_come asked a s p = counted a asked 8 + counted s asked 4 + counted p asked 2

-- completion is not among the kinds asked for, and all of them have come
abbrev pub all_come : ℕ → Bool → Bool → Bool → Bool
all_come asked a s p = not (lowest asked) && eqb (kinds_come asked a s p) (ones asked)

-- ---- what a report says

-- the octets of its data: the request ID, then a step in progress reports, then a code in failures
abbrev pub report_length : ℕ → ℕ
report_length sub = 4 + flag_number (is_progress sub) + pick (lowest sub) 0 2

abbrev pub is_report : ℕ → ℕ → List ℕ → Bool
is_report service sub d = eqb service 1 && (leb 1 sub && (leb sub 8 && eqb (length d) (report_length sub)))

pub record Report : Type 0 where
  pub subtype : ℕ
  pub request : ℕ

-- telemetry of this service and subtype with these data, as a report; 15 where it is none
unfoldable pub report_from : ℕ → ℕ → List ℕ → Answer Report
report_from service sub d =
    refuse_if (not (is_report service sub d)) (refusal 15 []) (gives (record { subtype = sub; request = request_of d }))

abbrev pub report_where : Answer PusTmRecord → List ℕ → Answer Report
report_where (gives r) d =
    report_from r.sec_header.message_type_id.type_id r.sec_header.message_type_id.subtype_id d
report_where (refuses e) d = refuses (refusal 15 [])

-- octets with a time of t octets, as a report; 15 too where the strict verdict refuses them, whatever its refusal
unfoldable pub report_in : ℕ → List ℕ → Answer Report
report_in t s = report_where (strict_in t s) (source_data_in t s true)
