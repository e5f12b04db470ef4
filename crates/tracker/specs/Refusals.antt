-- What is asked of a command and of a report, where these requests are open: 15 to 18.
use Rattle.std.specs.Prelude.{ℕ, Bool, false, not, ◌||◌, List, [], ◌∷◌, length, eqb, leb}
use Rattle.space_packet.specs.Bits.{pick}
use Rattle.space_packet.specs.Answer.{Answer, Passed, gives, refusal, refuse_if, ◌then◌}
use Rattle.tc_strict.specs.Verdict.{strict_of}
use Rattle.tracker.specs.Reports.{request_of, asked_of, asks_nothing, Report}

unfoldable pub among : ℕ → List ℕ → Bool
among id [] = false
among id (x ∷ l) = eqb x id || among id l

-- a report: 15, 16
unfoldable pub report_check : List ℕ → Answer Report → Passed
report_check ids a = a then λ r. refuse_if (not (among r.request ids)) (refusal 16 []) (gives tt)

-- an accepted command: 17, 18; one that asks for nothing passes
unfoldable pub open_check : List ℕ → ℕ → ℕ → Passed
open_check ids id asked =
    pick (asks_nothing asked) (gives tt)
    (refuse_if (among id ids) (refusal 17 []) (refuse_if (leb 32 (length ids)) (refusal 18 []) (gives tt)))

-- a command: the strict verdict's, then those
unfoldable pub send_check : List ℕ → List ℕ → Passed
send_check ids s = strict_of s then λ _. open_check ids (request_of s) (asked_of s)
