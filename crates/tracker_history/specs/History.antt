-- What is open by the history of the calls alone; no tracker is asked.
use Rattle.std.specs.Prelude.{ℕ, Bool, true, false, not, ◌&&◌, ◌||◌, List, [], ◌∷◌, ◌++◌, eqb}
use Rattle.space_packet.specs.Bits.{pick}
use Rattle.space_packet.specs.Answer.{Answer, Passed, gives, refuses}
use Rattle.tracker.specs.Reports.{request_of, asked_of, asks_nothing, is_acceptance, is_start, is_progress, ends, all_come, Report, report_in}
use Rattle.tracker.specs.Refusals.{among, send_check, report_check}

-- ---- the calls

-- a command that is sent, or a report with the length of its time, and their octets
pub data Call : Type 0 where
  sent : List ℕ → Call
  reported : ℕ → List ℕ → Call

infixl 30 ◌▸◌
-- the calls in the order of time
pub data History : Type 0 where
  start : History
  ◌▸◌ : History → Call → History

-- a history, and calls after it
unfoldable pub extended : History → List Call → History
extended h [] = h
extended h (c ∷ l) = extended (h ▸ c) l

-- ---- closing, by the calls since the sending

-- a report on this request, of a subtype that the test takes
abbrev pub says_on : ℕ → (ℕ → Bool) → Answer Report → Bool
says_on id test (gives r) = eqb id r.request && test r.subtype
says_on id test (refuses e) = false

abbrev pub report_on : ℕ → (ℕ → Bool) → Call → Bool
report_on id test (sent s) = false
report_on id test (reported t s) = says_on id test (report_in t s)

unfoldable pub any_of : (Call → Bool) → List Call → Bool
any_of test [] = false
any_of test (c ∷ l) = test c || any_of test l

-- a completion, or a failure of acceptance or start, came since; or all kinds asked for did, completion not among them
unfoldable pub closed_by : List Call → ℕ → ℕ → Bool
closed_by since id asked =
    any_of (report_on id ends) since
    || all_come asked (any_of (report_on id is_acceptance) since) (any_of (report_on id is_start) since) (any_of (report_on id is_progress) since)

-- ---- opening

abbrev pub passes : Passed → Bool
passes (gives u) = true
passes (refuses e) = false

-- sent without refusal where these are open, asking for something, and not closed since
abbrev pub stays : List ℕ → List Call → List ℕ → Bool
stays ids since s =
    passes (send_check ids s) && (not (asks_nothing (asked_of s)) && not (closed_by since (request_of s) (asked_of s)))

-- the requests of a history that are open when the calls `since` have followed it, in the order of their sending
unfoldable pub open_since : List Call → History → List ℕ
open_since since start = []
open_since since (h ▸ reported t s) = open_since (reported t s ∷ since) h
open_since since (h ▸ sent s) =
    open_since (sent s ∷ since) h ++ pick (stays (open_since [] h) since s) (request_of s ∷ []) []

-- the requests that are open
abbrev pub open_after : History → List ℕ
open_after h = open_since [] h

abbrev pub open_in : History → ℕ → Bool
open_in h id = among id (open_after h)

-- ---- what the next call is answered

abbrev pub answer_after : History → Call → Passed
answer_after h (sent s) = send_check (open_after h) s
answer_after h (reported t s) = report_check (open_after h) (report_in t s)
