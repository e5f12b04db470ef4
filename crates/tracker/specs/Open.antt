-- The tracker: what it holds of the commands that are open, and what each call answers and leaves.
use Rattle.std.specs.Prelude.{ℕ, Bool, false, ◌||◌, List, [], ◌∷◌, ◌++◌, length, take, drop, get_or, replicate, eqb, ltb, Option, Some, None}
use Rattle.space_packet.specs.Answer.{Answer, Kept, gives, refuses, set_if}
use Rattle.space_packet.specs.Bits.{pick}
use Rattle.tracker.specs.Reports.{request_of, asked_of, asks_nothing, is_acceptance, is_start, is_progress, ends, all_come, Report, report_in}
use Rattle.tracker.specs.Refusals.{among, report_check, send_check}
use Rattle.tracker.specs.declared.Entry.{Entry}
use Rattle.tracker.specs.declared.Tracker.{Tracker}

-- ---- what is held

-- a command that was sent, before any report on it
abbrev pub entry_of : ℕ → ℕ → Entry
entry_of id asked = record { id = id; asked = asked; acceptance = false; start = false; progress = false }

abbrev pub new_tracker : Tracker
new_tracker = record { entries = replicate 32 (entry_of 0 0); count = 0 }

-- the open commands, in the order of their sending
abbrev pub entries_of : Tracker → List Entry
entries_of t = take t.count t.entries

-- the tracker that holds just these in its first places; the others are as they were
unfoldable pub holding : Tracker → List Entry → Tracker
holding t l = record { entries = l ++ drop (length l) t.entries; count = length l }

unfoldable pub ids_of : List Entry → List ℕ
ids_of [] = []
ids_of (e ∷ l) = e.id ∷ ids_of l

-- the open requests
abbrev pub open_of : Tracker → List ℕ
open_of t = ids_of (entries_of t)

abbrev pub is_open : Tracker → ℕ → Bool
is_open t id = among id (open_of t)

-- the i-th of requests, from 0 on
abbrev pub request_at : List ℕ → ℕ → Option ℕ
request_at l i = pick (ltb i (length l)) (Some (get_or l i 0)) None

-- ---- what a report leaves

-- the entry when a report on it has come
abbrev pub noted : ℕ → Entry → Entry
noted sub e = record {
  id = e.id;
  asked = e.asked;
  acceptance = e.acceptance || is_acceptance sub;
  start = e.start || is_start sub;
  progress = e.progress || is_progress sub;
}

abbrev pub closes : ℕ → Entry → Bool
closes sub e = ends sub || all_come e.asked e.acceptance e.start e.progress

-- nothing where it closes the entry, and the entry as it was where it is on another request
abbrev pub left_of : ℕ → ℕ → Entry → List Entry
left_of id sub e = pick (eqb e.id id) (pick (closes sub (noted sub e)) [] (noted sub e ∷ [])) (e ∷ [])

unfoldable pub left : ℕ → ℕ → List Entry → List Entry
left id sub [] = []
left id sub (e ∷ l) = left_of id sub e ++ left id sub l

abbrev pub left_by : Answer Report → List Entry → List Entry
left_by (gives r) l = left r.request r.subtype l
left_by (refuses e) l = l

-- ---- the calls

-- a report: 15, 16
unfoldable pub report_to : Tracker → Answer Report → Kept Tracker
report_to t a = set_if (report_check (open_of t) a) t (holding t (left_by a (entries_of t)))

abbrev pub report_of : Tracker → ℕ → List ℕ → Kept Tracker
report_of t time s = report_to t (report_in time s)

-- with an entry for a request that asks for something
unfoldable pub opened : Tracker → ℕ → ℕ → Tracker
opened t id asked = pick (asks_nothing asked) t (holding t (entries_of t ++ (entry_of id asked ∷ [])))

-- a command: the strict verdict's refusals, 17, 18
unfoldable pub send_of : Tracker → List ℕ → Kept Tracker
send_of t s = set_if (send_check (open_of t) s) t (opened t (request_of s) (asked_of s))
