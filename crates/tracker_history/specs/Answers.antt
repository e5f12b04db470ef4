-- The tracker after any calls, and what is asked of its answers.
use Rattle.std.specs.Prelude.{ℕ, ◌/◌, ◌≤◌, ◌≡◌, Bool, false, not, ◌&&◌, ◌||◌, List, [], ◌∷◌, length}
use Rattle.std.specs.Int.Count.{ones}
use Rattle.space_packet.specs.Answer.{Kept, Numbers, gives, refuses}
use Rattle.space_packet.specs.Bits.{lowest}
use Rattle.tracker.specs.Reports.{request_of, asked_of}
use Rattle.tracker.specs.Refusals.{among}
use Rattle.tracker.specs.Open.{new_tracker, send_of, report_of}
use Rattle.tracker.specs.declared.Tracker.{Tracker}
use Rattle.tracker_history.specs.History.{Call, sent, reported, History, start, ◌▸◌, extended, closed_by, answer_after}

-- ---- the tracker after the calls

abbrev pub called : Tracker → Call → Tracker
called t (sent s) = (send_of t s).kept
called t (reported n s) = (report_of t n s).kept

unfoldable pub run : History → Tracker
run start = new_tracker
run (h ▸ c) = called (run h) c

-- ---- what is asked of one more call

-- its answer is the history's, the tracker that it leaves that of one call more; a refusal leaves the tracker as it was
pub record Follows (h : History) (c : Call) (k : Kept Tracker) : Type 0 where
  pub answered : k.passed ≡ answer_after h c
  pub runs : k.kept ≡ run (h ▸ c)
  pub unchanged : (e : Numbers) → k.passed ≡ refuses e → k.kept ≡ run h

-- ---- what is open

-- a request was sent without refusal, asking for something, and has not been closed since
pub record OpenBy (h : History) (id : ℕ) : Type 0 where
  pub before : History
  pub command : List ℕ
  pub since : List Call
  pub is : extended (before ▸ sent command) since ≡ h
  pub request : request_of command ≡ id
  pub taken : answer_after before (sent command) ≡ gives tt
  pub asks : ones (asked_of command) ≡ 0 → ⊥
  pub not-closed : closed_by since id (asked_of command) ≡ false

-- ---- closing, kind by kind

-- a kind was not asked for, or has come
abbrev pub met : ℕ → ℕ → Bool → Bool
met asked weight come = not (lowest (asked / weight)) || come

-- completion was not asked for, and each kind that was has come; that `all_come`, which counts them, says the same is `all-each`
abbrev pub each_come : ℕ → Bool → Bool → Bool → Bool
each_come asked a s p = not (lowest asked) && (met asked 8 a && (met asked 4 s && met asked 2 p))

-- ---- how many are open

-- no request is there twice
unfoldable pub Distinct : List ℕ → Type 0
Distinct [] = Unit {0}
Distinct (x ∷ l) = (among x l ≡ false) × Distinct l

pub record Few (l : List ℕ) : Type 0 where
  pub few : length l ≤ 32
  pub distinct : Distinct l
