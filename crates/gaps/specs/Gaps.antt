-- Gaps in a recorded uplink: what a walk over the pieces of a capture lists, and how it ends.
use Rattle.std.specs.Prelude.{ℕ, suc, ◌+◌, ◌%◌, List, [], ◌∷◌, ◌++◌, ◌≡◌, eqb, leb, length, get_or, set, drop, Option, Some, None, Result, Ok, Err}
use Rattle.space_packet.specs.Answer.{answer_of, Answer, Kept, Numbers, refusal, gives, refuses, numbers_of}
use Rattle.space_packet.specs.Bits.{pick}
use Rattle.space_packet.specs.declared.PusError.{PusError}
use Rattle.tc_read.specs.declared.PusTcRecord.{PusTcRecord}
use Rattle.tc_strict.specs.Split.{Piece, packet, tail, Next, end, piece, length_of, walk}
use Rattle.tc_strict.specs.declared.split.Cursor.{Cursor}
use Rattle.gaps.specs.declared.Command.{Command}
use Rattle.gaps.specs.declared.Listing.{Listing}
use Rattle.gaps.specs.declared.Totals.{Totals}

-- a row is an APID, the count that was expected of it, and the one that was found
abbrev pub Rows : Type 0
Rows = List (List ℕ)

-- ---- the last command of each APID, in the order in which they came first

-- where an APID stands; behind the last, where it has not come yet
unfoldable pub place_of : List Command → ℕ → ℕ
place_of [] a = 0
place_of (c ∷ cs) a = pick (eqb c.apid.0 a) 0 (suc (place_of cs a))

-- one more than a count, modulo 16,384
abbrev pub after_count : ℕ → ℕ
after_count n = (n + 1) % 16384

abbrev pub nobody : Command
nobody = record { apid = record { 0 = 0 }; count = record { 0 = 0 } }

-- the count that must come next at a place
abbrev pub expected_at : List Command → ℕ → ℕ
expected_at ls p = after_count (get_or ls p nobody).count.0

-- a command is noted: in its APID's place, or behind the last
abbrev pub noted : List Command → ℕ → Command → List Command
noted ls p c = pick (leb (length ls) p) (ls ++ (c ∷ [])) (set ls p c)

-- ---- the walk

-- where it stands: the last commands, how many gaps are listed, and the octets of accepted packets, of refused ones and of the tail
pub record State : Type 0 where
  pub lasts : List Command
  pub listed : ℕ
  pub totals : Totals

-- what a piece does: it goes on with nothing to list or with a row, or ends with a refusal
pub data Move : Type 0 where
  on : State → Move
  lists : List ℕ → State → Move
  stop : Numbers → Move

abbrev pub with_accepted : Totals → ℕ → Totals
with_accepted t n = record { accepted = t.accepted + n; refused = t.refused; tail = t.tail }

abbrev pub with_refused : Totals → ℕ → Totals
with_refused t n = record { accepted = t.accepted; refused = t.refused + n; tail = t.tail }

abbrev pub with_tail : Totals → ℕ → Totals
with_tail t n = record { accepted = t.accepted; refused = t.refused; tail = t.tail + n }

abbrev pub command_of : PusTcRecord → Command
command_of r = record { apid = r.sp_header.packet_id.apid; count = r.sp_header.psc.seq_count }

abbrev pub noting : State → ℕ → Command → ℕ → ℕ → State
noting s p c listed n = record { lasts = noted s.lasts p c; listed = listed; totals = with_accepted s.totals n }

-- an accepted command of n octets, whose APID stands at p: the first of an APID starts it, and 31 is the answer to that of a 65th;
-- a count that does not follow is a gap, which is listed, or 1 where the list has no place for it
abbrev pub command_at : ℕ → State → ℕ → Command → ℕ → Move
command_at places s n c p =
    pick (leb (length s.lasts) p) (pick (leb 64 p) (stop (refusal 31 [])) (on (noting s p c s.listed n)))
    (pick (eqb c.count.0 (expected_at s.lasts p)) (on (noting s p c s.listed n))
    (pick (leb places s.listed) (stop (refusal 1 (places ∷ (places + 1) ∷ [])))
    (lists (c.apid.0 ∷ expected_at s.lasts p ∷ c.count.0 ∷ []) (noting s p c (s.listed + 1) n))))

unfoldable pub command_move : ℕ → State → ℕ → Command → Move
command_move places s n c = command_at places s n c (place_of s.lasts c.apid.0)

-- refused packets and the tail count in their own totals
abbrev pub move_of : ℕ → State → Piece → Move
move_of places s (tail at n) = on (record { lasts = s.lasts; listed = s.listed; totals = with_tail s.totals n })
move_of places s (packet at n (refuses e)) = on (record { lasts = s.lasts; listed = s.listed; totals = with_refused s.totals n })
move_of places s (packet at n (gives r)) = command_move places s n (command_of r)

-- the gaps that are listed, and the totals where no refusal ends the walk
pub record Outcome : Type 0 where
  pub rows : Rows
  pub answer : Answer Totals

-- what was listed before a refusal stands, and nothing after it is asked for
abbrev pub followed : Move → (State → Outcome) → Outcome
followed (on s) f = f s
followed (lists row s) f = record { rows = row ∷ (f s).rows; answer = (f s).answer }
followed (stop e) f = record { rows = []; answer = refuses e }

unfoldable pub scan : ℕ → State → List Piece → Outcome
scan places s [] = record { rows = []; answer = gives s.totals }
scan places s (p ∷ ps) = followed (move_of places s p) (λ (t : State). scan places t ps)

abbrev pub none : Totals
none = record { accepted = 0; refused = 0; tail = 0 }

abbrev pub begin : State
begin = record { lasts = []; listed = 0; totals = none }

-- of a capture, with a list of some places
abbrev pub gaps_of : ℕ → List ℕ → Outcome
gaps_of places s = scan places begin (walk s)

-- ---- the call

-- what is answered for a capture, and what the list holds then: the rows, and behind them what it held before
pub record Listed (capture : List ℕ) (before : Rows) (r : Listing) (after : Rows) : Type 0 where
  pub answered : answer_of r.result ≡ (gaps_of (length before) capture).answer
  pub counted : r.listed ≡ length (gaps_of (length before) capture).rows
  pub left : after ≡ (gaps_of (length before) capture).rows ++ drop (length (gaps_of (length before) capture).rows) before

-- ---- one turn

-- how far the walk has come, and what the list holds
pub record Reached : Type 0 where
  pub state : State
  pub rows : Rows

-- what a call that makes a move answers, whatever it gives, and leaves
abbrev pub made : {A : Type 0} → Result A PusError → State → Rows → Kept Reached
made (Ok a) s l = record { passed = gives tt; kept = record { state = s; rows = l } }
made (Err e) s l = record { passed = refuses (numbers_of e); kept = record { state = s; rows = l } }

-- a row goes behind those that are listed; where the move ends the walk all stays as it was
abbrev pub by_move : Move → State → Rows → Kept Reached
by_move (on t) s l = record { passed = gives tt; kept = record { state = t; rows = l } }
by_move (lists row t) s l = record { passed = gives tt; kept = record { state = t; rows = set l s.listed row } }
by_move (stop e) s l = record { passed = refuses e; kept = record { state = s; rows = l } }

-- after a step, which may have found nothing
abbrev pub move_by : ℕ → State → Next → Move
move_by places s end = on s
move_by places s (piece p next) = move_of places s p

abbrev pub length_by : Next → ℕ
length_by end = 0
length_by (piece p next) = length_of p

-- where the next piece begins
abbrev pub next_by : Next → Option Cursor
next_by end = None
next_by (piece p next) = Some (record { at = next })

abbrev pub sum_of : Totals → ℕ
sum_of t = t.accepted + t.refused + t.tail
