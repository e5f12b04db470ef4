-- The gaps of a capture by its commands alone, with no table of last counts.
use Rattle.std.specs.Prelude.{ℕ, ◌+◌, ◌<◌, ◌≡◌, ◌⊎◌, List, [], ◌∷◌, ◌++◌, eqb, length, get_or}
use Rattle.space_packet.specs.Answer.{Numbers, refusal, gives, refuses}
use Rattle.space_packet.specs.Bits.{pick}
use Rattle.tc_read.specs.declared.PusTcRecord.{PusTcRecord}
use Rattle.tc_strict.specs.Split.{Piece, packet, tail, walk}
use Rattle.gaps.specs.Gaps.{Rows, State, after_count, command_of, with_accepted, with_refused, with_tail, scan, none}
use Rattle.gaps.specs.declared.Command.{Command}
use Rattle.gaps.specs.declared.Totals.{Totals}

-- the accepted commands in order, each as its APID and its sequence count
unfoldable pub commands_of : List Piece → List Command
commands_of [] = []
commands_of (packet at n (gives r) ∷ ps) = command_of r ∷ commands_of ps
commands_of (packet at n (refuses e) ∷ ps) = commands_of ps
commands_of (tail at n ∷ ps) = commands_of ps

-- the octets of accepted packets, of refused ones and of the tail
unfoldable pub totals_of : List Piece → Totals
totals_of [] = none
totals_of (packet at n (gives r) ∷ ps) = with_accepted (totals_of ps) n
totals_of (packet at n (refuses e) ∷ ps) = with_refused (totals_of ps) n
totals_of (tail at n ∷ ps) = with_tail (totals_of ps) n

-- ---- gaps, by what came before

-- the last count of an APID, if it has come
pub data Seen : Type 0 where
  never : Seen
  last : ℕ → Seen

-- among commands of which the latest is the first
unfoldable pub seen_in : List Command → ℕ → Seen
seen_in [] a = never
seen_in (c ∷ cs) a = pick (eqb c.apid.0 a) (last c.count.0) (seen_in cs a)

-- the row of a command whose count does not follow
unfoldable pub gap_after : Seen → Command → Rows
gap_after never c = []
gap_after (last k) c = pick (eqb c.count.0 (after_count k)) [] ((c.apid.0 ∷ after_count k ∷ c.count.0 ∷ []) ∷ [])

-- the rows of commands behind others, of which the latest is the first
unfoldable pub gaps_behind : List Command → List Command → Rows
gaps_behind before [] = []
gaps_behind before (c ∷ cs) = gap_after (seen_in before c.apid.0) c ++ gaps_behind (c ∷ before) cs

unfoldable pub is_new : Seen → ℕ
is_new never = 1
is_new (last k) = 0

-- how many APIDs they have that had not come
unfoldable pub new_behind : List Command → List Command → ℕ
new_behind before [] = 0
new_behind before (c ∷ cs) = is_new (seen_in before c.apid.0) + new_behind (c ∷ before) cs

-- ---- of a capture

abbrev pub gaps_in : List ℕ → Rows
gaps_in s = gaps_behind [] (commands_of (walk s))

abbrev pub apids_in : List ℕ → ℕ
apids_in s = new_behind [] (commands_of (walk s))

-- ---- counts that all follow

-- the counts of an APID, in order
unfoldable pub counts_of : ℕ → List Command → List ℕ
counts_of a [] = []
counts_of a (c ∷ cs) = pick (eqb c.apid.0 a) (c.count.0 ∷ counts_of a cs) (counts_of a cs)

-- each is one more than the one before it, modulo 16,384
unfoldable pub Follow : List ℕ → Type 0
Follow [] = Unit {0}
Follow (x ∷ []) = Unit {0}
Follow (x ∷ y ∷ l) = (y ≡ after_count x) × Follow (y ∷ l)

-- those of each APID
abbrev pub AllFollow : List Command → Type 0
AllFollow cs = (a : ℕ) → Follow (counts_of a cs)

-- an APID has a command among some
abbrev pub Among : ℕ → List Command → Type 0
Among a cs = 0 < length (counts_of a cs)

-- ---- a refusal

-- a command is the first of a 65th APID
abbrev pub Is65th : List Command → Command → Type 0
Is65th before c = (new_behind [] before ≡ 64) × (new_behind [] (before ++ (c ∷ [])) ≡ 65)

-- a command has a gap, and those before it fill a list of some places
abbrev pub NoPlace : ℕ → List Command → Command → Type 0
NoPlace places before c = (length (gaps_behind [] before) ≡ places) × (length (gaps_behind [] (before ++ (c ∷ []))) ≡ places + 1)

-- why a command is refused, by those before it: 31 for the first, 1 for the second
abbrev pub Reason : ℕ → List Command → Command → Numbers → Type 0
Reason places before c e = ((e ≡ refusal 31 []) × Is65th before c) ⊎ ((e ≡ refusal 1 (places ∷ (places + 1) ∷ [])) × NoPlace places before c)

-- the command at which a walk that stands in s is refused: the pieces before it are taken, and with it the answer is e
pub record RefusedAt (places : ℕ) (s : State) (ps : List Piece) (e : Numbers) : Type 0 where
  pub before : List Piece
  pub at : ℕ
  pub n : ℕ
  pub command : PusTcRecord
  pub behind : List Piece
  pub pieces : ps ≡ before ++ (packet at n (gives command) ∷ behind)
  pub totals : Totals
  pub taken : (scan places s before).answer ≡ gives totals
  pub refused : (scan places s (before ++ (packet at n (gives command) ∷ []))).answer ≡ refuses e

-- ---- rows

-- an APID and two counts, each within its width
abbrev pub RowWithin : List ℕ → Type 0
RowWithin row = (get_or row 0 0 < 2048) × (get_or row 1 0 < 16384) × (get_or row 2 0 < 16384)

unfoldable pub AllRows : (List ℕ → Type 0) → Rows → Type 0
AllRows P [] = Unit {0}
AllRows P (row ∷ rows) = P row × AllRows P rows
