-- The splitter: a capture as a row of packets, each judged alone, and a tail.
use Rattle.std.specs.Prelude.{ℕ, zero, suc, ◌+◌, Bool, ◌||◌, List, [], ◌∷◌, length, take, drop, ltb, leb}
use Rattle.space_packet.specs.Answer.{answer_of, Answer}
use Rattle.space_packet.specs.Bits.{pick}
use Rattle.ecss.specs.Frame.{stated_of}
use Rattle.tc_header.specs.Form.{form_c}
use Rattle.tc_header.specs.declared.TcForm.{TcForm}
use Rattle.tc_read.specs.declared.PusTcRecord.{PusTcRecord}
use Rattle.tc_strict.specs.Verdict.{strict_in}
use Rattle.tc_strict.specs.declared.split.Step.{Step}
use Rattle.tc_strict.specs.declared.split.Step.TheVariants as S

-- a piece of a capture: where it begins, how many octets it has, and of a packet its verdict
pub data Piece : Type 0 where
  packet : ℕ → ℕ → Answer PusTcRecord → Piece
  tail : ℕ → ℕ → Piece

-- fewer than 6 octets remain, or fewer than the stated total
abbrev pub is_tail : List ℕ → Bool
is_tail rest = ltb (length rest) 6 || ltb (length rest) (stated_of rest)

-- nothing, where the capture has ended
pub data Next : Type 0 where
  end : Next
  piece : Piece → ℕ → Next

abbrev pub length_of : Piece → ℕ
length_of (packet at n v) = n
length_of (tail at n) = n

abbrev pub step_answer : Step → Next
step_answer S.End = end
step_answer (S.Packet at n v next) = piece (packet at n (answer_of v)) next.at
step_answer (S.Tail at n next) = piece (tail at n) next.at

-- a piece, and the walk on from behind it
abbrev pub continue : Next → (ℕ → List Piece) → List Piece
continue end walk = []
continue (piece p next) walk = p ∷ walk next

-- ---- by the verdict that each packet is given

module _ (verdict : List ℕ → Answer PusTcRecord) where
  -- the piece that begins at `at`, where `rest` is what remains there
  unfoldable pub piece_by : ℕ → List ℕ → Piece
  piece_by at rest =
      pick (is_tail rest) (tail at (length rest)) (packet at (stated_of rest) (verdict (take (stated_of rest) rest)))

  -- one step, from the octet `at`: the piece, and where the next begins
  unfoldable pub step_by : List ℕ → ℕ → Next
  step_by s at =
      pick (leb (length s) at) end (piece (piece_by at (drop at s)) (at + length_of (piece_by at (drop at s))))

  -- the walk from the octet `at` on; `turns` is no fewer than the octets that remain
  unfoldable pub walk_by : ℕ → List ℕ → ℕ → List Piece
  walk_by zero s at = []
  walk_by (suc turns) s at = continue (step_by s at) (walk_by turns s)

  -- the whole walk
  abbrev pub whole_by : List ℕ → List Piece
  whole_by s = walk_by (length s) s 0

-- of a form
abbrev pub step_in : TcForm → List ℕ → ℕ → Next
step_in f = step_by (strict_in f)

abbrev pub walk_in : TcForm → List ℕ → List Piece
walk_in f = whole_by (strict_in f)

-- of PUS C with no spare octets
abbrev pub step_of : List ℕ → ℕ → Next
step_of = step_in form_c

abbrev pub walk_from : ℕ → List ℕ → ℕ → List Piece
walk_from = walk_by (strict_in form_c)

abbrev pub walk : List ℕ → List Piece
walk = walk_in form_c
