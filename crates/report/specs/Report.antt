-- The report of tcverdict, to the last character.
use Rattle.std.specs.Prelude.{ℕ, ◌+◌, ◌*◌, List, [], ◌∷◌, ◌++◌, length, ltb, Option, Some, None}
use Rattle.text.specs.Ascii.{ascii}
use Rattle.text.specs.Digits.{decimal}
use Rattle.space_packet.specs.Answer.{Answer, gives, refuses}
use Rattle.space_packet.specs.Bits.{pick}
use Rattle.tc_read.specs.declared.PusTcRecord.{PusTcRecord}
use Rattle.tc_strict.specs.Split.{Piece, packet, tail, Next, end, piece, walk}
use Rattle.tc_strict.specs.declared.split.Cursor.{Cursor}

-- two numbers, and a space between them
unfoldable pub two_text : ℕ → ℕ → List ℕ
two_text a b = decimal a ++ ascii " " ++ decimal b

-- an accepted packet's service type and message subtype, or the number of the refusal
unfoldable pub verdict_text : Answer PusTcRecord → List ℕ
verdict_text (gives r) =
    ascii " accept " ++ two_text r.sec_header.message_type_id.type_id r.sec_header.message_type_id.subtype_id
verdict_text (refuses e) = ascii " refuse " ++ decimal e.number

-- where a piece begins and how many octets it has: AT LEN accept SERVICE SUBTYPE, AT LEN refuse NUMBER, or AT LEN tail
unfoldable pub line_of : Piece → List ℕ
line_of (packet at n v) = two_text at n ++ verdict_text v ++ ascii "\n"
line_of (tail at n) = two_text at n ++ ascii " tail\n"

-- a line for each piece; the splitter gives no empty tail, so that has no line
unfoldable pub lines_of : List Piece → List ℕ
lines_of [] = []
lines_of (p ∷ ps) = line_of p ++ lines_of ps

-- the lines, and the capture's length at the end; of more than 65,536 octets, that they are too long
unfoldable pub body_text : List ℕ → List ℕ
body_text capture =
    pick (ltb 65536 (length capture)) (ascii "too long\n")
    (lines_of (walk capture) ++ ascii "end " ++ decimal (length capture) ++ ascii "\n")

unfoldable pub report_text : List ℕ → List ℕ
report_text capture = ascii "tcverdict 1\n" ++ body_text capture

-- room for every report: the first line has 12 characters and the last 10 at most; a packet's line has 27 at most, which is no
-- more than 4 for each of its 7 octets or more; a tail's has 17 at most, which is 13 more than 4 for an octet
abbrev pub room : ℕ
room = 12 + 4 * 65536 + 13 + 10

-- ---- one step

unfoldable pub step_text : Next → List ℕ
step_text end = []
step_text (piece p next) = line_of p

-- where the next piece begins; nowhere at the capture's end
abbrev pub onward_of : Next → Option Cursor
onward_of end = None
onward_of (piece p next) = Some (record { at = next })
