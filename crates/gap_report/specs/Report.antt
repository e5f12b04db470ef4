-- The report of tcgaps, to the last character.
use Rattle.std.specs.Prelude.{ℕ, ◌+◌, ◌*◌, List, [], ◌∷◌, ◌++◌, ltb, length, get_or}
use Rattle.text.specs.Ascii.{ascii}
use Rattle.text.specs.Digits.{decimal}
use Rattle.space_packet.specs.Answer.{Answer, gives, refuses}
use Rattle.space_packet.specs.Bits.{pick}
use Rattle.gaps.specs.Gaps.{Rows, Outcome, gaps_of}
use Rattle.gaps.specs.declared.Totals.{Totals}

-- APID, expected and found
unfoldable pub row_text : List ℕ → List ℕ
row_text row = decimal (get_or row 0 0) ++ ascii " " ++ decimal (get_or row 1 0) ++ ascii " " ++ decimal (get_or row 2 0) ++ ascii "\n"

-- a line for each gap
unfoldable pub rows_text : Rows → List ℕ
rows_text [] = []
rows_text (row ∷ rows) = row_text row ++ rows_text rows

-- a total behind its name
unfoldable pub total_text : List ℕ → ℕ → List ℕ
total_text name n = name ++ decimal n

-- the totals in octets, or the number of the refusal
unfoldable pub end_text : Answer Totals → List ℕ
end_text (gives t) = total_text (ascii "accepted ") t.accepted ++ total_text (ascii " refused ") t.refused ++ total_text (ascii " tail ") t.tail ++ ascii "\n"
end_text (refuses e) = decimal e.number ++ ascii "\n"

unfoldable pub gaps_text : Outcome → List ℕ
gaps_text o = rows_text o.rows ++ end_text o.answer

-- the gaps and the end, with a list of 5,041 places; of more than 65,536 octets, that they are too long
unfoldable pub body_text : List ℕ → List ℕ
body_text capture = pick (ltb 65536 (length capture)) (ascii "too long\n") (gaps_text (gaps_of 5041 capture))

unfoldable pub report_text : List ℕ → List ℕ
report_text capture = ascii "tcgaps 1\n" ++ body_text capture

-- room for every report: the first line has 9 characters and the last 40 at most; a gap's line has 17 at most, which is less than 2
-- for each of the 13 octets or more of its packet
abbrev pub room : ℕ
room = 9 + 2 * 65536 + 40
