-- How long a report is: a capture that is not too long has a gap for each 13 of its octets at most.
use Prim.Native.Nat.{ℕ, ◌+◌, ◌*◌, ◌≤◌}
use mathlib.Core.Path.{◌≡◌, refl, ap}
use mathlib.Core.Bool.{Bool, true, false}
use mathlib.Core.List.{List, [], ◌∷◌}
use native.Mathlib.Omega.{arith}
use borrow.Author.Tests.{ltb-false}
use lib.Dec.{ltb}
use lib.ListN.{length, get_or, length-append}
use Rattle.text.specs.Ascii.{ascii}
use Rattle.text.proofs.Decimals.{decimal-length}
use Rattle.space_packet.specs.Answer.{Answer, Numbers, gives, refuses}
use Rattle.space_packet.specs.Bits.{pick}
use Rattle.gaps.specs.Gaps.{Rows, gaps_of}
use Rattle.gaps.specs.declared.Totals.{Totals}
use Rattle.gaps_exact.specs.History.{RowWithin, AllRows}
use Rattle.gaps_exact.proofs.Limits.{rows_few, rows-within, only-31}
use Rattle.gaps_exact.proofs.Sums.{sums}
use Rattle.gap_report.specs.Report.{row_text, rows_text, total_text, end_text, gaps_text, body_text, report_text, room}

row-length : (row : List ℕ) → RowWithin row → length (row_text row) ≤ 17
unfolding row_text
row-length row w =
    let a = decimal-length 3 (get_or row 0 0) (let h = w.0 in omega (arith, h)) in
    let e = decimal-length 4 (get_or row 1 0) (let h = w.1 in omega (arith, h)) in
    let f = decimal-length 4 (get_or row 2 0) (let h = w.2 in omega (arith, h)) in
    simp length-append (omega arith)

rows-length : (rows : Rows) → AllRows RowWithin rows → length (rows_text rows) ≤ 17 * length rows
unfolding rows_text AllRows
rows-length [] w = omega arith
rows-length (row ∷ rows) w =
    let h = row-length row w.0 in
    let k = rows-length rows w.1 in
    simp length-append (omega arith)

end-length : (s : List ℕ) (a : Answer Totals) → length s ≤ 65536 → (gaps_of 5041 s).answer ≡ a → length (end_text a) ≤ 40
unfolding end_text total_text
end-length s (gives t) h e =
    let n = sums 5041 s t e in
    let a = decimal-length 4 t.accepted (omega (arith, h, n)) in
    let r = decimal-length 4 t.refused (omega (arith, h, n)) in
    let l = decimal-length 4 t.tail (omega (arith, h, n)) in
    simp length-append (omega arith)
end-length s (refuses x) h e =
    let n = ap (λ (y : Numbers). y.number) (only-31 s x h e) in
    let d = decimal-length 1 x.number (omega (arith, n)) in
    simp length-append (omega arith)

body-length : (s : List ℕ) (b : Bool) → ltb 65536 (length s) ≡ b → length (pick b (ascii "too long\n") (gaps_text (gaps_of 5041 s))) ≤ 2 * 65536 + 40
unfolding gaps_text
body-length s true e = omega arith
body-length s false e =
    let h : length s ≤ 65536 = ltb-false _ _ e in
    let few = rows_few 5041 s in
    let l = rows-length (gaps_of 5041 s).rows (rows-within 5041 s) in
    let m = end-length s (gaps_of 5041 s).answer h refl in
    simp length-append (omega arith)

-- every report has room
pub report-length : (s : List ℕ) → length (report_text s) ≤ room
unfolding report_text body_text
report-length s = let x = body-length s (ltb 65536 (length s)) refl in simp length-append (omega arith)
