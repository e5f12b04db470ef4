-- What follows the report's first line.
use Prim.Native.Nat.{ℕ, ◌≤◌, ◌<◌}
use mathlib.Core.Path.{◌≡◌, sym, ap, ap₂, ◌∙◌}
use mathlib.Core.Bool.{Bool}
use mathlib.Core.List.{List, ◌++◌}
use native.Mathlib.Omega.{arith}
use borrow.Author.Tests.{lt-ltb, le-ltb}
use lib.ListN.{length, take, drop, length-append}
use lib.Seq.{take-append_seam}
use Rattle.std.specs.Prelude.{Result, Ok, Err}
use Rattle.space_packet.specs.Answer.{answer_of, numbers_of}
use Rattle.space_packet.specs.declared.PusError.{PusError}
use Rattle.text.specs.Ascii.{ascii}
use Rattle.text.specs.Digits.{decimal}
use Rattle.space_packet.specs.Bits.{pick}
use Rattle.gaps.specs.Gaps.{Rows, gaps_of, Listed}
use Rattle.gaps.specs.declared.Listing.{Listing}
use Rattle.gaps.specs.declared.Totals.{Totals}
use Rattle.gap_report.specs.Report.{rows_text, total_text, end_text, gaps_text, body_text}

pub body-long : (s : List ℕ) → 65536 < length s → ascii "too long\n" ≡ body_text s
unfolding body_text
body-long s h = ap (λ (b : Bool). pick b (ascii "too long\n") (gaps_text (gaps_of 5041 s))) (sym (lt-ltb 65536 (length s) h))

pub body-whole : (s : List ℕ) (list : Rows) → length list ≡ 5041 → length s ≤ 65536 → gaps_text (gaps_of (length list) s) ≡ body_text s
unfolding body_text
body-whole s list e h =
    ap (λ (n : ℕ). gaps_text (gaps_of n s)) e
    ∙ ap (λ (b : Bool). pick b (ascii "too long\n") (gaps_text (gaps_of 5041 s))) (sym (le-ltb 65536 (length s) h))

-- ---- the end

pub end-totals : (r : Result Totals PusError) (t : Totals) → r ≡ Ok t
    → total_text (ascii "accepted ") t.accepted ++ total_text (ascii " refused ") t.refused ++ total_text (ascii " tail ") t.tail ++ ascii "\n" ≡ end_text (answer_of r)
unfolding end_text
end-totals r t e = ap (λ (x : Result Totals PusError). end_text (answer_of x)) (sym e)

pub end_refused : (r : Result Totals PusError) (e : PusError) (n : ℕ) → r ≡ Err e → n ≡ (numbers_of e).number → decimal n ++ ascii "\n" ≡ end_text (answer_of r)
unfolding end_text
end_refused r e n k h = ap (λ (x : ℕ). decimal x ++ ascii "\n") h ∙ ap (λ (x : Result Totals PusError). end_text (answer_of x)) (sym k)

-- ---- the rows that the list has been given, and the end
module _ (capture : List ℕ) (before after : Rows) (r : Listing) (h : Listed capture before r after) where
  abbrev rows : Rows
  rows = (gaps_of (length before) capture).rows

  pub rows_fit : r.listed ≤ length after
  rows_fit =
      let n = h.counted in
      let l = ap length h.left in
      let m = length-append rows (drop (length rows) before) in
      omega (arith, n, l, m)

  pub gaps-text : rows_text (take r.listed after) ++ end_text (answer_of r.result) ≡ gaps_text (gaps_of (length before) capture)
  unfolding gaps_text
  gaps-text =
      ap₂ (λ (x : Rows) y. rows_text x ++ end_text y) (ap₂ take h.counted h.left ∙ take-append_seam rows (drop (length rows) before)) h.answered
