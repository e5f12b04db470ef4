-- What follows the report's first line.
use Prim.Native.Nat.{ℕ, ◌≤◌, ◌<◌}
use mathlib.Core.Path.{◌≡◌, sym, ap}
use mathlib.Core.Bool.{Bool}
use mathlib.Core.List.{List, ◌++◌}
use borrow.Author.Tests.{lt-ltb, le-ltb}
use lib.ListN.{length}
use Rattle.text.specs.Ascii.{ascii}
use Rattle.text.specs.Digits.{decimal}
use Rattle.space_packet.specs.Bits.{pick}
use Rattle.tc_strict.specs.Split.{walk}
use Rattle.report.specs.Report.{lines_of, body_text}

abbrev whole : List ℕ → List ℕ
whole s = lines_of (walk s) ++ ascii "end " ++ decimal (length s) ++ ascii "\n"

pub body-long : (s : List ℕ) → 65536 < length s → ascii "too long\n" ≡ body_text s
unfolding body_text
body-long s h = ap (λ (b : Bool). pick b (ascii "too long\n") (whole s)) (sym (lt-ltb 65536 (length s) h))

pub body-whole : (s : List ℕ) → length s ≤ 65536 → whole s ≡ body_text s
unfolding body_text
body-whole s h = ap (λ (b : Bool). pick b (ascii "too long\n") (whole s)) (sym (le-ltb 65536 (length s) h))
