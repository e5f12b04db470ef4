-- The lines of the gaps, one row after the other.
use Prim.Native.Nat.{ℕ, ◌+◌, ◌≤◌, ◌<◌}
use mathlib.Core.Path.{◌≡◌, refl, sym, ap, ◌∙◌}
use mathlib.Core.List.{List, ◌∷◌}
use native.Mathlib.Numerals.{add-one}
use lib.ListN.{length, get_or, drop, drop_of_length-le}
use lib.Seq.{drop-cons}
use Rattle.text.specs.Page.{Page, laid}
use Rattle.text.proofs.Pages.{and_then}
use Rattle.gaps.specs.Gaps.{Rows}
use Rattle.gap_report.specs.Report.{row_text, rows_text}

-- the lines of the rows before i are laid into p, and those of the others make it t
pub record Left (rows : Rows) (t : Page) (i : ℕ) (p : Page) : Type 0 where
  pub kept : laid p (rows_text (drop i rows)) ≡ t

pub on : (rows : Rows) (t : Page) (i : ℕ) (p q : Page) (row none : List ℕ) → Left rows t i p → i < length rows → get_or rows i none ≡ row
    → q ≡ laid p (row_text row) → Left rows t (i + 1) q
unfolding rows_text
on rows t i p q row none k h r e = record {
  kept =
      and_then p (row_text row) (rows_text (drop (i + 1) rows)) e refl
      ∙ sym (ap (λ (x : Rows). laid p (rows_text x)) (drop-cons rows i none h ∙ (λ j. r j ∷ drop (sym (add-one i) j) rows)))
      ∙ k.kept;
}

pub done : (rows : Rows) (t : Page) (i : ℕ) (p : Page) → Left rows t i p → length rows ≤ i → p ≡ t
unfolding rows_text laid
done rows t i p k h = sym (ap (λ (x : Rows). laid p (rows_text x)) (drop_of_length-le rows h)) ∙ k.kept
