-- The lines of a walk, one step after the other.
use Prim.Native.Nat.{ℕ, zero, suc, ◌+◌, ◌-◌, ◌≤◌, ◌<◌}
use mathlib.Core.Path.{◌≡◌, refl, sym, ap, ◌∙◌}
use mathlib.Core.List.{List, []}
use native.Mathlib.Omega.{arith}
use lib.ListN.{length}
use Rattle.std.specs.Prelude.{Option, Some, None}
use Rattle.text.specs.Page.{Page, laid}
use Rattle.text.proofs.Pages.{and_then}
use Rattle.tc_strict.specs.Verdict.{strict_of}
use Rattle.tc_strict.specs.Split.{Piece, Next, end, piece, length_of, step_of, continue, walk_by, walk_from}
use Rattle.tc_strict.specs.declared.split.Cursor.{Cursor}
use Rattle.tc_strict.proofs.Pieces.{step_end, step_is, ended_is}
use Rattle.report.specs.Report.{line_of, lines_of, step_text, onward_of}

-- from the capture's end on there is no piece
pub none_left : (turns : ℕ) (s : List ℕ) (at : ℕ) → length s ≤ at → walk_from turns s at ≡ []
unfolding walk_by
none_left zero s at h = refl
none_left (suc turns) s at h = ap (λ (x : Next). continue x (walk_from turns s)) (step_end strict_of s at h)

-- the lines before `from` are laid into p, and what is left of the walk makes it t
pub record Left (s : List ℕ) (t : Page) (from : ℕ) (p : Page) : Type 0 where
  pub turns : ℕ
  pub enough : length s - from ≤ turns
  pub kept : laid p (lines_of (walk_from turns s from)) ≡ t

-- the same where the walk goes on at a cursor; at none it has ended
abbrev pub LeftAt : List ℕ → Page → Option Cursor → Page → Type 0
LeftAt s t None p = p ≡ t
LeftAt s t (Some here) p = Left s t here.at p

-- how far the walk has to go
abbrev pub ahead : List ℕ → Option Cursor → ℕ
ahead s None = 0
ahead s (Some here) = suc (length s - here.at)

pub record On (s : List ℕ) (t : Page) (from next : Option Cursor) (p : Page) : Type 0 where
  pub further : ahead s next < ahead s from
  pub left : LeftAt s t next p

-- a piece's line is laid, and the walk goes on behind it
on-piece : (turns : ℕ) (s : List ℕ) (t : Page) (from : ℕ) (p q : Page) (c : Piece) (next : ℕ) → piece c next ≡ step_of s from
    → length s - from ≤ turns → laid p (lines_of (walk_from turns s from)) ≡ t → q ≡ laid p (line_of c)
    → On s t (Some (record { at = from })) (Some (record { at = next })) q
unfolding lines_of walk_by
on-piece zero s t from p q c next e enough kept w =
    let k = (step_is strict_of s from c next (sym e)).0 in
    let l = k.long in
    let i = k.inside in
    absurd (omega arith)
on-piece (suc turns) s t from p q c next e enough kept w =
    let k = step_is strict_of s from c next (sym e) in
    let n : next ≡ from + length_of c = k.1 in
    let l = k.0.long in
    let i = k.0.inside in
    record {
      further = omega arith;
      left = record {
        turns = turns;
        enough = omega arith;
        kept =
            and_then p (line_of c) (lines_of (walk_from turns s next)) w refl
            ∙ ap (λ (x : Next). laid p (lines_of (continue x (walk_from turns s)))) e
            ∙ kept;
      };
    }

on-next : (s : List ℕ) (t : Page) (from : ℕ) (p q : Page) (x : Next) → Left s t from p → x ≡ step_of s from → q ≡ laid p (step_text x)
    → On s t (Some (record { at = from })) (onward_of x) q
unfolding step_text lines_of laid
on-next s t from p q end k e w =
    let none = none_left k.turns s from (ended_is strict_of s from (sym e)) in
    record { further = omega arith; left = w ∙ sym (ap (λ (l : List Piece). laid p (lines_of l)) none) ∙ k.kept }
on-next s t from p q (piece c next) k e w =
    on-piece k.turns s t from p q c next e k.enough k.kept w

-- a step lays its piece's line, and the walk goes on where it says
pub on : (s : List ℕ) (t : Page) (here : Cursor) (from next : Option Cursor) (p q : Page) (x : Next) → LeftAt s t from p → from ≡ Some here
    → x ≡ step_of s here.at → q ≡ laid p (step_text x) → next ≡ onward_of x → On s t from next q
on s t here from next p q x k f e w n =
    rw (f, n) (on-next s t here.at p q x (rw f at k) e w)
