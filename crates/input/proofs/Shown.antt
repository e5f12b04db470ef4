-- A text that stands at the start of a buffer with room for it: what is counted, and what is read back.
use Prim.Native.Nat.{ℕ, ◌≤◌}
use mathlib.Core.Path.{◌≡◌, sym, ap, ◌∙◌, subst}
use mathlib.Core.List.{List}
use native.Mathlib.Omega.{arith}
use lib.ListN.{length, take, drop, length-append}
use lib.Seq.{length-take-le, take-append_seam, take_all}
use Rattle.io.specs.Counts.{IsPrefixLen}
use Rattle.text.specs.Page.{Page, page, laid, at_start}
use Rattle.text.proofs.Pages.{laid-room}
use Rattle.input.specs.Printing.{Rendered}

shown-counts : (t before after : List ℕ) (n : ℕ) → page after n ≡ at_start before t → IsPrefixLen n after
shown-counts t before after n e =
    let i : n ≤ length after = subst (λ (p : Page). p.place ≤ length p.octets) (sym e) (simp length-append (omega arith)) in
    (i, sym (length-take-le n after i))

shown-text : (t before after : List ℕ) (n : ℕ) → page after n ≡ at_start before t → take n after ≡ t
shown-text t before after n e =
    ap (λ (p : Page). take p.place p.octets) e ∙ take-append_seam t (drop (length t) before)

module _ (t before after : List ℕ) (n : ℕ) (e : page after n ≡ laid (page before 0) t) (h : length t ≤ length before) where
  pub laid-counts : IsPrefixLen n after
  laid-counts = shown-counts t before after n (e ∙ laid-room t before h)

  pub laid-text : take n after ≡ t
  laid-text = shown-text t before after n (e ∙ laid-room t before h)

-- a report, with room for all of it
module _ {room : ℕ} {t before : List ℕ} {n : ℕ} {after : List ℕ} (k : Rendered room t before n after) (h : room ≤ length before) where
  all : page after n ≡ at_start before t
  all = k.shown ∙ ap (at_start before) (take_all (length before) t (omega (arith, k.whole, h)))

  pub rendered-counts : IsPrefixLen n after
  rendered-counts = shown-counts t before after n all

  pub rendered-text : take n after ≡ t
  rendered-text = shown-text t before after n all
