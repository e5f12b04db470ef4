-- What is printed of an input that was read, and of one that could not be.
use Prim.Native.Nat.{ℕ, ◌-◌}
use mathlib.Core.Path.{◌≡◌, sym, ap, ◌∙◌}
use mathlib.Core.List.{List, ◌++◌}
use native.Mathlib.Omega.{arith}
use lib.ListN.{take, drop}
use Rattle.std.specs.Prelude.{Ok, Err}
use Rattle.text.specs.Ascii.{ascii}
use Rattle.input.specs.Printing.{printed_by}
use Rattle.input.specs.Reading.{Input}
use Rattle.input.specs.declared.Failed.{Failed}

module _ (first : List ℕ) (report : List ℕ → List ℕ) (i : Input) (l : List ℕ) where
  pub printed-octets : (n : ℕ) (part : List ℕ) → i ≡ Ok n → part ≡ take (n - 0) (drop 0 l) → report part ≡ printed_by first report i l
  unfolding printed_by
  printed-octets n part e p =
      let z : n - 0 ≡ n = omega arith in
      ap report (p ∙ ap (λ (m : ℕ). take m l) z) ∙ ap (λ (x : Input). printed_by first report x l) (sym e)

  pub printed-failed : {e : Failed} → i ≡ Err e → first ++ ascii "cannot be read\n" ≡ printed_by first report i l
  unfolding printed_by
  printed-failed e = ap (λ (x : Input). printed_by first report x l) (sym e)
