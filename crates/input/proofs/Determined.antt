-- What a report leaves in a buffer and its length are told by the contract (see `Determined` of text).
use Prim.Native.Nat.{ℕ}
use mathlib.Core.Path.{◌≡◌, sym, ◌∙◌}
use mathlib.Core.List.{List}
use Rattle.text.proofs.Determined.{same-page}
use Rattle.input.specs.Printing.{Rendered}

pub rendered : (room : ℕ) (t before : List ℕ) (x y : ℕ) (l m : List ℕ) → Rendered room t before x l → Rendered room t before y m → (x ≡ y) × (l ≡ m)
rendered room t before x y l m p q = same-page x y l m (p.shown ∙ sym q.shown)
