-- Each answer tells its result, and the contract of the walk what it leaves in the list too (see `Determined` of space_packet).
use Prim.Native.Nat.{ℕ}
use mathlib.Core.Path.{◌≡◌, sym, ◌∙◌}
use mathlib.Core.List.{List}
use Rattle.space_packet.proofs.Determined.{answer-inj}
use Rattle.gaps.specs.Gaps.{Rows, Listed}
use Rattle.gaps.specs.declared.Listing.{Listing}

pub listing-told : (capture : List ℕ) (before : Rows) (x y : Listing) (l m : Rows) → Listed capture before x l → Listed capture before y m → (x ≡ y) × (l ≡ m)
listing-told capture before x y l m p q =
    let r = answer-inj x.result y.result (p.answered ∙ sym q.answered) in
    let n = p.counted ∙ sym q.counted in (λ i. record { listed = n i; result = r i }, p.left ∙ sym q.left)
