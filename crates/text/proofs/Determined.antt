-- What a call leaves in a buffer and its answer, stated as one, tell both: so a contract that states them of a definition leaves
-- one result. `tools/calls` holds every public contract to such a statement, and finds the theorem here by its type.
use Prim.Native.Nat.{ℕ}
use mathlib.Core.Path.{◌≡◌, ap}
use mathlib.Core.List.{List}
use Rattle.std.specs.Prelude.{Option}
use Rattle.text.specs.Page.{Page, page, OctetsRead, read}

pub same-page : (x y : ℕ) (l m : List ℕ) → page l x ≡ page m y → (x ≡ y) × (l ≡ m)
same-page x y l m e = (ap (λ (p : Page). p.place) e, ap (λ (p : Page). p.octets) e)

pub same_read : (x y : Option ℕ) (l m : List ℕ) → read x l ≡ read y m → (x ≡ y) × (l ≡ m)
same_read x y l m e = (ap (λ (o : OctetsRead). o.value) e, ap (λ (o : OctetsRead). o.left) e)
