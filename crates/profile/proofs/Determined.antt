-- What a write answers, and what it leaves, follow from its contract (see `Determined` of space_packet).
use Prim.Native.Nat.{ℕ}
use mathlib.Core.Path.{◌≡◌}
use mathlib.Core.List.{List}
use Rattle.std.specs.Prelude.{Result}
use Rattle.space_packet.specs.declared.PusError.{PusError}
use Rattle.space_packet.proofs.Determined.{writes}
use Rattle.profile.specs.Builder.{CommandWrote}
use Rattle.profile.specs.declared.ProfileTc.{ProfileTc}

pub command-wrote : (t : ProfileTc) (d before : List ℕ) (x y : Result ℕ PusError) (l m : List ℕ) → CommandWrote t d before x l → CommandWrote t d before y m → (x ≡ y) × (l ≡ m)
command-wrote t d before x y l m = writes _ _ _ x y l m
