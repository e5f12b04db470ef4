-- Each answer tells its result (see `Determined` of space_packet).
use Prim.Native.Nat.{ℕ}
use mathlib.Core.Path.{◌≡◌}
use mathlib.Core.List.{List}
use Rattle.std.specs.Prelude.{Result}
use Rattle.space_packet.proofs.Determined.{writes}
use Rattle.space_packet.specs.declared.PusError.{PusError}
use Rattle.tm_write.specs.Creator.{PacketWrote, ContentWrote}
use Rattle.tm_write.specs.declared.PusTmCreator.{PusTmCreator}

pub packet-wrote : (c : PusTmCreator) (t d before : List ℕ) (x y : Result ℕ PusError) (l m : List ℕ) → PacketWrote c t d before x l → PacketWrote c t d before y m → (x ≡ y) × (l ≡ m)
packet-wrote c t d before x y l m = writes _ _ _ x y l m

pub content-wrote : (c : PusTmCreator) (t d before : List ℕ) (x y : Result ℕ PusError) (l m : List ℕ) → ContentWrote c t d before x l → ContentWrote c t d before y m → (x ≡ y) × (l ≡ m)
content-wrote c t d before x y l m = writes _ _ _ x y l m
