-- Each answer tells its result (see `Determined` of space_packet).
use Prim.Native.Nat.{ℕ}
use mathlib.Core.Path.{◌≡◌}
use mathlib.Core.List.{List}
use Rattle.std.specs.Prelude.{Result}
use Rattle.space_packet.proofs.Determined.{writes}
use Rattle.space_packet.specs.declared.PusError.{PusError}
use Rattle.tc_write.specs.Creator.{PacketWrote, ContentWrote}
use Rattle.tc_write.specs.declared.PusTcCreator.{PusTcCreator}

pub packet-wrote : (t : PusTcCreator) (d before : List ℕ) (x y : Result ℕ PusError) (l m : List ℕ) → PacketWrote t d before x l → PacketWrote t d before y m → (x ≡ y) × (l ≡ m)
packet-wrote t d before x y l m = writes _ _ _ x y l m

pub content-wrote : (t : PusTcCreator) (d before : List ℕ) (x y : Result ℕ PusError) (l m : List ℕ) → ContentWrote t d before x l → ContentWrote t d before y m → (x ≡ y) × (l ≡ m)
content-wrote t d before x y l m = writes _ _ _ x y l m
