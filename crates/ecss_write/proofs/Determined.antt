-- Each answer tells its result (see `Determined` of space_packet).
use mathlib.Core.Path.{◌≡◌, ap}
use Rattle.space_packet.proofs.Determined.{answer-inj}
use Rattle.ecss_write.specs.Write.{Asked, asks_answer}
use Rattle.ecss_write.specs.declared.packet.Asks.{Asks}

pub asks-inj : (x y : Asks) → asks_answer x ≡ asks_answer y → x ≡ y
asks-inj x y p =
    let e : x.first ≡ y.first = answer-inj _ _ (ap (λ (a : Asked). a.first) p) in
    let f : x.fields ≡ y.fields = answer-inj _ _ (ap (λ (a : Asked). a.fields) p) in
    let v : x.version ≡ y.version = answer-inj _ _ (ap (λ (a : Asked). a.version) p) in
    λ i. record { first = e i; fields = f i; version = v i }
