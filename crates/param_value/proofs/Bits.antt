-- The octets of a number have its bits, the most significant first.
use Prim.Native.Nat.{ℕ, zero, suc, ◌+◌, ◌*◌, ◌/◌, ◌%◌, ◌<◌}
use mathlib.Core.Path.{◌≡◌, sym, ap, ap₂, ◌∙◌}
use mathlib.Core.Bool.{Bool}
use mathlib.Core.List.{List, [], ◌∷◌, ◌++◌, append-nil, append_assoc}
use native.Mathlib.Omega.{arith}
use Rattle.space_packet.specs.Bits.{bits, row}
use Rattle.space_packet.proofs.Rows.{bits-split}
use Rattle.param_value.specs.Octets.{octets_of}

row_snoc : (l : List ℕ) (o : ℕ) → row (l ++ (o ∷ [])) ≡ row l ++ bits 8 o
unfolding row
row_snoc [] o = append-nil (bits 8 o)
row_snoc (x ∷ l) o = ap (λ (r : List Bool). bits 8 x ++ r) (row_snoc l o) ∙ sym (append_assoc (bits 8 x) (row l) (bits 8 o))

pub octets-bits : (k v : ℕ) → row (octets_of k v) ≡ bits (k * 8) v
unfolding octets_of row bits
octets-bits zero v = ap (λ (n : ℕ). bits n v) (let z : 0 ≡ 0 * 8 = omega arith in z)
octets-bits (suc k) v =
    let d : v / 256 * 256 + v % 256 ≡ v = omega arith in
    let h : v % 256 < 256 = omega arith in
    let e : k * 8 + 8 ≡ suc k * 8 = omega arith in
    row_snoc (octets_of k (v / 256)) (v % 256)
    ∙ ap (λ (r : List Bool). r ++ bits 8 (v % 256)) (octets-bits k (v / 256))
    ∙ sym (bits-split (k * 8) 8 (v / 256) (v % 256) h)
    ∙ ap₂ bits e d
