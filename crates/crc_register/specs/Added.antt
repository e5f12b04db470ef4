-- Errors of transmission: what is added, modulo 2, to bits and to octets on their way.
use Rattle.std.specs.Prelude.{Bool, List, [], ◌∷◌, ℕ}
use Rattle.crc_register.specs.Crc.{◌⊕◌, differs}

-- two rows of bits added, place by place: a bit is changed where the other row's is set
unfoldable pub add_bits : List Bool → List Bool → List Bool
add_bits [] ys = []
add_bits (x ∷ xs) [] = []
add_bits (x ∷ xs) (y ∷ ys) = differs x y ∷ add_bits xs ys

-- two rows of octets added, place by place
unfoldable pub add_octets : List ℕ → List ℕ → List ℕ
add_octets [] ys = []
add_octets (x ∷ xs) [] = []
add_octets (x ∷ xs) (y ∷ ys) = (x ⊕ y) ∷ add_octets xs ys
