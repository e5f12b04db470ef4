-- What pairs of bits rest on: the order of the checksum's generator G(x) = x^16 + x^12 + x^5 + 1, that is the
-- least n above 0 for which G(x) divides x^n + 1. Two bits n places apart are an error x^i (x^n + 1), and G(x) divides no x^i.
use Rattle.std.specs.Prelude.{Bool, true, false, List, [], ◌∷◌, ◌++◌, ℕ, zero, suc, ◌<◌, replicate}
use Rattle.crc_register.specs.Division.{Remainder}

-- x^n + 1: its coefficients, the highest first, of which there are none with n = 0, since 1 + 1 is 0
abbrev pub power_and_one : ℕ → List Bool
power_and_one zero = []
power_and_one (suc n) = true ∷ (replicate n false ++ (true ∷ []))

-- G(x) divides p(x): the remainder is 0
abbrev pub Divides : List Bool → Type 0
Divides p = Remainder p 0

pub record Order (n : ℕ) : Type 0 where
  pub above : 0 < n
  pub divides : Divides (power_and_one n)
  pub least : (k : ℕ) → 0 < k → k < n → Divides (power_and_one k) → ⊥
