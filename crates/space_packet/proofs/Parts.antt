-- Where parts lie: what `beyond` and `reached` come to.
use Prim.Native.Nat.{ℕ, ◌+◌, ◌≤◌, ◌<◌}
use mathlib.Core.Path.{◌≡◌, sym, ap, ◌∙◌}
use mathlib.Core.Bool.{Bool}
use mathlib.Core.List.{List}
use native.Mathlib.Omega.{arith}
use lib.ListN.{length}
use borrow.Author.Tests.{lt-ltb, le-ltb}
use Rattle.space_packet.specs.Bits.{pick}
use Rattle.space_packet.specs.Part.{Address, beyond, reached}

-- no octets on, and twice some octets on
pub beyond-none : (a : Address) → a ≡ beyond 0 a
beyond-none a = let e : a.1 ≡ 0 + a.1 = omega arith in ap (λ (k : ℕ). (a.0, k)) e

pub beyond-twice : (m n : ℕ) (a : Address) → beyond n (beyond m a) ≡ beyond (m + n) a
beyond-twice m n a = let e : n + (m + a.1) ≡ m + n + a.1 = omega arith in ap (λ (k : ℕ). (a.0, k)) e

module _ (at : ℕ) (s : List ℕ) (a : Address) where
  -- the empty part of octets that are fewer
  pub reached-none : length s < at → a ≡ beyond (reached at s) a
  reached-none h = beyond-none a ∙ ap (λ (b : Bool). beyond (pick b 0 at) a) (sym (lt-ltb (length s) at h))

  -- and the part of octets that are not
  pub reached-all : at ≤ length s → beyond at a ≡ beyond (reached at s) a
  reached-all h = ap (λ (b : Bool). beyond (pick b 0 at) a) (sym (le-ltb (length s) at h))
