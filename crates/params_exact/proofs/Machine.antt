-- What a machine's record of pairs holds: each of its values is one of the machine's, and it has 255 places.
use Prim.Native.Nat.{ℕ, zero, suc}
use mathlib.Core.Path.{◌≡◌, sym, subst}
use mathlib.Core.List.{List, [], ◌∷◌}
use lib.Dec.{T}
use lib.ListN.{length, take}
use mir.Val.{Val}
use denote.Shadow.{shadow}
use denote.Laws.{Is}
use denote.Array.{each}
use denote.Struct.Declared.{row}
use Rattle.param_value.specs.Values.{Held}
use Rattle.param_value.specs.declared.Value.{Value}
use Rattle.param_value.specs.declared.Value.TheVariants.{Unsigned, Signed, Single, SingleNan, Double, DoubleNan}
use Rattle.param_value.specs.contracts.Value as V'
use Rattle.params.specs.Request.{pairs_of}
use Rattle.params.specs.declared.Pair.{Pair}
use Rattle.params.specs.declared.Params.{Params}
use Rattle.params.specs.contracts.Pair as P'
use Rattle.params.specs.contracts.Params as R'
use Rattle.params_exact.specs.Requests.{HeldAll}

value-held : (v : Value) (vs : List Val) → shadow ((V'.the_field).row.own_val ((V'.the_field).into v) vs) → Held v
value-held (Unsigned n) vs s = tt
value-held (Signed z) vs s = tt
value-held (Single x) vs s = subst T (sym s.1.1.1.1.0.1) tt
value-held (SingleNan b) vs s = s.1.1.1.1.0.1
value-held (Double x) vs s = subst T (sym s.1.1.1.1.0.1) tt
value-held (DoubleNan b) vs s = s.1.1.1.1.0.1

pairs-held-by : (ps : List Pair) (us : List Val) → shadow (each (P'.the_row).Denot (P'.the_row).own_val ps us) → HeldAll ps
pairs-held-by [] us s = tt
pairs-held-by (p ∷ ps) [] s = absurd s
pairs-held-by (p ∷ ps) (u ∷ us) s = (value-held p.value _ s.0.1.1.1.0, pairs-held-by ps us s.1)

first-held : (n : ℕ) (ps : List Pair) → HeldAll ps → HeldAll (take n ps)
first-held zero ps h = tt
first-held (suc n) [] h = tt
first-held (suc n) (p ∷ ps) h = (h.0, first-held n ps h.1)

module _ (p : Params) (vs : List Val) (good : Is (row R'.the_type) p vs) where
  pub values-held : HeldAll (pairs_of p)
  values-held = first-held p.count p.pairs (pairs-held-by p.pairs _ good.1.1.0.1.1)

  pub places : length p.pairs ≡ 255
  places = good.1.1.0.1.0.1
