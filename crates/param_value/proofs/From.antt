-- A value by the number of its kind and its bits.
use Prim.Native.Nat.{ℕ, ◌≤◌}
use mathlib.Core.Path.{◌≡◌, refl, ap, ◌∙◌}
use mathlib.Core.Bool.{Bool, true, false, not}
use mathlib.Core.List.{[]}
use lib.Ieee.{binary32, nan_bits}
use Rattle.space_packet.specs.Answer.{refusal, gives, refuses}
use Rattle.space_packet.proofs.Answers.{refuse-yes}
use Rattle.param_value.specs.Values.{octets_for, kind_is, no_value, pattern_of}
use Rattle.param_value.proofs.Types.{pattern-other, pattern-known}

zero-is-no-nan : nan_bits binary32 0 ≡ false
unfolding nan_bits
zero-is-no-nan = refl

-- what stands for no value is refused with 24 by each type
pub none-refused : (ptc pfc : ℕ) → 1 ≤ octets_for ptc pfc → pattern_of ptc pfc no_value ≡ refuses (refusal 24 [])
none-refused ptc pfc h = by_kind (kind_is ptc pfc no_value) refl
  where
    by_kind : (b : Bool) → kind_is ptc pfc no_value ≡ b → pattern_of ptc pfc no_value ≡ refuses (refusal 24 [])
    by_kind true e = pattern-known ptc pfc no_value h e ∙ refuse-yes (not (nan_bits binary32 0)) (refusal 24 []) (gives 0) (ap not zero-is-no-nan)
    by_kind false e = pattern-other ptc pfc no_value h e
