-- `param_value::is_nan32` meets its contract: without its sign, a NaN's pattern is above the infinity's.
use mathlib.Core.Path.{sym, ap, ◌∙◌}
use lib.Dec.{ltb}
use lib.Ieee.{binary32}
use lib.Ieee.Bits.{nan_bits_above}
use Rattle.std.proofs.lemmas.Nat.{and_mask}
use Rattle.param_value.proofs.is_nan32.Goals as goal

pub returns : goal.returns
returns c =
    ap (ltb 0x7F80_0000) (and_mask c.args.bits 31) ∙ sym (nan_bits_above binary32 c.args.bits)
