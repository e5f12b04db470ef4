-- `param_value::largest` meets its contract: the bits that are shifted out and those of the octets are 64.
use native.Mathlib.Omega.{arith}
use Rattle.param_value.proofs.Powers.{largest_by}
use Rattle.std.proofs.lemmas.Bool.Decides.{nat_tests}
use Rattle.param_value.proofs.largest.Goals as goal

pub returns : goal.returns
returns c =
    largest_by c.args.octets _ (grind (arith, nat_tests))
