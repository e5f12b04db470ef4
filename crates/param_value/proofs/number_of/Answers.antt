-- `param_value::number_of` meets its contract: each octet is shifted in behind those before it.
use mathlib.Core.Path.{◌≡◌, ◌∙◌}
use lib.Dec.{lit<}
use native.Mathlib.Omega.{arith}
use Rattle.std.specs.List.{fold}
use Rattle.std.proofs.Common.{rules}
use Rattle.param_value.specs.Octets.{Octets}
use Rattle.param_value.proofs.Calls.{number_lt}
use Rattle.param_value.proofs.Numbers.{behind, fold_behind}
use Rattle.param_value.proofs.number_of.Goals as goal

pub returns : goal.returns
returns c =
    let s = c.args.s.now in
    let o : Octets s = λ i. (c.type_inv.s i).fits in
    let e : c.fold.result ≡ fold behind 0 s = search rules in
    let v = e ∙ fold_behind s 0 0 (omega arith) o (lit< tt) in
    record { value = v; bound = rw v (number_lt s o) }
