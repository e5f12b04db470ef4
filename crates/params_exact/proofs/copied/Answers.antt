-- `params_exact::copied` meets its contract: the pairs that were read are written as the data stood.
use native.Mathlib.Omega.{arith}
use Rattle.ecss.specs.Frame.{Octets}
use Rattle.params_exact.proofs.Calls.{record-written}
use Rattle.params_exact.proofs.copied.Goals as goal

pub returns : goal.returns
returns c =
    let d = c.args.«data».now in
    let o : Octets d = λ i. omega (arith, c.shared_slice_known-1.given i) in
    (c.read_params-read.ensures, λ t h. record-written c.args.list.now d _ _ _ c.read_params-read.result.params c.read_params-read.result.result o c.read_params-read.ensures t h c.write_to_slice-written.ensures)
