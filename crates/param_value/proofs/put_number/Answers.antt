-- `param_value::put_number` meets its contract: the last bytes of the machine's eight.
use Prim.Native.Nat.{◌-◌}
use mathlib.Core.Path.{ap, ◌∙◌}
use native.Mathlib.Omega.{arith}
use lib.ListN.{length, drop, length-drop}
use lib.Seq.{take_all}
use Rattle.param_value.proofs.Numbers.{last_octets}
use Rattle.param_value.proofs.put_number.Goals as goal

pub returns : goal.returns
returns c =
    let k = length c.args.part.now in
    let b = c.to_be_bytes-octets.result in
    c.copy_from_slice.ensures.after
    ∙ take_all (8 - (8 - k)) (drop (8 - k) b) (omega (arith, length-drop (8 - k) b, ap length c.to_be_bytes-octets.ensures))
    ∙ ap (drop (8 - k)) c.to_be_bytes-octets.ensures
    ∙ last_octets k c.args.number c.requires
