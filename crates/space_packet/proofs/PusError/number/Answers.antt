-- `PusError::number` meets its contract: it is the first of the refusal's numbers.
use mathlib.Core.Path.{ap}
use Rattle.space_packet.specs.declared.RefusalNumbers.{RefusalNumbers}
use Rattle.space_packet.proofs.PusError.number.Goals as goal

pub returns : goal.returns
returns c =
    ap (λ (n : RefusalNumbers). n.number) c.numbers-n.ensures
