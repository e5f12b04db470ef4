-- `tm_demand3::changed` meets its contract: both verdicts are the strict one, of which theorems 5 and 9 speak.
use Rattle.exactness.proofs.Demand3.{both-answered-each}
use Rattle.tm_demand3.proofs.Demand3.{changed-refused, up-to-three-refused}
use Rattle.tm_demand3.proofs.changed.Goals as goal

pub returns : goal.returns
returns c =
    λ good. both-answered-each _ _ c.judge.ensures c.judge-2.ensures (changed-refused _ good _ _) (up-to-three-refused _ good _ _)
