-- `Params::read_pairs` meets its contract: each turn reads one pair more.
use Rattle.params.proofs.ReadLaws.{Reading}
use Rattle.params.proofs.Params.read_pairs.Given as goal

abbrev pub invariant-loop-i : goal.invariant-loop-i
invariant-loop-i l =
    Reading l.list l.data l.count l._i l.at l.self
