-- `Params::put_pairs` meets its contract: each turn writes one pair more.
use Rattle.params.proofs.WriteLaws.{Putting}
use Rattle.params.proofs.Params.put_pairs.Given as goal

abbrev pub invariant-loop-pair : goal.invariant-loop-pair
invariant-loop-pair l =
    Putting l.list l.pair-items l.initial.buf l.pair-index l.at l.buf
