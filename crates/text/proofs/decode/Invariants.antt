-- `text::decode` meets its contract: what the pairs from here on write, laid behind what is laid, gives the whole.
use Rattle.std.proofs.Common.{◌≡◌, map, drop}
use Rattle.text.specs.Page.{page, laid}
use Rattle.text.proofs.Laws.{value}
use Rattle.text.proofs.decode.Given as goal

abbrev pub invariant-loop-x : goal.invariant-loop-x
invariant-loop-x l =
    laid (page l.out l.n) (map value (drop l.x-index l.pairs)) ≡ laid (page l.initial.out 0) (map value l.pairs)
