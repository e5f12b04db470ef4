-- `text::put_text` meets its contract: what is left from here on, laid behind what is laid, gives the whole.
use Rattle.std.proofs.Common.{◌≡◌, drop}
use Rattle.text.specs.Page.{page, laid}
use Rattle.text.proofs.put_text.Given as goal

abbrev pub invariant-loop-b : goal.invariant-loop-b
invariant-loop-b l =
    laid (page l.out l.at) (drop l.b-index l.s) ≡ laid (page l.initial.out l.initial.at) l.s
