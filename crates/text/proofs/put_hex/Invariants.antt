-- `text::put_hex` meets its contract: what is left from here on, laid behind what is laid, gives the whole.
use Rattle.std.proofs.Common.{◌≡◌, drop}
use Rattle.text.specs.Digits.{hex_text}
use Rattle.text.specs.Page.{page, laid}
use Rattle.text.proofs.put_hex.Given as goal

abbrev pub invariant-loop-b : goal.invariant-loop-b
invariant-loop-b l =
    laid (page l.out l.at) (hex_text (drop l.b-index l.s)) ≡ laid (page l.initial.out l.initial.at) (hex_text l.s)
