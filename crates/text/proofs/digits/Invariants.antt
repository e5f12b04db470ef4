-- `text::digits` meets its contract: the digits so far and what is left give the number.
use Rattle.std.proofs.Common.{◌≡◌, drop}
use Rattle.text.specs.Digits.{number_from}
use Rattle.text.proofs.digits.Given as goal

abbrev pub invariant-loop-c : goal.invariant-loop-c
invariant-loop-c l =
    number_from l.n (drop l.c-index l.s) ≡ number_from 0 l.s
