-- `text::put_number` meets its contract: the digits that io::decimal gives.
use mathlib.Core.Path.{ap, ◌∙◌}
use native.Mathlib.Omega.{arith}
use Rattle.text.specs.Page.{laid}
use Rattle.text.proofs.Decimals.{digits_decimal}
use Rattle.text.proofs.put_number.Goals as goal

pub returns : goal.returns
returns c =
    let d = c.decimal-k in
    let n = c.ranges.n in
    c.put_text.ensures ∙ ap (laid _) (d.ensures.digits ∙ digits_decimal _ _ (omega (arith, n)) d.ensures.len)
