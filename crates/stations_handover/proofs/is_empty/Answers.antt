-- `stations_handover::is_empty` meets its contract: it is the part that is empty exactly where neither capture passes.
use mathlib.Core.Path.{sym, ap, ◌∙◌}
use lib.ListN.{length}
use borrow.Author.Tests.{eqb-true, eq-eqb}
use Rattle.stations_handover.proofs.Parts.{none-of-length, part-empty}
use Rattle.stations_handover.proofs.is_empty.Goals as goal

pub returns : goal.returns
returns c =
    let e = c.best.ensures.result_value in
    let z = c.is_empty.ensures in
    let q = part-empty _ _ _ in
    (λ y. q.0 (sym e ∙ none-of-length _ (eqb-true _ 0 (sym z ∙ y))), λ n. z ∙ eq-eqb _ 0 (ap length (e ∙ q.1 n)))
