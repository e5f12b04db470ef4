-- `params::find_row` meets its contract: the first row of the ID.
use mathlib.Core.Path.{◌∙◌}
use lib.Dec.{eqb}
use Rattle.std.proofs.Common.{rules, tests}
use Rattle.std.proofs.lemmas.Iterator.{YieldsList-from_slice}
use Rattle.std.proofs.lemmas.Iterator.Search.{find_from_yields_List}
use Rattle.params.specs.Parameters.{id_of}
use Rattle.params.proofs.Lists.{find-row}
use Rattle.params.proofs.find_row.Goals as goal

pub returns : goal.returns
returns c =
    let l = c.args.list.now in
    c.copied.ensures
    ∙ find_from_yields_List (λ r. eqb (id_of r) c.args.id) _ _ _ c.find.ensures.ran (YieldsList-from_slice l cc) (λ x b q k. search (rules, tests))
    ∙ find-row l c.args.id
