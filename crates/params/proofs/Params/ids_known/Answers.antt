-- `Params::ids_known` meets its contract: the list has a row of each ID.
use mathlib.Core.Path.{ap, ◌∙◌}
use Rattle.std.proofs.Common.{rules, tests}
use Rattle.std.specs.Prelude.{is_some}
use Rattle.std.proofs.lemmas.Iterator.{YieldsList-from_slice}
use Rattle.std.proofs.lemmas.Iterator.Search.{all_from_yields_List}
use Rattle.params.specs.Parameters.{row_in}
use Rattle.params.specs.Request.{ids_known}
use Rattle.params.specs.declared.Pair.{Pair}
use Rattle.params.proofs.WriteLaws.{ids-all}
use Rattle.params.proofs.Params.ids_known.Goals as goal

pub returns : goal.returns
returns c =
    let l = c.args.list.now in
    all_from_yields_List (λ (p : Pair). is_some (row_in l p.id)) _ _ _ c.all.ensures.ran (YieldsList-from_slice c.kept.result.now cc) (λ x b q k. search (rules, tests))
    ∙ ids-all l c.kept.result.now ∙ ap (ids_known l) c.kept.ensures.value
