-- `text::seek` meets its contract: the place that `position` finds in what is left is the gap.
use Rattle.std.proofs.Common.{◌≡◌, eqb, rules, tests, arith}
use Rattle.std.specs.List.{position}
use Rattle.std.proofs.lemmas.Iterator.{YieldsList-from_slice}
use Rattle.std.proofs.lemmas.Iterator.Search.{position_from_yields_List}
use Rattle.text.proofs.Laws.{gap-position}
use Rattle.text.proofs.seek.Goals as goal

pub returns : goal.returns
returns c =
    let rest = c.tail-rest.result.now in
    let found : c.position.result ≡ position (λ x. eqb x c.args.b) rest =
    position_from_yields_List (λ x. eqb x c.args.b) _ _ _ c.position.ensures.ran (YieldsList-from_slice rest cc) (λ x b q k. search (rules, tests)) in
    let gap = gap-position c.args.b rest in
    grind (arith, gap, found)
