-- `params::is_good` meets its contract: each two neighbours, and then the last row.
use mathlib.Core.Path.{◌≡◌, sym, ap, ◌∙◌}
use mathlib.Core.Bool.{Bool, ◌&&◌}
use Rattle.std.proofs.Common.{rules, tests}
use Rattle.std.proofs.lemmas.List.Sorted.{answers_always}
use Rattle.params.specs.Parameters.{list_good}
use Rattle.params.proofs.Lists.{stands, last_named, last-by, good-is}
use Rattle.params.proofs.is_good.Goals as goal

pub returns-then-is_sorted_by : goal.returns-then-is_sorted_by
returns-then-is_sorted_by c =
    let l = c.args.list.now in
    let good : list_good l ≡ (c.is_sorted_by.result && last_named l) = good-is _ l (c.is_sorted_by.ensures.cases stands (answers_always _ _ _ (λ f a r g h. search (rules, tests)))) in
    let last : c.is_none_or.result ≡ last_named l = last-by l c.last.result _ _ c.last.ensures.value c.is_none_or.ensures (λ r h. search (rules, tests)) in
    last ∙ sym (good ∙ ap (λ (b : Bool). b && last_named l) c.if-is_sorted_by.true)

pub returns-else-is_sorted_by : goal.returns-else-is_sorted_by
returns-else-is_sorted_by c =
    let l = c.args.list.now in
    let good : list_good l ≡ (c.is_sorted_by.result && last_named l) = good-is _ l (c.is_sorted_by.ensures.cases stands (answers_always _ _ _ (λ f a r g h. search (rules, tests)))) in
    c.if-is_sorted_by.false ∙ sym (good ∙ ap (λ (b : Bool). b && last_named l) c.if-is_sorted_by.false)
