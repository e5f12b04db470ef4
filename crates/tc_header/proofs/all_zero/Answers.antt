-- `tc_header::all_zero` meets its contract: what `all` answers of a list is what its definition says.
use Rattle.std.proofs.Common.{ℕ, eqb, ◌∙◌, rules, tests}
use Rattle.std.proofs.lemmas.Iterator.{YieldsList-from_slice}
use Rattle.std.proofs.lemmas.Iterator.Search.{all_from_yields_List}
use Rattle.tc_header.proofs.Spares.{every-zero}
use Rattle.tc_header.proofs.all_zero.Goals as goal

pub returns : goal.returns
returns c =
    let s = c.args.s.now in
    all_from_yields_List (λ (o : ℕ). eqb o 0) _ _ c.all.result c.all.ensures.ran (YieldsList-from_slice s cc) (λ o b q k. search (rules, tests)) ∙ every-zero s
