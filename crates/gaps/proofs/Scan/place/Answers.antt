-- `Scan::place` meets its contract: a search by the APID is `place_of`.
use mathlib.Core.Path.{ap, ◌∙◌}
use borrow.Author.Tests.{tests}
use lib.Dec.{eqb, ltb}
use lib.ListN.{length}
use mathlib.Core.Bool.{cond}
use Rattle.std.proofs.Common.{rules}
use Rattle.std.specs.Prelude.{Some, None}
use Rattle.std.proofs.lemmas.Iterator.{YieldsList-from_slice}
use Rattle.std.proofs.lemmas.Iterator.Search.{position_from_yields_List}
use Rattle.gaps.specs.declared.Command.{Command}
use Rattle.gaps.specs.Gaps.{State, place_of}
use Rattle.gaps.proofs.Places.{position-place, found-at}
use Rattle.gaps.proofs.Scan.place.Goals as goal

pub returns : goal.returns
returns c =
    let a = c.args.apid.0 in
    let ls = c.iter.result.rest.now in
    let e = position_from_yields_List (λ (last : Command). eqb last.apid.0 a) _ _ c.position.result c.position.ensures.ran (YieldsList-from_slice ls cc) (λ x b q k. search (rules, tests)) in
    found-at _ a _
    (e ∙ ap (λ n. cond (ltb n (length ls)) (Some n) None) (position-place ls a)
    ∙ ap (λ l. cond (ltb (place_of l a) (length l)) (Some (place_of l a)) None) (c.iter.ensures.rest ∙ ap (λ (s : State). s.lasts) c.self.view_is))
