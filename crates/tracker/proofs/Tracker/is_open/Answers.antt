-- `Tracker::is_open` meets its contract: an entry with the request is one among the requests.
use mathlib.Core.Path.{ap, ◌∙◌}
use borrow.Author.Tests.{tests}
use lib.Dec.{eqb}
use Rattle.std.proofs.Common.{rules}
use Rattle.std.proofs.lemmas.Iterator.{YieldsList-from_slice}
use Rattle.std.proofs.lemmas.Iterator.Search.{any_from_yields_List}
use Rattle.tracker.specs.declared.Entry.{Entry}
use Rattle.tracker.specs.Refusals.{among}
use Rattle.tracker.specs.Open.{ids_of}
use Rattle.tracker.proofs.Entries.{any-among}
use Rattle.tracker.proofs.Tracker.is_open.Goals as goal

pub returns : goal.returns
returns c =
    let id = c.args.id in
    any_from_yields_List (λ (e : Entry). eqb e.id id) _ _ c.any.result c.any.ensures.ran (YieldsList-from_slice c.open.result.now cc) (λ x b q k. search (rules, tests))
    ∙ any-among id _ ∙ ap (λ l. among id (ids_of l)) c.open.ensures
