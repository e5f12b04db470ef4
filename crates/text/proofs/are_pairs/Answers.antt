-- `text::are_pairs` meets its contract: all its octets stand in pairs, and all of these are of digits.
use Rattle.std.proofs.Common.{rules, tests, arith}
use Rattle.std.proofs.lemmas.Grind.{common_steps}
use Rattle.std.proofs.lemmas.Iterator.{YieldsList-from_slice}
use Rattle.std.proofs.lemmas.Iterator.Search.{all_from_yields_List}
use Rattle.text.proofs.Laws.{is_pair, are_pairs-chunks, some_pair}
use Rattle.text.proofs.are_pairs.Goals as goal

pub returns-then-is_empty : goal.returns-then-is_empty
returns-then-is_empty c =
    let s = c.args.s.now in
    let all = all_from_yields_List is_pair _ _ c.all.result c.all.ensures.ran (YieldsList-from_slice c.as_chunks.result.0.now cc) (λ x b q k. search (rules, tests, some_pair)) in
    let is = are_pairs-chunks s in
    grind (arith, common_steps)

pub returns-else-is_empty : goal.returns-else-is_empty
returns-else-is_empty c =
    let is = are_pairs-chunks c.args.s.now in
    grind (arith, common_steps)
