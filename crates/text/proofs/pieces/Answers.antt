-- `text::pieces` meets its contract: `split` gives one more than there are separators.
use Rattle.std.proofs.Common.{eqb, rules, tests, arith}
use Rattle.std.proofs.lemmas.Iterator.Consumers.{count_from_yields_List}
use Rattle.std.proofs.lemmas.Iterator.Splits.{YieldsList-from_slice_split}
use Rattle.std.proofs.lemmas.List.Splits.{length-slice_split}
use Rattle.text.proofs.Laws.{count-split}
use Rattle.text.proofs.pieces.Goals as goal

pub returns : goal.returns
returns c =
    let s = c.args.s.now in
    let split = c.split.ensures in
    let count = count_from_yields_List c.split.result c.count.result c.count.ensures.ran (YieldsList-from_slice_split _ (λ x. eqb x c.args.sep) s split.rest split.done split.closure (λ x b q k. search (rules, tests))) in
    omega (arith, count, length-slice_split (λ x. eqb x c.args.sep) s, count-split c.args.sep s)
