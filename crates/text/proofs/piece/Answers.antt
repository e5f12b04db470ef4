-- `text::piece` meets its contract: the pieces are those of `split`.
use Rattle.std.proofs.Common.{eqb, rules, tests, arith}
use Rattle.std.proofs.lemmas.Grind.{common_steps}
use Rattle.std.proofs.lemmas.Iterator.Consumers.{nth_from_yields_List}
use Rattle.std.proofs.lemmas.Iterator.Splits.{YieldsList-from_slice_split}
use Rattle.text.proofs.Laws.{piece-split}
use Rattle.text.proofs.piece.Goals as goal

pub returns : goal.returns
returns c =
    let split = c.split.ensures in
    let at = nth_from_yields_List c.nth.result _ c.args.k c.nth.ensures.ran (YieldsList-from_slice_split _ (λ x. eqb x c.args.sep) c.args.s.now split.rest split.done split.closure (λ x b q k. search (rules, tests))) in
    let is = piece-split c.args.sep c.args.s.now c.args.k in
    grind (arith, common_steps)
