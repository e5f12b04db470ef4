-- `text::decode` meets its contract: each turn lays the octet of one pair.
use Rattle.std.proofs.Common.{arith}
use Rattle.std.proofs.lemmas.Grind.{common_steps}
use Rattle.text.specs.Page.{page, laid}
use Rattle.text.proofs.Laws.{pair_octets-chunks, pair_is, laid_next}
use Rattle.text.proofs.decode.Goals as goal

pub unwrap-requires : goal.unwrap-requires
unwrap-requires c = pair_is c.args.s.now c.as_chunks.result.0.now _ _ c.requires c.as_chunks.ensures.front c.loop-x-test.true c.pair.ensures.value

pub loop-x-preserved : goal.loop-x-preserved
loop-x-preserved c =
    let on = laid_next (page c.loop-x.out c.loop-x.n) c.as_chunks.result.0.now c.loop-x.x-index c.loop-x-test.true in
    grind (arith, common_steps)

pub returns : goal.returns
unfolding laid
returns c = let is = pair_octets-chunks c.args.s.now in grind (arith, common_steps)
