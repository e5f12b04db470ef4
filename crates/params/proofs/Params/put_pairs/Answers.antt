-- `Params::put_pairs` meets its contract: each turn writes one pair more.
use Prim.Native.Nat.{◌+◌}
use mathlib.Core.Path.{sym, ap, ◌∙◌, subst}
use mathlib.Core.List.{List, ◌++◌}
use lib.ListN.{take, drop, length}
use Rattle.param_value.specs.Octets.{given_by}
use Rattle.params.specs.Request.{pairs_octets}
use Rattle.params.specs.Places.{HasRoom}
use Rattle.params.specs.declared.Pair.{Pair}
use Rattle.params.proofs.WriteLaws.{pair-at, no_more, putting-begins, putting-room, putting-on, putting-done}
use Rattle.params.proofs.Params.put_pairs.Goals as goal

pub loop-pair-init : goal.loop-pair-init
loop-pair-init c =
    let a = c.args in
    putting-begins _ _ _ (subst (λ (x : List Pair). HasRoom (pairs_octets a.list.now x) 1 (length a.buf.now)) (sym c.kept-pair-items.ensures.value) c.requires)

pub put_pair-at-requires : goal.put_pair-at-requires
put_pair-at-requires c =
    putting-room _ _ _ _ _ _ c.loop-pair.invariant _ _ (pair-at _ _ _ c.loop-pair-test.true)

pub loop-pair-preserved : goal.loop-pair-preserved
loop-pair-preserved c =
    putting-on _ _ _ _ _ _ c.loop-pair.invariant _ _ _ (pair-at _ _ _ c.loop-pair-test.true) c.put_pair-at.ensures.0 c.put_pair-at.ensures.1

pub returns : goal.returns
returns c =
    let a = c.args in
    let b = a.buf.now in
    putting-done _ _ _ _ _ _ c.loop-pair.invariant (no_more _ _ c.loop-pair-test.false)
    ∙ ap (λ (x : List Pair). take 1 b ++ given_by (pairs_octets a.list.now x) ++ drop (1 + length (given_by (pairs_octets a.list.now x))) b) c.kept-pair-items.ensures.value
