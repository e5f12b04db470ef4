-- `Params::pairs_len` meets its contract: the octets so far, and those of the pairs from the next on.
use mathlib.Core.Path.{◌≡◌, sym, ap, ◌∙◌}
use native.Mathlib.Omega.{arith}
use Rattle.std.proofs.Common.{rules}
use Rattle.space_packet.specs.Answer.{answer_of, refuses, numbers_of}
use Rattle.params.specs.Request.{ids_known, pairs_octets, length_of}
use Rattle.params.proofs.WriteLaws.{pair-at, no_more, ids-next, adds_none, adds-refused, length-on, length-not, length-end, pair-ten}
use Rattle.params.proofs.Params.pairs_len.Goals as goal

pub loop-pair-init : goal.loop-pair-init
loop-pair-init c = record {
  few = omega arith;
  known = ap (ids_known c.args.list.now) c.kept-pair-items.ensures.value ∙ c.requires;
  rest = adds_none _;
}

pub pair_len-requires : goal.pair_len-requires
pair_len-requires c =
    (ids-next _ _ _ _ (pair-at _ _ _ c.loop-pair-test.true) c.loop-pair.invariant.known).0

pub returns-in_err-total-clause-value : goal.returns-in_err-total-clause-value
returns-in_err-total-clause-value c =
    let l = c.args.list.now in
    let e : answer_of c.from_residual.result ≡ refuses (numbers_of c.in_err-total.field-0.0) = search rules in
    e ∙ sym (adds-refused c.loop-pair.total _ _ (length-not l _ _ _ _ (pair-at _ _ _ c.loop-pair-test.true) (sym c.in_err-total.ensures)))
    ∙ c.loop-pair.invariant.rest ∙ ap (λ x. length_of (pairs_octets l x)) c.kept-pair-items.ensures.value

pub overflow_add-total : goal.overflow_add-total
overflow_add-total c =
    omega (arith, pair-ten _ _ c.in_ok-total.field-0 (sym c.in_ok-total.ensures), c.loop-pair.invariant.few, c.kept-pair-items.ensures.bound, c.loop-pair-test.true)

pub loop-pair-preserved : goal.loop-pair-preserved
loop-pair-preserved c =
    let h = pair-at c.kept-pair-items.result.now c.loop-pair.pair-index _ c.loop-pair-test.true in
    let r = sym c.in_ok-total.ensures in
    let t = pair-ten _ _ c.in_ok-total.field-0 r in
    record {
      few = omega (arith, t, c.loop-pair.invariant.few);
      known = (ids-next _ _ _ _ h c.loop-pair.invariant.known).1;
      rest = length-on c.args.list.now _ _ _ c.loop-pair.total _ h r ∙ c.loop-pair.invariant.rest;
    }

pub returns-clause-value : goal.returns-clause-value
returns-clause-value c =
    let l = c.args.list.now in
    sym (length-end l _ c.loop-pair.total (no_more _ _ c.loop-pair-test.false)) ∙ c.loop-pair.invariant.rest
    ∙ ap (λ x. length_of (pairs_octets l x)) c.kept-pair-items.ensures.value
