-- `Params::read_pairs` meets its contract: each turn reads one pair more.
use mathlib.Core.Path.{◌≡◌, sym, ap, ◌∙◌}
use native.Mathlib.Omega.{arith}
use Rattle.std.proofs.Common.{rules}
use Rattle.space_packet.specs.Answer.{answer_of, refuses, numbers_of, Kept}
use Rattle.params.specs.declared.Params.{Params}
use Rattle.params.proofs.Lists.{good-by}
use Rattle.params.proofs.ReadLaws.{reading-on, request-refused, request-left, request-read}
use Rattle.params.proofs.Params.read_pairs.Goals as goal

pub read_pair-requires : goal.read_pair-requires
read_pair-requires c =
    (good-by _ (sym c.in_ok-check_list.ensures), c.loop-i.invariant.within)

pub returns-in_err-found-clause-passed : goal.returns-in_err-found-clause-passed
returns-in_err-found-clause-passed c =
    let e : answer_of c.from_residual-in_err-found.result ≡ refuses (numbers_of c.in_err-found.field-0.0) = search rules in
    e ∙ sym (request-refused _ _ (sym c.in_ok-check_list.ensures) (omega arith) _ _ _ c.loop-i.invariant c.loop-i-test.true _ c.in_err-found.ensures)

pub loop-i-preserved : goal.loop-i-preserved
loop-i-preserved c =
    reading-on _ _ _ _ _ _ c.loop-i.invariant c.loop-i-test.true (omega (arith, c.type_inv.data 0)) _ _ c.in_ok-found.ensures c.push.ensures

pub returns-then-at-data-clause-passed : goal.returns-then-at-data-clause-passed
returns-then-at-data-clause-passed c =
    sym (request-left _ _ (sym c.in_ok-check_list.ensures) (omega arith) _ _ _ c.loop-i.invariant c.loop-i-test.false c.if-at-data.true)

pub returns : goal.returns
returns c =
    let e = request-read _ _ (sym c.in_ok-check_list.ensures) (omega arith) _ _ _ c.loop-i.invariant c.loop-i-test.false c.if-at-data.false in
    record { passed = sym (ap (λ (k : Kept Params). k.passed) e); kept = sym (ap (λ (k : Kept Params). k.kept) e) }
