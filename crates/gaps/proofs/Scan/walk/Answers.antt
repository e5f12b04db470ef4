-- `Scan::walk` meets its contract: each turn takes the piece at the cursor, and lists its gap.
use mathlib.Core.Path.{sym, ap, subst, ◌∙◌}
use native.Mathlib.Omega.{arith}
use Rattle.std.specs.Prelude.{Ok}
use Rattle.std.proofs.lemmas.Result.{err_from_is_err_and}
use Rattle.tc_strict.specs.Split.{step_answer}
use Rattle.tc_strict.specs.declared.split.Cursor.{Cursor}
use Rattle.gaps.specs.Gaps.{State, Listed}
use Rattle.gaps.proofs.Turns.{begins, fits, goes, stops, ends}
use Rattle.gaps.proofs.Scan.walk.Goals as goal

pub loop-next-init : goal.loop-next-init
loop-next-init c = begins _ _ _ _ c.requires (ap (λ (x : Cursor). x.at) c.new-cursor.ensures)

pub take-requires : goal.take-requires
take-requires c =
    let f = fits c.loop-next.invariant (step_answer c.step.result) c.step.ensures in omega (arith, f)

pub returns-in_err-next : goal.returns-in_err-next
returns-in_err-next c =
    let p = err_from_is_err_and c.from_residual.result c.from_residual.ensures.1 in
    rw (p.1, p.2) (stops c.loop-next.invariant (step_answer c.step.result) c.step.ensures c.in_err-next.field-0.0 _ _ c.in_err-next.ensures.moved)

pub loop-next-smaller : goal.loop-next-smaller
loop-next-smaller c =
    let n = sym c.in-Some.is ∙ c.in_ok-next.ensures.next in
    let g = goes c.loop-next.invariant (step_answer c.step.result) c.step.ensures c.take.new.self c.take.new.list c.in-Some.next n c.in_ok-next.ensures.moved in
    omega (arith, g.1)

pub loop-next-preserved : goal.loop-next-preserved
loop-next-preserved c =
    let n = sym c.in-Some.is ∙ c.in_ok-next.ensures.next in
    (goes c.loop-next.invariant (step_answer c.step.result) c.step.ensures c.take.new.self c.take.new.list c.in-Some.next n c.in_ok-next.ensures.moved).0

pub returns : goal.returns
returns c =
    let n = sym c.in_default.is ∙ c.in_ok-next.ensures.next in
    let z = ends c.loop-next.invariant (step_answer c.step.result) c.step.ensures c.take.new.self c.take.new.list n c.in_ok-next.ensures.moved in
    subst (λ (s : State). Listed c.args.capture.now c.args.list.now (record { listed = c.take.new.self.listed; result = Ok s.totals }) c.take.new.list) (sym c.self.view_is) z
