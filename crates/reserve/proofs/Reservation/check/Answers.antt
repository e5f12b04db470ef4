-- `Reservation::check` meets its contract: the total is held to the start in two tests, so that no sum can wrap.
use Prim.Native.Nat.{◌+◌, ◌<◌, ◌≤◌}
use mathlib.Core.Path.{sym, ap, ◌∙◌}
use mathlib.Core.Bool.{not}
use native.Mathlib.Omega.{arith}
use borrow.Author.Tests.{lt-ltb, le-ltb, eq-eqb, ne_eqb}
use Rattle.space_packet.proofs.Answers.{refuse-yes, refuse-no}
use Rattle.ecss.specs.Frame.{trailer}
use Rattle.reserve.specs.Reserve.{holds}
use Rattle.reserve.proofs.Reservation.check.Goals as goal

pub returns-then-self-start : goal.returns-then-self-start
unfolding holds
returns-then-self-start c =
    sym (refuse-yes _ _ _ (ap not (ne_eqb _ _ c.if-self-start.true)))

pub returns-then-self-start-2 : goal.returns-then-self-start-2
unfolding holds
returns-then-self-start-2 c =
    let a = c.args in
    let h : a.self.total < a.start + trailer a.self.has_checksum = omega arith in
    sym (refuse-no _ _ _ (ap not (eq-eqb _ _ c.if-self-start.false)) ∙ refuse-yes _ _ _ (lt-ltb _ _ h))

pub returns-then-self-start-3 : goal.returns-then-self-start-3
unfolding holds
returns-then-self-start-3 c =
    let a = c.args in
    let h : a.self.total < a.start + trailer a.self.has_checksum = omega arith in
    sym (refuse-no _ _ _ (ap not (eq-eqb _ _ c.if-self-start.false)) ∙ refuse-yes _ _ _ (lt-ltb _ _ h))

pub returns-then-self-gt-MAX_TOTAL : goal.returns-then-self-gt-MAX_TOTAL
unfolding holds
returns-then-self-gt-MAX_TOTAL c =
    let a = c.args in
    let h : a.start + trailer a.self.has_checksum ≤ a.self.total = omega arith in
    sym (refuse-no _ _ _ (ap not (eq-eqb _ _ c.if-self-start.false)) ∙ refuse-no _ _ _ (le-ltb _ _ h) ∙ refuse-yes _ _ _ (lt-ltb _ _ c.if-self-gt-MAX_TOTAL.true))

pub returns : goal.returns
unfolding holds
returns c =
    let a = c.args in
    let h : a.start + trailer a.self.has_checksum ≤ a.self.total = omega arith in
    sym (refuse-no _ _ _ (ap not (eq-eqb _ _ c.if-self-start.false)) ∙ refuse-no _ _ _ (le-ltb _ _ h) ∙ refuse-no _ _ _ (le-ltb _ _ c.if-self-gt-MAX_TOTAL.false))
