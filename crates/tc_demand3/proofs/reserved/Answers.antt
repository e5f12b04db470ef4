-- `tc_demand3::reserved` meets its contract: what may be handed in is reserved, and theorem 4 accepts what the three calls leave.
-- what the three calls leave, one after the other
use Prim.Native.Nat.{ℕ}
use mathlib.Core.Path.{◌≡◌, subst, ◌∙◌}
use mathlib.Core.Bool.{true}
use mathlib.Core.List.{List}
use native.Mathlib.Omega.{arith}
use lib.ListN.{length}
use Rattle.std.specs.Prelude.{Result}
use Rattle.space_packet.specs.Answer.{gives}
use Rattle.space_packet.specs.declared.PusError.{PusError}
use Rattle.space_packet.specs.Wrote.{Wrote}
use Rattle.space_packet.proofs.Answers.{gives-inj, never}
use Rattle.ecss_write.specs.Writer.{packet_by, Handed}
use Rattle.reserve.specs.Reserve.{fill_in, filled_by, finish_in, finished}
use Rattle.exactness.specs.Demand3.{Room, made_of, FinishedBy}
use Rattle.tc_header.specs.Form.{form_check}
use Rattle.tc_header.specs.Header.{tc}
use Rattle.tc_header.specs.declared.TcForm.{TcForm}
use Rattle.tc_write.specs.Command.{command_in}
use Rattle.tc_reserved.specs.Reserved.{reserve_in, reserved_left_in}
use Rattle.tc_reserved.specs.declared.PusTcCreatorWithReservedAppData.{PusTcCreatorWithReservedAppData}
use Rattle.tc_read.specs.Read.{start_in}
use Rattle.tc_strict.specs.Verdict.{strict_in}
use Rattle.tc_demand3.specs.Rules.{Telecommand, report_for}
use Rattle.tc_demand3.proofs.Demand3.{reserved-accepted}
use Rattle.tc_demand3.proofs.reserved.Goals as goal

accepted : (f : TcForm) (good : form_check f ≡ gives tt) (p : Telecommand) (before : List ℕ) → Handed (tc f) p → Room (tc f) p.user before
    → (q : PusTcCreatorWithReservedAppData) (l m after : List ℕ) (r : Result ℕ PusError)
    → gives q ≡ reserve_in f p.primary p.secondary (length p.user) true (length before)
    → l ≡ reserved_left_in f p.primary p.secondary (length p.user) true before
    → m ≡ filled_by (fill_in (start_in q.form) q.held (length l) (length p.user)) (start_in q.form) p.user l
    → Wrote (finish_in (start_in q.form) q.held (length m)) (finished q.held m) m r after
    → strict_in f after ≡ gives (report_for f (made_of (command_in f) p))
accepted f good p before g k q l m after r e o h w =
    let t = reserved-accepted f good p before g k in
    let i : q ≡ t.0 = gives-inj _ _ (e ∙ t.1) in
    let b : FinishedBy (command_in f) (start_in q.form) q.held p before r after = record { headed = l; filled = m; reserves = o; fills = h; finishes = w } in
    (t.2 r after (subst (λ (z : PusTcCreatorWithReservedAppData). FinishedBy (command_in f) (start_in z.form) z.held p before r after) i b)).accepted

pub returns-in_err-held : goal.returns-in_err-held
returns-in_err-held c =
    let a = c.args in
    λ good g k.
    let t = reserved-accepted a.form good (packet_by a.sp_header a.sec_header a.app_data.now) a.buf.now g (record { fits = k; is_slice = omega arith }) in
    let m = c.in_err-held.ensures.0 ∙ t.1 in
    absurd (never _ _ m)

pub returns : goal.returns
returns c =
    let a = c.args in
    λ good g k.
    c.judge_in.ensures
    ∙ accepted a.form good (packet_by a.sp_header a.sec_header a.app_data.now) a.buf.now g (record { fits = k; is_slice = omega (arith, c.well_formed) }) _ _ _ _ _
    c.in_ok-held.ensures.0 c.in_ok-held.ensures.1 c.fill_app_data.ensures.1 c.finish.ensures
