-- `tm_demand3::reserved` meets its contract: what may be handed in is reserved, and theorem 4 accepts what the three calls leave.
-- what the three calls leave, one after the other
use Prim.Native.Nat.{ℕ}
use mathlib.Core.Path.{◌≡◌, subst, ◌∙◌}
use mathlib.Core.Bool.{true}
use mathlib.Core.List.{List}
use native.Mathlib.Omega.{arith}
use lib.ListN.{length}
use Rattle.std.specs.Prelude.{Result}
use Rattle.space_packet.specs.Answer.{gives}
use Rattle.space_packet.specs.declared.PusError.{PusError}
use Rattle.space_packet.specs.Wrote.{Wrote}
use Rattle.space_packet.proofs.Answers.{gives-inj, never}
use Rattle.ecss_write.specs.Writer.{packet_by, Handed}
use Rattle.reserve.specs.Reserve.{fill_in, filled_by, finish_in, finished}
use Rattle.exactness.specs.Demand3.{Room, made_of, FinishedBy}
use Rattle.tm_header.specs.Header.{time_limit, timed, tm}
use Rattle.tm_write.specs.Report.{report_by}
use Rattle.tm_reserved.specs.Reserved.{reserve_of, reserved_left}
use Rattle.tm_reserved.specs.declared.PusTmCreatorWithReservedSourceData.{PusTmCreatorWithReservedSourceData}
use Rattle.tm_read.specs.Read.{start_in}
use Rattle.tm_strict.specs.Verdict.{strict_in}
use Rattle.tm_demand3.specs.Rules.{Telemetry, report_for}
use Rattle.tm_demand3.proofs.Demand3.{reserved-accepted}
use Rattle.tm_demand3.proofs.reserved.Goals as goal

accepted : (t : ℕ) (good : time_limit t ≡ gives tt) (p : Telemetry) (before : List ℕ) → Handed (tm t) p → Room (tm t) p.user before
    → (q : PusTmCreatorWithReservedSourceData) (l m after : List ℕ) (r : Result ℕ PusError)
    → gives q ≡ reserve_of t p.primary p.secondary (length p.user) true (length before)
    → l ≡ reserved_left t p.primary p.secondary (length p.user) true before
    → m ≡ filled_by (fill_in (start_in q.time_len) q.held (length l) (length p.user)) (start_in q.time_len) p.user l
    → Wrote (finish_in (start_in q.time_len) q.held (length m)) (finished q.held m) m r after
    → strict_in t after ≡ gives (report_for t (made_of (report_by t) p))
accepted t good p before g k q l m after r e o h w =
    let z = reserved-accepted t good p before g k in
    let i : q ≡ z.0 = gives-inj _ _ (e ∙ z.1) in
    let b : FinishedBy (report_by t) (start_in q.time_len) q.held p before r after = record { headed = l; filled = m; reserves = o; fills = h; finishes = w } in
    (z.2 r after (subst (λ (y : PusTmCreatorWithReservedSourceData). FinishedBy (report_by t) (start_in y.time_len) y.held p before r after) i b)).accepted

pub returns-in_err-held : goal.returns-in_err-held
returns-in_err-held c =
    let a = c.args in
    λ good g k.
    let t = reserved-accepted a.time_len good (packet_by a.sp_header (timed a.sec_header a.time.now) a.source_data.now) a.buf.now g (record { fits = k; is_slice = omega arith }) in
    absurd (never _ _ (c.in_err-held.ensures.0 ∙ t.1))

pub returns : goal.returns
returns c =
    let a = c.args in
    λ good g k.
    c.judge.ensures
    ∙ accepted a.time_len good (packet_by a.sp_header (timed a.sec_header a.time.now) a.source_data.now) a.buf.now g (record { fits = k; is_slice = omega (arith, c.well_formed) }) _ _ _ _ _
    c.in_ok-held.ensures.0 c.in_ok-held.ensures.1 c.fill_source_data.ensures.1 c.finish.ensures
