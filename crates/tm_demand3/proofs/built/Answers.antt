-- `tm_demand3::built` meets its contract: what may be handed in is not refused, and its creator is under the rules of `written`.
-- what `written` says of a creator
use Prim.Native.Nat.{ℕ}
use mathlib.Core.Path.{◌≡◌, refl, ap, ◌∙◌, subst}
use mathlib.Core.Bool.{true}
use mathlib.Core.List.{List}
use lib.ListN.{length}
use Rattle.std.specs.Prelude.{Result}
use Rattle.space_packet.specs.Answer.{gives}
use Rattle.space_packet.specs.declared.PusError.{PusError}
use Rattle.space_packet.proofs.Answers.{gives-inj, gives_then, never}
use Rattle.ecss.specs.Version.{default_config}
use Rattle.ecss.specs.declared.CreatorConfig.{CreatorConfig}
use Rattle.ecss.specs.Kind.{Rules}
use Rattle.ecss_write.specs.Writer.{packet_by, made_by, Handed}
use Rattle.exactness.specs.Demand3.{Fits, made_of}
use Rattle.exactness.proofs.Given.{handed-new, handed-rules}
use Rattle.tm_header.specs.Header.{time_limit, timed, tm}
use Rattle.tm_read.specs.declared.PusTmRecord.{PusTmRecord}
use Rattle.tm_write.specs.Report.{report_by}
use Rattle.tm_write.specs.Creator.{creator_of, new_of, header_with}
use Rattle.tm_write.specs.declared.PusTmCreator.{PusTmCreator}
use Rattle.tm_demand3.specs.Rules.{Telemetry, Accepts}
use Rattle.tm_demand3.proofs.Demand3.{laws}
use Rattle.tm_demand3.proofs.built.Goals as goal

abbrev Judged : List ℕ → List ℕ → List ℕ → Result PusTmRecord PusError → PusTmCreator → Type 0
Judged l d before v c =
    time_limit c.time_len ≡ gives tt → c.has_checksum ≡ true → Rules (tm c.time_len) (packet_by c.sp_header (header_with c l) d)
    → Fits (tm c.time_len) d before → Accepts c.time_len v (packet_by c.sp_header (header_with c l) d)

by_default : (t : ℕ) (k : CreatorConfig) (p : Telemetry) → k ≡ default_config
    → new_of t p.primary p.secondary.fields p.secondary.time (length p.user) k ≡ new_of t p.primary p.secondary.fields p.secondary.time (length p.user) default_config
by_default t k p e = ap (new_of t p.primary p.secondary.fields p.secondary.time (length p.user)) e

module _ (t : ℕ) (good : time_limit t ≡ gives tt) (p : Telemetry) (g : Handed (tm t) p) where
  made : PusTmCreator
  made = creator_of t (made_by (report_by t) p.primary p.user) p.secondary.fields true

  built-given : new_of t p.primary p.secondary.fields p.secondary.time (length p.user) default_config ≡ gives made
  unfolding made
  built-given = gives_then _ _ _ (handed-new (report_by t) (laws t good) p.primary p.secondary p.user g)

  -- what is made has that time length and a checksum, and is under the rules
  made-judged : (c : PusTmCreator) (before : List ℕ) (v : Result PusTmRecord PusError) → Fits (tm t) p.user before → c ≡ made → Judged p.secondary.time p.user before v c
      → Accepts t v (made_of (report_by t) p)
  unfolding made
  made-judged c before v k e w =
      subst (Judged p.secondary.time p.user before v) e w good refl (handed-rules (report_by t) (laws t good) p.primary p.secondary p.user g) k

pub returns-in_err-creator : goal.returns-in_err-creator
returns-in_err-creator c =
    let a = c.args in
    let p = packet_by a.sp_header (timed a.sec_header a.time.now) a.source_data.now in
    λ good g _. absurd (never _ _ (c.in_err-creator.ensures ∙ by_default _ _ p c.default-config.ensures ∙ built-given a.time_len good p g))

pub returns : goal.returns
returns c =
    let a = c.args in
    let p = packet_by a.sp_header (timed a.sec_header a.time.now) a.source_data.now in
    λ good g fits.
    let m = c.in_ok-creator.ensures ∙ by_default _ _ p c.default-config.ensures ∙ built-given a.time_len good p g in
    made-judged a.time_len good p g _ a.buf.now c.written.result fits (gives-inj _ _ m) c.written.ensures
