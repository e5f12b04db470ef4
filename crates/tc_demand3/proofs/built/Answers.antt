-- `tc_demand3::built` meets its contract: what may be handed in is not refused, and its creator is under the rules of `written`.
use Prim.Native.Nat.{ℕ}
use mathlib.Core.Path.{◌≡◌, refl, ap, ◌∙◌, subst}
use mathlib.Core.Bool.{Bool, true}
use mathlib.Core.List.{List}
use lib.ListN.{length}
use Rattle.std.specs.Prelude.{Result}
use Rattle.space_packet.specs.Answer.{gives}
use Rattle.space_packet.specs.declared.PusError.{PusError}
use Rattle.space_packet.proofs.Answers.{gives-inj, gives_then, never}
use Rattle.ecss.specs.Kind.{Rules}
use Rattle.ecss_write.specs.Writer.{packet_by, made_by, Handed}
use Rattle.exactness.specs.Demand3.{Fits, made_of}
use Rattle.exactness.proofs.Given.{handed-new, handed-rules}
use Rattle.tc_header.specs.Form.{form_check}
use Rattle.tc_header.specs.Header.{tc}
use Rattle.tc_header.specs.declared.TcForm.{TcForm}
use Rattle.tc_write.specs.Command.{command_in}
use Rattle.tc_write.specs.Creator.{creator_in, new_in}
use Rattle.tc_write.specs.declared.PusTcCreator.{PusTcCreator}
use Rattle.tc_read.specs.declared.PusTcRecord.{PusTcRecord}
use Rattle.tc_write.proofs.Command.{writer-laws}
use Rattle.tc_demand3.specs.Rules.{Telecommand, Accepts}
use Rattle.tc_demand3.proofs.built.Goals as goal

built-given : (f : TcForm) → form_check f ≡ gives tt → (p : Telecommand) (b : Bool) → b ≡ true → Handed (tc f) p
    → new_in f p.primary p.secondary (length p.user) (record { set_ccsds_len = true; has_checksum = b })
    ≡ gives (creator_in f (made_by (command_in f) p.primary p.user) p.secondary true)
built-given f good p b h g =
    ap (λ (z : Bool). new_in f p.primary p.secondary (length p.user) (record { set_ccsds_len = true; has_checksum = z })) h
    ∙ gives_then _ _ _ (handed-new (command_in f) (writer-laws f good) p.primary p.secondary p.user g)

-- what is made has that form and a checksum, and is under the rules
made-judged : (f : TcForm) → form_check f ≡ gives tt → (t : PusTcCreator) (p : Telecommand) (before : List ℕ) (v : Result PusTcRecord PusError) → Handed (tc f) p → Fits (tc f) p.user before
    → t ≡ creator_in f (made_by (command_in f) p.primary p.user) p.secondary true
    → (form_check t.form ≡ gives tt → t.has_checksum ≡ true → Rules (tc t.form) (packet_by t.sp_header t.sec_header p.user) → Fits (tc t.form) p.user before
    → Accepts t.form v (packet_by t.sp_header t.sec_header p.user))
    → Accepts f v (made_of (command_in f) p)
made-judged f good t p before v g k e w =
    subst (λ (u : PusTcCreator). form_check u.form ≡ gives tt → u.has_checksum ≡ true → Rules (tc u.form) (packet_by u.sp_header u.sec_header p.user) → Fits (tc u.form) p.user before → Accepts u.form v (packet_by u.sp_header u.sec_header p.user)) e w
    good refl (handed-rules (command_in f) (writer-laws f good) p.primary p.secondary p.user g) k

pub returns-in_err-build : goal.returns-in_err-build
returns-in_err-build c =
    let a = c.args in
    let t = a.builder.0 in
    λ good h g k.
    let m = c.in_err-build.ensures ∙ built-given t.form good (packet_by t.sp_header t.sec_header a.app_data.now) t.has_checksum h g in
    absurd (never _ _ m)

pub returns : goal.returns
returns c =
    let a = c.args in
    let t = a.builder.0 in
    let p = packet_by t.sp_header t.sec_header a.app_data.now in
    λ good h g k.
    let m = c.in_ok-build.ensures ∙ built-given t.form good p t.has_checksum h g in
    made-judged t.form good _ p a.buf.now c.written.result g k (gives-inj _ _ m) c.written.ensures
