-- `tc_demand3::written` meets its contract: theorem 4 accepts what the write leaves.
-- the form of the creator is the one that is judged by
use mathlib.Core.Path.{◌≡◌, ap, ◌∙◌, subst}
use mathlib.Core.Bool.{Bool, true}
use mathlib.Core.List.{List}
use Prim.Native.Nat.{ℕ}
use native.Mathlib.Omega.{arith}
use Rattle.std.specs.Prelude.{Result}
use Rattle.space_packet.specs.declared.PusError.{PusError}
use Rattle.tc_header.specs.declared.TcForm.{TcForm}
use Rattle.tc_write.specs.Creator.{creator_in, PacketWrote}
use Rattle.tc_write.specs.declared.PusTcCreator.{PusTcCreator}
use Rattle.tc_strict.specs.Verdict.{strict_in}
use Rattle.tc_demand3.proofs.Demand3.{written-accepted}
use Rattle.tc_demand3.proofs.written.Goals as goal

in-form : (f g : TcForm) (s : List ℕ) → f ≡ g → strict_in f s ≡ strict_in g s
in-form f g s e = ap (λ (z : TcForm). strict_in z s) e

with-checksum : (t : PusTcCreator) (d before after : List ℕ) (r : Result ℕ PusError) → t.has_checksum ≡ true → PacketWrote t d before r after
    → PacketWrote (creator_in t.form t.sp_header t.sec_header true) d before r after
with-checksum t d before after r e w =
    subst (λ (b : Bool). PacketWrote (creator_in t.form t.sp_header t.sec_header b) d before r after) e w

pub returns : goal.returns
returns c =
    let a = c.args in
    let t = a.creator in
    let w = c.write.ensures in
    λ good h u m.
    c.judge_in.ensures ∙ in-form _ _ _ c.form.ensures
    ∙ (written-accepted t.form good t.sp_header t.sec_header a.app_data.now a.buf.now _ _ u (record { fits = m; is_slice = omega arith }) (with-checksum t a.app_data.now a.buf.now _ _ h w)).accepted
