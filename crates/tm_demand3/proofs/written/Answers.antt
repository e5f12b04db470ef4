-- `tm_demand3::written` meets its contract: theorem 4 accepts what the write leaves.
-- the time length of the creator is the one that is judged by
use mathlib.Core.Path.{◌≡◌, ap, ◌∙◌, subst}
use mathlib.Core.Bool.{Bool, true}
use mathlib.Core.List.{List}
use Prim.Native.Nat.{ℕ}
use native.Mathlib.Omega.{arith}
use Rattle.std.specs.Prelude.{Result}
use Rattle.space_packet.specs.declared.PusError.{PusError}
use Rattle.tm_write.specs.Creator.{creator_of, PacketWrote}
use Rattle.tm_write.specs.declared.PusTmCreator.{PusTmCreator}
use Rattle.tm_strict.specs.Verdict.{strict_in}
use Rattle.tm_demand3.proofs.Demand3.{written-accepted}
use Rattle.tm_demand3.proofs.written.Goals as goal

of_length : (t u : ℕ) (s : List ℕ) → t ≡ u → strict_in t s ≡ strict_in u s
of_length t u s e = ap (λ (z : ℕ). strict_in z s) e

with-checksum : (c : PusTmCreator) (l d before after : List ℕ) (r : Result ℕ PusError) → c.has_checksum ≡ true → PacketWrote c l d before r after
    → PacketWrote (creator_of c.time_len c.sp_header c.sec_header true) l d before r after
with-checksum c l d before after r e w =
    subst (λ (b : Bool). PacketWrote (creator_of c.time_len c.sp_header c.sec_header b) l d before r after) e w

pub returns : goal.returns
returns c =
    let a = c.args in
    let k = a.creator in
    let w = c.write.ensures in
    λ good h u m.
    c.judge.ensures ∙ of_length _ _ _ c.time_len.ensures
    ∙ (written-accepted k.time_len good k.sp_header k.sec_header a.time.now a.source_data.now a.buf.now _ _ u (record { fits = m; is_slice = omega arith }) (with-checksum k a.time.now a.source_data.now a.buf.now _ _ h w)).accepted
