-- `packet::put` meets its contract: the write that was chosen.
-- what is written under a choice that is known
use Prim.Native.Nat.{ℕ}
use mathlib.Core.Path.{◌≡◌, sym, subst}
use mathlib.Core.Bool.{Bool, true, false}
use mathlib.Core.List.{List}
use Rattle.std.specs.Prelude.{Result}
use Rattle.space_packet.specs.declared.PusError.{PusError}
use Rattle.space_packet.specs.Answer.{Passed}
use Rattle.space_packet.specs.Wrote.{Wrote}
use Rattle.ecss_write.specs.Write.{put_with, put_octets}
use Rattle.ecss_write.proofs.packet.put.Goals as goal

chosen : (x y : Bool) (before after : Passed) (start : ℕ) (b : Bool) (n m : ℕ) (o l k : List ℕ) (r : Result ℕ PusError) → x ≡ y
    → Wrote (put_with y before after start b n m) (put_octets y b o) l r k → Wrote (put_with x before after start b n m) (put_octets x b o) l r k
chosen x y before after start b n m o l k r e =
    subst (λ (z : Bool). Wrote (put_with z before after start b n m) (put_octets z b o) l r k) (sym e)

pub returns-then-bare : goal.returns-then-bare
returns-then-bare c =
    chosen _ true _ _ _ _ _ _ _ _ _ _ c.if-bare.true c.write_bare.ensures

pub returns : goal.returns
returns c =
    chosen _ false _ _ _ _ _ _ _ _ _ _ c.if-bare.false c.write.ensures
