-- `frame::crc_taken` meets its contract: none, or the word at total - 2.
use Prim.Native.Nat.{◌-◌}
use mathlib.Core.Path.{◌≡◌, sym, ap, ◌∙◌}
use mathlib.Core.Bool.{not, Bool}
use native.Mathlib.Omega.{arith}
use borrow.Author.Tests.{not-true, not-false}
use Rattle.std.specs.Prelude.{Some}
use Rattle.space_packet.specs.Bits.{word}
use Rattle.ecss.specs.Frame.{crc_taken}
use Rattle.ecss.proofs.frame.crc_taken.Goals as goal

pub returns-then-not-has_checksum : goal.returns-then-not-has_checksum
returns-then-not-has_checksum c =
    let a = c.args in sym (ap (λ (b : Bool). crc_taken b a.s.now a.total) (not-true a.has_checksum (ap not c.if-not-has_checksum.true)))

pub returns-then-total-lt2 : goal.returns-then-total-lt2
returns-then-total-lt2 c =
    let a = c.args in
    let e : 0 ≡ a.total - 2 = omega (arith, c.if-total-lt2.true) in
    ap Some (c.word_at.ensures ∙ ap (word a.s.now) e)
    ∙ sym (ap (λ (b : Bool). crc_taken b a.s.now a.total) (not-false a.has_checksum (ap not c.if-not-has_checksum.false)))

pub returns : goal.returns
returns c =
    let a = c.args in
    ap Some c.word_at-2.ensures ∙ sym (ap (λ (b : Bool). crc_taken b a.s.now a.total) (not-false a.has_checksum (ap not c.if-not-has_checksum.false)))
