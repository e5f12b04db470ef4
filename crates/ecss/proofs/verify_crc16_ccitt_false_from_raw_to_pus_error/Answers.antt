-- `ecss::verify_crc16_ccitt_false_from_raw_to_pus_error` meets its contract: its tests are the definition's, and the register, gone
-- back over the last two octets, is the checksum of those before.
use mathlib.Core.List.{[], ◌∷◌}
use mathlib.Core.Path.{sym, ap, ◌∙◌}
use Prim.Native.Nat.{ℕ}
use borrow.Author.Tests.{lt-ltb}
use Rattle.space_packet.specs.Answer.{refuses, refusal}
use Rattle.space_packet.proofs.Answers.{refuse-yes}
use Rattle.crc_register.specs.Crc.{crc_of}
use Rattle.crc_register.proofs.Zeros.{run-lt, crc_of-lt}
use Rattle.ecss.specs.Frame.{unsealed}
use Rattle.ecss.proofs.Sealed.{crc-last-two, verified-passes, verified-fails}
use Rattle.ecss.proofs.verify_crc16_ccitt_false_from_raw_to_pus_error.Goals as goal

pub returns-then-n-lt2 : goal.returns-then-n-lt2
returns-then-n-lt2 c =
    sym (refuse-yes _ _ _ (lt-ltb _ _ c.if-n-lt2.true))

pub returns-then-all-eq0 : goal.returns-then-all-eq0
returns-then-all-eq0 c =
    sym (verified-passes _ _ c.if-n-lt2.false (sym c.crc_ccitt_false_no_table-all.ensures ∙ c.if-all-eq0.true))

pub returns : goal.returns
returns c =
    let a = c.args in
    let s = a.raw_data.now in
    let h = c.if-n-lt2.false in
    let all = c.crc_ccitt_false_no_table-all.ensures in
    let u = crc_of (unsealed s) in
    let one = c.octet_back.ensures _ (run-lt u _ (crc_of-lt (unsealed s))) (crc-last-two s h ∙ sym all) in
    let two = c.octet_back-computed.ensures u (crc_of-lt (unsealed s)) (sym one) in
    ap (λ (x : ℕ). refuses (refusal 4 (a.crc16 ∷ x ∷ []))) two
    ∙ sym (verified-fails s a.crc16 h (λ z. c.if-all-eq0.false (all ∙ z)))
