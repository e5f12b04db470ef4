-- `PusTcRecord::of` meets its contract: there are octets enough for both headers, so neither read is refused.
use Prim.Native.Nat.{ℕ, ◌-◌}
use mathlib.Core.Path.{refl, sym, ap, ◌∙◌}
use Rattle.std.specs.Prelude.{Ok}
use Rattle.space_packet.proofs.Answers.{never}
use Rattle.tc_read.proofs.Records.{both_read, record-read}
use Rattle.tc_read.proofs.PusTcRecord.of.Goals as goal

pub returns-in_err-from_be_bytes : goal.returns-in_err-from_be_bytes
returns-in_err-from_be_bytes c =
    absurd (never _ _ (c.in_err-from_be_bytes.ensures ∙ (both_read _ _ _ _ _ c.requires refl).0))

pub returns-in_err-from_be_bytes_in : goal.returns-in_err-from_be_bytes_in
returns-in_err-from_be_bytes_in c =
    absurd (never _ _ (c.in_err-from_be_bytes_in.ensures ∙ (both_read _ _ _ _ _ c.requires c.sec_header_part.ensures.result_value).1))

pub returns : goal.returns
returns c =
    let h = sym c.in_ok-from_be_bytes.ensures in
    let x = sym c.in_ok-from_be_bytes_in.ensures in
    let end = ap (λ (k : ℕ). c.args.total - k) c.trailer_len.ensures in
    ap Ok
    (record-read _ _ _ _ _ _ _ _ _ _ c.requires h c.sec_header_part.ensures.result_value x c.min_len_without_app_data.ensures end c.crc_taken.ensures)
