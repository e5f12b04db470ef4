-- `PusTcCreatorWithReservedAppData::new_in` meets its contract: the shared reservation of its checks and its encoded header.
use mathlib.Core.Path.{refl, ◌∙◌}
use native.Mathlib.Omega.{arith}
use lib.ListN.{length, replicate}
use Rattle.std.proofs.Common.{rules}
use Rattle.space_packet.specs.Answer.{and_then}
use Rattle.ecss_write.proofs.Calls.{reserve-answer, reserve-left}
use Rattle.tc_write.specs.Command.{command_in}
use Rattle.tc_write.proofs.Command.{hands}
use Rattle.tc_reserved.proofs.PusTcCreatorWithReservedAppData.new_in.Goals as goal

pub returns-in_err-total : goal.returns-in_err-total
unfolding and_then
returns-in_err-total c =
    let a = c.args in
    let v = command_in a.form in
    let o =
    hands a.form a.sec_header (replicate 9 0) _ _ _ refl (omega arith) c.write_to_slice_in.ensures.left
    c.sec_header_len.ensures c.front.ensures.result_value c.asks.result c.asks.ensures in
    let b = a.has_checksum in
    let n = a.app_data_len in
    let e = c.in_err-total.ensures.0 ∙ reserve-answer v a.sp_header _ a.sec_header _ _ o b n (length a.buf.now) c.as_type.ensures in
    (search rules, reserve-left v a.sp_header _ a.sec_header _ _ o b n a.buf.now _ c.as_type.ensures c.in_err-total.ensures.1)

pub returns : goal.returns
unfolding and_then
returns c =
    let a = c.args in
    let v = command_in a.form in
    let o =
    hands a.form a.sec_header (replicate 9 0) _ _ _ refl (omega arith) c.write_to_slice_in.ensures.left
    c.sec_header_len.ensures c.front.ensures.result_value c.asks.result c.asks.ensures in
    let b = a.has_checksum in
    let n = a.app_data_len in
    let e = c.in_ok-total.ensures.0 ∙ reserve-answer v a.sp_header _ a.sec_header _ _ o b n (length a.buf.now) c.as_type.ensures in
    (search rules, reserve-left v a.sp_header _ a.sec_header _ _ o b n a.buf.now _ c.as_type.ensures c.in_ok-total.ensures.1)
