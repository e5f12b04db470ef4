-- `PusTmCreatorWithReservedSourceData::new` meets its contract: the shared reservation of its checks and its encoded header.
use mathlib.Core.Path.{refl, ◌∙◌}
use native.Mathlib.Omega.{arith}
use lib.ListN.{length, replicate}
use Rattle.std.proofs.Common.{rules}
use Rattle.space_packet.specs.Answer.{and_then}
use Rattle.ecss_write.proofs.Calls.{reserve-answer, reserve-left}
use Rattle.tm_header.specs.Header.{timed}
use Rattle.tm_write.specs.Report.{report_by}
use Rattle.tm_write.proofs.Report.{hands}
use Rattle.tm_reserved.proofs.PusTmCreatorWithReservedSourceData.new.Goals as goal

pub returns-in_err-total : goal.returns-in_err-total
unfolding and_then
returns-in_err-total c =
    let a = c.args in
    let w = report_by a.time_len in
    let x = timed a.sec_header a.time.now in
    let o =
    hands a.time_len x (replicate 23 0) _ _ _ refl (omega arith) c.write_to_slice.ensures.left
    c.sec_header_len.ensures c.front.ensures.result_value c.asks.result c.asks.ensures in
    let b = a.has_checksum in
    let n = a.source_data_len in
    let e = c.in_err-total.ensures.0 ∙ reserve-answer w a.sp_header _ x _ _ o b n (length a.buf.now) c.as_type.ensures in
    (search rules, reserve-left w a.sp_header _ x _ _ o b n a.buf.now _ c.as_type.ensures c.in_err-total.ensures.1)

pub returns : goal.returns
unfolding and_then
returns c =
    let a = c.args in
    let w = report_by a.time_len in
    let x = timed a.sec_header a.time.now in
    let o =
    hands a.time_len x (replicate 23 0) _ _ _ refl (omega arith) c.write_to_slice.ensures.left
    c.sec_header_len.ensures c.front.ensures.result_value c.asks.result c.asks.ensures in
    let b = a.has_checksum in
    let n = a.source_data_len in
    let e = c.in_ok-total.ensures.0 ∙ reserve-answer w a.sp_header _ x _ _ o b n (length a.buf.now) c.as_type.ensures in
    (search rules, reserve-left w a.sp_header _ x _ _ o b n a.buf.now _ c.as_type.ensures c.in_ok-total.ensures.1)
