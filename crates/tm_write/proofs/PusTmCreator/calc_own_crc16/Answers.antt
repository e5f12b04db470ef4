-- `PusTmCreator::calc_own_crc16` meets its contract: the shared checksum of its checks and its encoded header.
use mathlib.Core.Path.{refl, ◌∙◌}
use native.Mathlib.Omega.{arith}
use lib.ListN.{replicate}
use Rattle.ecss_write.proofs.Calls.{own}
use Rattle.tm_write.specs.Report.{report_by}
use Rattle.tm_write.specs.Creator.{header_with}
use Rattle.tm_write.proofs.Report.{hands}
use Rattle.tm_write.proofs.PusTmCreator.calc_own_crc16.Goals as goal

pub returns : goal.returns
returns c =
    let a = c.args in
    let t = a.self in
    let x = header_with t a.time.now in
    c.own_checksum.ensures
    ∙ own (report_by t.time_len) t.sp_header x c.asks.result _
    (hands t.time_len x (replicate 23 0) _ _ _ refl (omega arith) c.write_to_slice.ensures.left
    c.sec_header_len.ensures c.front.ensures.result_value c.asks.result c.asks.ensures)
    a.source_data.now
